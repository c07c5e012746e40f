use Rattle.sound_entries.proofs.WalkLaws.{Cells_start, Cells_radios, Cells_turn, Cells_end}
use borrow.Author.Rules.{rules}
use Rattle.sound_entries.proofs.tally_cells.Goals as goal

pub loop-i-init : goal.loop-i-init
loop-i-init c = search (Cells_start, rules)

pub tally_chain-requires : goal.tally_chain-requires
tally_chain-requires c = (search rules, search Cells_radios)

pub loop-i-preserved : goal.loop-i-preserved
loop-i-preserved c = search Cells_turn

pub returns : goal.returns
returns c = Cells_end _ c.loop-i.invariant (search rules) c.loop-i-test.false
