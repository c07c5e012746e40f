use mathlib.Core.Path.{refl}
use Rattle.sound_entries.proofs.WalkLaws.{tally_start, page_radio, page_turn, page_end}
use borrow.Author.Rules.{rules}
use Rattle.sound_entries.proofs.tally_page.Goals as goal

pub loop-i-init : goal.loop-i-init
loop-i-init c = (search rules, search tally_start)

pub is_stale-stale-requires : goal.is_stale-stale-requires
is_stale-stale-requires c = (search page_radio, search rules)

pub radio_index-k-requires : goal.radio_index-k-requires
radio_index-k-requires c = search page_radio

pub loop-i-preserved : goal.loop-i-preserved
loop-i-preserved c = (search rules, page_turn _ c.loop-i.invariant.1 c.entry_count-n.ensures.0 c.loop-i-test.true _ c.read_entry-e.ensures c.radio_index-k.ensures.0 c.is_stale-stale.ensures c.weight.ensures (search rules) refl)

pub returns : goal.returns
returns c = page_end _ c.loop-i.invariant.1 c.entry_count-n.ensures.0 c.loop-i-test.false
