use mathlib.Core.Path.{refl}
use borrow.Author.Rules.{rules}
use Rattle.cell_last.proofs.MovedLaws.{loose_takes, settles_out}
use Rattle.cell_last.proofs.settled_last.Goals as goal

pub take_out-requires : goal.take_out-requires
take_out-requires c = search loose_takes

pub hand_last-requires : goal.hand_last-requires
hand_last-requires c = (search rules, search settles_out)

pub returns : goal.returns
returns c = λ x. c.hand_last.ensures (settles_out x refl c.take_out.ensures)
