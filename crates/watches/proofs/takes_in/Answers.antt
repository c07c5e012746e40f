use Rattle.watches.proofs.UpdateLaws.{placed_in, none_in}
use Rattle.watches.proofs.takes_in.Goals as goal

pub returns-in-Some : goal.returns-in-Some
returns-in-Some c = λ x e. rw c.in-Some.is (placed_in x _ c.is_covered.ensures c.area_of.ensures e)

pub returns-in-None : goal.returns-in-None
returns-in-None c = λ x e. rw c.in-None.is (none_in x)
