use mathlib.Core.Path.{refl}
use Rattle.lists.proofs.TestsLaws.{both_tell, or_either}
use Rattle.rectangles.proofs.takes_in.Goals as goal

pub returns : goal.returns
returns c = both_tell _ _ refl (or_either _ _)
