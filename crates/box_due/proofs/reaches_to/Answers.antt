use mathlib.Core.Path.{refl}
use Rattle.lists.proofs.TestsLaws.{both_tell}
use Rattle.box_due.proofs.reaches_to.Goals as goal

pub returns : goal.returns
returns c = both_tell _ _ refl refl
