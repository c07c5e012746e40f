use mathlib.Core.Path.{refl}
use Rattle.lists.proofs.TestsLaws.{both_tell}
use Rattle.box_reports.proofs.in_box.Goals as goal

pub returns : goal.returns
returns c = both_tell _ _ refl refl
