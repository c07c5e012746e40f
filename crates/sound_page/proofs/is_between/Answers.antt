use mathlib.Core.Path.{refl}
use Rattle.lists.proofs.TestsLaws.{both_tell}
use Rattle.sound_page.proofs.is_between.Goals as goal

pub returns : goal.returns
returns c = both_tell _ _ refl refl
