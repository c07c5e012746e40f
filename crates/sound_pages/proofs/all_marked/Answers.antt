use mathlib.Core.Path.{◌∙◌}
use Rattle.sound_pages.proofs.MarksLaws.{all_same}
use Rattle.sound_pages.proofs.all_marked.Goals as goal

pub returns : goal.returns
returns c = c.eq.ensures ∙ all_same _ c.told-marks
