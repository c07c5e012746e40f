use mathlib.Core.Path.{refl}
use borrow.Author.Rules.{rules}
use Rattle.sound_directory.proofs.LoopLaws.{pass_start, pass_turn, pass_end}
use Rattle.sound_rows.proofs.are_marks.Goals as goal

pub loop-mark-init : goal.loop-mark-init
loop-mark-init c = search pass_start

pub loop-mark-preserved : goal.loop-mark-preserved
loop-mark-preserved c = pass_turn _ _ 0 (search rules) (search rules) refl

pub returns : goal.returns
returns c = search pass_end
