use Rattle.sound_rows.specs.Sound.{line_test}
use Rattle.sound_rows.proofs.ClimbLaws.{Climbs}
use Rattle.sound_rows.proofs.lines_ok.Given as goal

-- What is left to test, from the last radio on, is the test (`Climbs`).
abbrev pub invariant-loop-line : goal.invariant-loop-line
invariant-loop-line l = Climbs (λ x. x.radio) line_test l.lines l.last l.line-index
