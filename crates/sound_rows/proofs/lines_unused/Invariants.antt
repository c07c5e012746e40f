use Rattle.sound_directory.proofs.JoinedLaws.{Joined}
use Rattle.sound_rows.specs.Sound.{is_unused_line}
use Rattle.sound_rows.proofs.lines_unused.Given as goal

-- Up to the one at hand, what is joined says whether each is unused (`Joined`).
abbrev pub invariant-loop-line : goal.invariant-loop-line
invariant-loop-line l = Joined is_unused_line l.lines l.fronts l.norths l.line-index
