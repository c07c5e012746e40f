use Rattle.desk.specs.Held.{waiting_with}
use Rattle.sound_desk.proofs.FewLaws.{FewAt}
use Rattle.sound_desk.proofs.few_sound.Given as goal

-- Each report so far is counted at its memory cell, and none has 8 (`FewAt`).
abbrev pub invariant-loop-i : goal.invariant-loop-i
invariant-loop-i l = FewAt (waiting_with l.n l.waiting) l.at l.i l.crowd
