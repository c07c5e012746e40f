use Prim.Native.Nat.{◌≤◌}
use Rattle.desk.specs.Views.{every_report}
use Rattle.boxes.specs.Boxes.{box_in}
use Rattle.box_reports.proofs.PartingLaws.{PartingAt}
use Rattle.box_reports.proofs.moved_apart.Given as goal

-- Of the first i reports those of m have gone, and the others have moved up (`PartingAt`).
abbrev pub invariant-loop-i : goal.invariant-loop-i
invariant-loop-i l = (l.gone ≤ l.i) × PartingAt (box_in l.m) l.at (every_report l.initial.waiting) l.i l.gone (every_report l.waiting) (every_report l.taken)
