use mathlib.Core.Path.{◌≡◌}
use Prim.Native.Nat.{◌-◌}
use lib.ListN.{replicate}
use Rattle.lists.specs.Parts.{put}
use Rattle.desk.specs.Layout.{no_report}
use Rattle.desk.specs.Views.{every_report}
use Rattle.box_reports.proofs.blanked.Given as goal

-- From k up to i the slots are unused, and nothing else is changed.
abbrev pub invariant-loop-i : goal.invariant-loop-i
invariant-loop-i l = every_report l.waiting ≡ put (every_report l.initial.waiting) l.k (replicate (l.i - l.k) no_report)
