use mathlib.Core.Path.{◌≡◌}
use lib.ListN.{take}
use Rattle.desk.specs.Held.{waiting_with}
use Rattle.waiting.specs.Waiting.{reports_of}
use Rattle.latest_fixes.specs.Fixes.{fixes_in, reports_told}
use Rattle.latest_fixes.proofs.hold_reports.Given as goal

-- The reports passed lie over the fixes.
abbrev pub invariant-loop-i : goal.invariant-loop-i
invariant-loop-i l = fixes_in l.fixes ≡ reports_told l.seats (take l.i (reports_of (waiting_with l.n l.waiting))) (fixes_in l.initial.fixes)
