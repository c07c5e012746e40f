use mathlib.Core.Path.{◌≡◌}
use lib.ListN.{take}
use Rattle.desk.specs.Held.{waiting_with}
use Rattle.waiting.specs.Waiting.{reports_of}
use Rattle.range_places.specs.Places.{reports_over}
use Rattle.latest_places.specs.Latest.{anywhere, places_by}
use Rattle.latest_places.proofs.hold_reports.Given as goal

-- The reports passed lie over the table.
abbrev pub invariant-loop-i : goal.invariant-loop-i
invariant-loop-i l = places_by l.table.easts l.table.norths ≡ reports_over anywhere (take l.i (reports_of (waiting_with l.n l.waiting))) (places_by l.initial.table.easts l.initial.table.norths)
