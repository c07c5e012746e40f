use lib.ListN.{length, take}
use mathlib.Core.Path.{◌≡◌}
use Rattle.desk.specs.Held.{waiting_with}
use Rattle.memo_index.specs.Index.{table_size}
use Rattle.waiting.specs.Waiting.{reports_of}
use Rattle.range_places.specs.Places.{sought_of, places_in, reports_over}
use Rattle.range_places.proofs.hold_reports.Given as goal

-- The reports passed lie over the table.
abbrev pub invariant-loop-i : goal.invariant-loop-i
invariant-loop-i l = (length l.table ≡ table_size) × (places_in l.table ≡ reports_over (sought_of l.search) (take l.i (reports_of (waiting_with l.n l.waiting))) (places_in l.initial.table))
