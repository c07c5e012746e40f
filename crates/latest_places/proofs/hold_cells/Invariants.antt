use mathlib.Core.Path.{◌≡◌}
use lib.ListN.{take}
use Rattle.range_places.specs.Places.{over, slot_over}
use Rattle.latest_places.specs.Latest.{anywhere, unjudged, places_by}
use Rattle.latest_places.proofs.hold_cells.Given as goal

-- The cells passed lie over the table.
abbrev pub invariant-loop-cell : goal.invariant-loop-cell
invariant-loop-cell l = places_by l.table.easts l.table.norths ≡ over (slot_over unjudged l.pages anywhere) (take l.cell-index l.cells) (places_by l.initial.table.easts l.initial.table.norths)
