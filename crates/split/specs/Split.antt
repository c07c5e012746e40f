-- What a split makes of a cell (01, "Split") on what the desk holds: the two cells' slots.
use Rattle.std.specs.Prelude.{ℕ}
use Rattle.rules.specs.Grid.{Rect}
use Rattle.rules.specs.Cut.{Cut}
use Rattle.rules.specs.Flush.{low_edges, high_edges}
use Rattle.desk.specs.declared.Slot.{Slot}
use Rattle.desk.specs.Views.{edges_of}

-- a cell's slot
abbrev pub slot_with : ℕ → Rect → ℕ → Slot
slot_with n r first = record { number = n; west = r.easts.low; east = r.easts.high; south = r.norths.low; north = r.norths.high; first = first }

-- "The low side keeps d's number; the other takes the smallest unused number"
unfoldable pub low_slot : Cut → Slot → ℕ → Slot
low_slot c d first = slot_with d.number (low_edges c (edges_of d)) first

unfoldable pub high_slot : Cut → Slot → ℕ → ℕ → Slot
high_slot c d number first = slot_with number (high_edges c (edges_of d)) first
