-- Join (01, "How a record is carried out"; 02, Job 7) on what the desk holds: the slot of the joined cell, and the neighbour that is taken.
use Rattle.std.specs.Prelude.{Bool, List, ℕ, ◌+◌, ◌<◌, min, max, leb, Option}
use Rattle.terms.specs.Terms.{pages}
use Rattle.lists.specs.Tests.{both, first_at, first_some}
use Rattle.page.specs.Page.{count}
use Rattle.page.specs.Buffer.{page_at}
use Rattle.rules.specs.Limits.{join_entries}
use Rattle.rules.specs.Flush.{Side as CellSide, west, east, south, north, beside, sides}
use Rattle.desk.specs.declared.Slot.{Slot}
use Rattle.desk.specs.Views.{edges_of}
use Rattle.join.specs.declared.Side.{Side}
use Rattle.join.specs.declared.Side.TheVariants.{West, East, South, North}

-- ---- the joined cell

-- "The smaller number survives": it has the edges of both
unfoldable pub joined_slot : Slot → Slot → ℕ → Slot
joined_slot d n first = record {
  number = min d.number n.number;
  west = min d.west n.west;
  east = max d.east n.east;
  south = min d.south n.south;
  north = max d.north n.north;
  first = first;
}

-- ---- "some cell beside d makes a rectangle with it and the two have at most 24 entries together"

-- the value of each side
abbrev pub side_of : Side → CellSide
side_of West = west
side_of East = east
side_of South = south
side_of North = north

-- east and north change places
abbrev pub turned_slot : Slot → Slot
turned_slot x = record { number = x.number; west = x.south; east = x.north; south = x.west; north = x.east; first = x.first }

-- its first page is one of the pages
abbrev pub HasPage : Slot → Type 0
HasPage x = x.first < pages

-- n entries and those of the cell's first page, which is full where it is not the last
unfoldable pub few_with : List ℕ → ℕ → Slot → Bool
few_with b n x = leb (n + count (page_at b x.first)) join_entries

unfoldable pub may_join : List ℕ → CellSide → Slot → ℕ → Slot → Bool
may_join b side d n x = both (beside side (edges_of d) (edges_of x)) (few_with b n x)

-- "take the first of west, east, south, north": its place
unfoldable pub nearest : List ℕ → List Slot → Slot → ℕ → Option ℕ
nearest b slots d n = first_some (λ side. first_at (may_join b side d n) slots) sides
