-- The parts of a desk in any condition, each as far as its count says: what a store would have there.
use Rattle.std.specs.Prelude.{Bool, cond, List, map, ℕ, ◌+◌, ◌*◌, ◌/◌, ◌%◌, eqb, length, get_or, take, Option, None, Some}
use Rattle.terms.specs.Terms.{Place}
use Rattle.lists.specs.Bits.{bit}
use Rattle.lists.specs.Parts.{tab}
use Rattle.lists.specs.Rows.{Row, Rows}
use Rattle.rules.specs.Limits.{max_cells}
use Rattle.rules.specs.Grid.{Axis, eastward, northward, Rect, Cuts}
use Rattle.rules.specs.Watches.{Watch}
use Rattle.desk.specs.declared.CutList.{CutList}
use Rattle.desk.specs.declared.Slot.{Slot}
use Rattle.desk.specs.declared.Report.{Report}
use Rattle.desk.specs.declared.Rectangle.{Rectangle}
use Rattle.desk.specs.declared.Line.{Line}
use Rattle.desk.specs.declared.Watch.{Watch as DeskWatch}
use Rattle.desk.specs.Held.{Directory, On}
use Rattle.desk.specs.Layout.{slotted, report_fields, no_slot}

-- the cuts of one direction, and of both
unfoldable pub cuts_in : CutList → List ℕ
cuts_in c = take c.n c.at

abbrev pub cuts_by : CutList → CutList → Cuts
cuts_by easts norths = record { easts = cuts_in easts; norths = cuts_in norths }

-- the directory's slots in use, in the order of the round, and the directory that has these
unfoldable pub slots_in : Directory → List Slot
slots_in d = take d.n d.slots

unfoldable pub directory_with : List Slot → Directory
directory_with l = record { n = length l; slots = slotted max_cells no_slot l }

-- a slot's edges as a rectangle
abbrev pub edges_of : Slot → Rect
edges_of s = record { easts = record { low = s.west; high = s.east }; norths = record { low = s.south; high = s.north } }

-- a range's rectangle
abbrev pub rect_of : Rectangle → Rect
rect_of a = record { easts = record { low = a.west; high = a.east }; norths = record { low = a.south; high = a.north } }

-- a direction as a number: 0 east, else north
unfoldable pub axis_of : ℕ → Axis
axis_of a = cond (eqb a 0) eastward northward

-- the report at its place in the array of those that wait, whose columns have so many slots each
abbrev pub report_in : ℕ → List ℕ → ℕ → Report
report_in slots ws i = record {
  radio = get_or ws i 0;
  east = get_or ws (slots + i) 0;
  north = get_or ws (2 * slots + i) 0;
  new = get_or ws (3 * slots + i) 0;
  low = get_or ws (4 * slots + i) 0;
  high = get_or ws (5 * slots + i) 0;
}

-- all reports whose fields the array has column after column, waiting or not
unfoldable pub every_report : List ℕ → List Report
every_report ws = tab (length ws / report_fields) (report_in (length ws / report_fields) ws)

-- the place of a line, or "none" where it is not marked to have one
abbrev pub last_of : Line → Option Place
last_of l = cond (eqb l.placed 0) None (Some (record { east = l.east; north = l.north }))

-- the radios on
abbrev pub radio_row : ℕ → Row (Unit {0})
radio_row r = record { key = r; val = tt }

unfoldable pub radios_of : On → Rows (Unit {0})
radios_of on = map radio_row (take on.n on.radios)

-- the rectangle of a watch and the watch itself, as the desk has them, and whether a radio is marked there as a member
abbrev pub area_in : DeskWatch → Rect
area_in v = record { easts = record { low = v.west; high = v.east }; norths = record { low = v.south; high = v.north } }

unfoldable pub watch_in : DeskWatch → Watch
watch_in v = cond (eqb v.set 0) None (Some (area_in v))

unfoldable pub watches_in : List DeskWatch → List Watch
watches_in vs = map watch_in vs

unfoldable pub member_in : DeskWatch → ℕ → Bool
member_in v r = bit (get_or v.members (r / 16) 0) (r % 16)
