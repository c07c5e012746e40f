-- What a flush finds of the desk's parts and the pages, (01, "Flush").
use Rattle.std.specs.Prelude.{List, ◌≡◌, ℕ, ◌+◌, ◌≤◌, ◌<◌, length, Some}
use Rattle.rules.specs.Limits.{max_cuts, full_memory, sweep_every}
use Rattle.rules.specs.Grid.{Box}
use Rattle.rules.specs.Store.{Cell, Store}
use Rattle.lists.specs.Sums.{filter}
use Rattle.rules.specs.Flush.{in_box, cell_of_box}
use Rattle.rules.specs.Midway.{MidCall}
use Rattle.desk.specs.declared.CutList.{CutList}
use Rattle.desk.specs.declared.Frame.{Frame}
use Rattle.desk.specs.declared.Desk.{Desk}
use Rattle.desk.specs.Held.{Grid, Memo, Waiting, directory_in, grid_in, waiting_with}
use Rattle.desk.specs.Layout.{waiting_of}
use Rattle.desk.specs.Laid.{LaidMemo, LaidWaiting}
use Rattle.boxes.specs.declared.BoxAt.{BoxAt}
use Rattle.directory.specs.Directory.{Stands}
use Rattle.desk.specs.declared.Slot.{Slot}

-- ---- what is asked of numbers in the desk

-- "at most 15 east cuts and 15 north cuts"
abbrev pub FewCuts : CutList → CutList → Type 0
FewCuts easts norths = (easts.n ≤ max_cuts) × (norths.n ≤ max_cuts)

-- a memory cell of these cuts
abbrev pub BoxOf : CutList → CutList → BoxAt → Type 0
BoxOf easts norths m = (m.east ≤ easts.n) × (m.north ≤ norths.n)

-- ---- a flush

-- a desk's waiting reports
abbrev pub desk_waiting : Desk → Waiting
desk_waiting d = waiting_with d.parts.waiting d.waiting

-- of a desk grid, waiting reports and memo may change: all else is kept
abbrev pub FlushChanged : Desk → Desk → Type 0
FlushChanged old new =
    new ≡ record old {
      parts = record old.parts { frame = new.parts.frame; waiting = new.parts.waiting; lines = new.parts.lines };
      cells = new.cells;
      waiting = new.waiting;
      memo = new.memo;
    }

-- a sign-on's or a report's own effect is done, and a memory cell may be due: as many wait as there is room for
pub record BeforeFlush (grid : Grid) (waiting : Waiting) (memo : Memo) (bytes : List ℕ) : Type 0 where
  pub store : Store
  pub early : store.tally < sweep_every
  pub mid : MidCall store (store.tally + 1)
  pub few : length store.waiting ≤ full_memory
  pub laid : LaidWaiting store grid waiting memo bytes

-- the reports of m are taken out of the others and to be entered in its cell, found at place `at` of the round: the directory's array is at hand, with some
-- frame
pub record BeforeEnter (words : List Slot) (at : ℕ) (taken : Waiting) (memo : Memo) (m : Box) (bytes : List ℕ) : Type 0 where
  pub frame : Frame
  pub store : Store
  pub early : store.tally < sweep_every
  pub mid : MidCall store (store.tally + 1)
  pub few : length store.waiting ≤ full_memory
  pub laid : LaidMemo store (grid_in frame words) memo bytes
  pub these : taken ≡ waiting_of (filter (in_box store.cuts m) store.waiting)
  pub cell : Cell
  pub home : cell_of_box store m ≡ Some cell
  pub stands : Stands (directory_in frame.cells words) store.cells cell at
