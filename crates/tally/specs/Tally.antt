-- The desk's parts and the pages before a sweep and before the tally, a cell at hand, and what the tally leaves.
use Rattle.std.specs.Prelude.{List, ◌≡◌, ℕ, ◌+◌, ◌≤◌, ◌<◌}
use Rattle.terms.specs.Terms.{Fix, pages}
use Rattle.lists.specs.Rows.{Rows}
use Rattle.page.specs.Buffer.{pages_of}
use Rattle.rules.specs.Limits.{sweep_every}
use Rattle.rules.specs.Store.{Line, Cell, Store}
use Rattle.rules.specs.Sweep.{tick}
use Rattle.rules.specs.Midway.{MidCall, MidCallRoomy}
use Rattle.desk.specs.declared.Frame.{Frame}
use Rattle.desk.specs.Held.{Grid, Memo, directory_in, grid_in}
use Rattle.desk.specs.Layout.{memo_of}
use Rattle.desk.specs.Laid.{LaidMemo}
use Rattle.directory.specs.Directory.{Stands}
use Rattle.page.specs.declared.Chain.{Chain}
use Rattle.desk.specs.declared.Desk.{Desk}
use Rattle.desk.specs.declared.Slot.{Slot}

-- ---- a cell at hand

-- a cell at place `at` of the round is to be swept, in the middle of a call whose tally to come is c: the directory's array is at hand, with some frame
pub record BeforeSweepAt (words : List Slot) (at : ℕ) (memo : Memo) (bytes : List ℕ) : Type 0 where
  pub frame : Frame
  pub store : Store
  pub c : ℕ
  pub mid : MidCall store c
  pub late : c ≤ sweep_every
  pub laid : LaidMemo store (grid_in frame words) memo bytes
  pub cell : Cell
  pub stands : Stands (directory_in frame.cells words) store.cells cell at

-- a swept cell's old pages and its entries are at hand, and the memo has these lines
pub record InHand (cell : Cell) (lines : Rows Line) (chain : Chain) (table : Rows Fix) (memo : Memo) : Type 0 where
  pub bound : chain.n ≤ pages
  pub chained : pages_of chain ≡ cell.chain
  pub rows : table ≡ cell.entries
  pub memo_is : memo ≡ memo_of lines

-- of a desk only the memo changes
abbrev pub MemoChanged : Desk → Desk → Type 0
MemoChanged old new = new ≡ record old { parts = record old.parts { lines = new.parts.lines }; memo = new.memo }

-- of a desk grid, memo and tally may change: all else is kept
abbrev pub RoundChanged : Desk → Desk → Type 0
RoundChanged old new = new ≡ record old { parts = record old.parts { frame = new.parts.frame; lines = new.parts.lines; tally = new.parts.tally }; cells = new.cells; memo = new.memo }

-- ---- the tally

-- the record is to be counted: a store with room for the next report, at the tally that it will have
pub record BeforeTally (grid : Grid) (memo : Memo) (tally : ℕ) (bytes : List ℕ) : Type 0 where
  pub store : Store
  pub early : store.tally < sweep_every
  pub roomy : MidCallRoomy store (store.tally + 1)
  pub laid : LaidMemo store grid memo bytes
  pub tally_is : tally ≡ store.tally

-- the same at the 16th: the front of the round is to be swept
pub record BeforeSweep (grid : Grid) (memo : Memo) (bytes : List ℕ) : Type 0 where
  pub store : Store
  pub roomy : MidCallRoomy store sweep_every
  pub laid : LaidMemo store grid memo bytes

-- "Each accepted sign-on, report or sign-off adds 1 to c. At 16, sweep the cell at the front of the round"
pub record AfterTally (s : Store) (grid : Grid) (memo : Memo) (tally : ℕ) (bytes : List ℕ) : Type 0 where
  pub laid : LaidMemo (tick s) grid memo bytes
  pub tally_is : tally ≡ (tick s).tally
