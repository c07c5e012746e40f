-- A cell whose entries are at hand, and the middle of a flush, as the desk's parts and the pages have it.
use Rattle.std.specs.Prelude.{List, [], ◌∷◌, ◌++◌, ◌≡◌, ℕ, ◌+◌, ◌-◌, ◌≤◌, length}
use Rattle.terms.specs.Terms.{Fix, pages}
use Rattle.lists.specs.Rows.{Rows}
use Rattle.page.specs.declared.Chain.{Chain}
use Rattle.rules.specs.Limits.{max_cells, sweep_every}
use Rattle.rules.specs.Store.{Line, Cell, Store, with_cells, with_free, pages_for, settled, free_after}
use Rattle.rules.specs.Flush.{Flushed}
use Rattle.rules.specs.Midway.{MidFlush}
use Rattle.rules.specs.WellFormed.{PagesOnce}
use Rattle.desk.specs.declared.Frame.{Frame}
use Rattle.desk.specs.declared.Slot.{Slot}
use Rattle.desk.specs.declared.Desk.{Desk}
use Rattle.desk.specs.Held.{Grid, Memo, directory_in, grid_in, memo_in}
use Rattle.desk.specs.Layout.{slot_of, directory_of}
use Rattle.desk.specs.Laid.{LaidGrid, LaidMemo}

-- ---- a cell whose entries are at hand

-- a chain at hand has no more pages than there are
abbrev pub HandFits : Chain → Type 0
HandFits chain = chain.n ≤ pages

-- a desk's grid, and its memo
abbrev pub desk_grid : Desk → Grid
desk_grid d = grid_in d.parts.frame d.cells

abbrev pub desk_memo : Desk → Memo
desk_memo d = memo_in d.parts.lines d.memo

-- of a desk, cells, cuts, the free chain's front and the memo may change: all else is kept
abbrev pub CellsChanged : Desk → Desk → Type 0
CellsChanged old new = new ≡ record old { parts = record old.parts { frame = new.parts.frame; lines = new.parts.lines }; cells = new.cells; memo = new.memo }

-- a cell's entries are at hand, and its old pages, which are not yet settled; the grid and the pages still have it as it was, at place `at` of the round
pub record BeforeSettle (grid : Grid) (at : ℕ) (chain : List ℕ) (rows : Rows Fix) (bytes : List ℕ) : Type 0 where
  pub store : Store
  -- the cell as it was, between these, and as it is
  pub before : List Cell
  pub old : Cell
  pub after : List Cell
  pub cell : Cell
  pub cells : store.cells ≡ before ++ (old ∷ after)
  pub few : length store.cells ≤ max_cells
  pub number : cell.number ≡ old.number
  pub edges : cell.edges ≡ old.edges
  pub chain_kept : cell.chain ≡ old.chain
  -- "Each page is in one chain", and the free chain has the pages that the entries need
  pub once : PagesOnce store
  pub room : pages_for (length cell.entries) ≤ length cell.chain + length store.free
  pub place : at ≡ length before
  pub chained : chain ≡ cell.chain
  pub entered : rows ≡ cell.entries
  pub laid : LaidGrid store grid bytes

-- a cell's slot is taken out of the directory's array, which has the others of the round; the frame still counts it
pub record SlotOut (frame : Frame) (rest : List Slot) (d : Slot) (old : Cell) (others : List Cell) : Type 0 where
  pub slot_is : d ≡ slot_of old
  pub rest_is : directory_in (frame.cells - 1) rest ≡ directory_of others

-- the same cell once its slot is taken out: it is to be settled and to go last
pub record BeforeLast (frame : Frame) (rest : List Slot) (d : Slot) (chain : List ℕ) (rows : Rows Fix) (bytes : List ℕ) : Type 0 where
  -- the directory's array as it was, with d at this place of the round
  pub words : List Slot
  pub at : ℕ
  pub settles : BeforeSettle (grid_in frame words) at chain rows bytes
  pub out : SlotOut frame rest d settles.old (settles.before ++ settles.after)

-- the cell goes "to the end of the round", with the pages that it needs
unfoldable pub moved_last : Store → List Cell → Cell → Store
moved_last s rest c = with_cells (rest ++ (settled s.free c ∷ [])) (with_free (free_after s.free c) s)

-- ---- the middle of a flush

-- d is swept and the reports are in: its old pages, which are not yet settled, and its entries are at hand. The grid and the pages still have it as it was,
-- at place `at` of the round
pub record BeforeReshape (grid : Grid) (at : ℕ) (chain : List ℕ) (rows : Rows Fix) (memo : Memo) (bytes : List ℕ) : Type 0 where
  pub flushed : Flushed
  -- d as it was, between these cells, with the memo as it was; n reports went in, and the tally is c
  pub d : Cell
  pub before : List Cell
  pub after : List Cell
  pub lines : Rows Line
  pub n : ℕ
  pub c : ℕ
  pub mid : MidFlush flushed d before after lines n c
  pub late : c ≤ sweep_every
  pub place : at ≡ length before
  pub chained : chain ≡ flushed.cell.chain
  pub entered : rows ≡ flushed.cell.entries
  pub laid : LaidMemo flushed.store grid memo bytes
