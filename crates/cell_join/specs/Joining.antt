-- A join under way (01, "Join"), and its pages at its end.
use Rattle.std.specs.Prelude.{List, ◌++◌, ◌≡◌, ℕ, ◌+◌, ◌-◌, ◌≤◌, length}
use Rattle.terms.specs.Terms.{Fix, no_page}
use Rattle.lists.specs.Chains.{chain_head}
use Rattle.lists.specs.Rows.{Rows, merge}
use Rattle.lists.specs.Among.{Among}
use Rattle.rules.specs.Limits.{join_entries}
use Rattle.rules.specs.Store.{Line, Cell}
use Rattle.rules.specs.Sweep.{swept_entries}
use Rattle.rules.specs.Flush.{Flushed, joined, joined_with}
use Rattle.rules.specs.Midway.{MidFlush}
use Rattle.desk.specs.declared.Frame.{Frame}
use Rattle.desk.specs.declared.Slot.{Slot}
use Rattle.desk.specs.Held.{Memo, directory_in, grid_in}
use Rattle.desk.specs.Layout.{slot_of, Laid}
use Rattle.directory.specs.Directory.{Stands}
use Rattle.settle.specs.declared.Settled.{Settled}
use Rattle.cell_last.specs.Settling.{SlotOut, BeforeReshape}

-- d and a neighbour m are to be joined: d's slot, its old pages, m's slot, its pages, and all entries that the joined cell has
pub record BeforeJoinPages (free : ℕ) (d : Slot) (chain : List ℕ) (m : Slot) (other : List ℕ) (all : Rows Fix) (bytes : List ℕ) : Type 0 where
  pub flushed : Flushed
  pub old : Cell
  pub before : List Cell
  pub after : List Cell
  pub memo : Rows Line
  pub n : ℕ
  pub c : ℕ
  pub mid : MidFlush flushed old before after memo n c
  pub neighbour : Cell
  pub among : Among (before ++ after) neighbour
  pub small : length flushed.cell.entries + length neighbour.entries ≤ join_entries
  pub free_is : free ≡ chain_head no_page flushed.store.free
  pub d_is : d ≡ slot_of old
  pub chained : chain ≡ flushed.cell.chain
  pub m_is : m ≡ slot_of neighbour
  pub other_is : other ≡ neighbour.chain
  pub all_is : all ≡ merge (swept_entries flushed.store.memo neighbour.entries) flushed.cell.entries
  pub laid : Laid flushed.store bytes

-- the pages lay out the joined store's: where its joined cell begins, and its free chain
pub record AfterJoinPages (f : Flushed) (m : Cell) (ends : Settled) (bytes : List ℕ) : Type 0 where
  pub first : ends.first ≡ chain_head no_page (joined f m).chain
  pub free : ends.free ≡ chain_head no_page (joined_with f m).free
  pub laid : Laid (joined_with f m) bytes

-- d's slot is taken out of the round, and the cell at place k of the others is to be joined with it: few are together
pub record BeforeJoin (frame : Frame) (rest : List Slot) (d : Slot) (k : ℕ) (chain : List ℕ) (rows : Rows Fix) (memo : Memo) (bytes : List ℕ) : Type 0 where
  -- the directory's array as it was, with d at this place of the round
  pub words : List Slot
  pub at : ℕ
  pub midway : BeforeReshape (grid_in frame words) at chain rows memo bytes
  pub out : SlotOut frame rest d midway.d (midway.before ++ midway.after)
  pub neighbour : Cell
  pub stands : Stands (directory_in (frame.cells - 1) rest) (midway.before ++ midway.after) neighbour k
  pub small : length midway.flushed.cell.entries + length neighbour.entries ≤ join_entries
