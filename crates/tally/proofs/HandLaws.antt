-- A cell of a store in the middle of a call, swept: what the code asks for that, and what it leaves at hand.

use mathlib.Core.List.{List}
use mathlib.Core.Path.{◌≡◌, ap, ◌∙◌}
use Prim.Native.Nat.{ℕ, suc, ◌≤◌}
use native.Mathlib.Omega.{arith}
use lib.ListN.{length, get_or, take, drop}
use Rattle.terms.specs.Terms.{Fix, max_on, pages, no_page}
use Rattle.lists.specs.Chains.{chain_head}
use Rattle.lists.specs.Rows.{Rows}
use Rattle.lists.specs.Among.{Among}
use Rattle.lists.proofs.AmongLaws.{Each-Among}
use Rattle.page.specs.Buffer.{pages_of, chain_from, end_of, end_from, entries_on}
use Rattle.page.specs.declared.Chain.{Chain}
use Rattle.rules.specs.Limits.{sweep_every}
use Rattle.rules.specs.Store.{Store}
use Rattle.rules.specs.Sweep.{swept_entries, swept_memo, swept}
use Rattle.rules.specs.Midway.{MidCall}
use Rattle.rules.proofs.BooksLaws.{memo_total}
use Rattle.rules.proofs.RoundLaws.{Bounded_total}
use Rattle.rules.proofs.TilingLaws.{some_cell}
use Rattle.desk.specs.declared.Frame.{Frame}
use Rattle.desk.specs.declared.Slot.{Slot}
use Rattle.desk.specs.Held.{Grid, Memo}
use Rattle.desk.specs.Layout.{line_slots, no_slot, directory_of, grid_of, memo_of}
use Rattle.desk.specs.Laid.{LaidGrid, LaidMemo}
use Rattle.memo.specs.Memo.{lines_of, GoodMemo}
use Rattle.sweep.specs.Sweep.{ReadableChain}
use Rattle.cell_last.proofs.MovedLaws.{grid_same}
use Rattle.sweep.proofs.CellLaws.{Sweepable, cells_sweep, cell_asks, cell_gives}
use Rattle.tally.specs.Tally.{BeforeSweepAt, InHand}

-- ---- what is held

-- parts and pages that lay out a store lay out any other with the same cuts, cells, free chain and memo
pub memo_same : {g : Grid} {memo : Memo} {b : List ℕ} (s t : Store) → s.cuts ≡ t.cuts → s.cells ≡ t.cells → s.free ≡ t.free → memo ≡ memo_of t.memo → LaidGrid s g b → LaidMemo t g memo b
memo_same s t e f h m l = record { in_grid = grid_same s t e f h l; memo_is = m }

pub laid_cells : {s : Store} {g : Grid} {memo : Memo} {b : List ℕ} → LaidMemo s g memo b → g.cells ≡ directory_of s.cells
unfolding grid_of
laid_cells h = ap (λ (g : Grid). g.cells) h.in_grid.grid_is

-- what a grid has beside the directory's array
abbrev pub frame_of : Grid → Frame
frame_of g = record { easts = g.easts; norths = g.norths; cells = g.cells.n; free = g.free }

-- ---- a cell of the store

-- the memo has room for its lines
pub few_lines : (s : Store) (c : ℕ) → MidCall s c → c ≤ sweep_every → length s.memo ≤ line_slots
few_lines s c g late =
    omega (arith, memo_total g.core.books, Bounded_total s.memo s.cells (length s.waiting) c g.bounded (some_cell g.core.tiling))

module _ {cells : List Slot} {at : ℕ} {memo : Memo} {b : List ℕ} (x : BeforeSweepAt cells at memo b) where
  abbrev pub Among_place : Among x.store.cells x.cell
  Among_place = record { before = take at x.store.cells; after = drop (suc at) x.store.cells; split = x.stands.split }

  Sweepable_place : Sweepable b x.store.memo x.cell
  Sweepable_place = Each-Among (Sweepable b x.store.memo) (cells_sweep x.store b x.mid.core x.laid.in_grid.laid) Among_place

  -- `read_chain` has read its pages
  module _ {d : Slot} (slot : d ≡ get_or cells at no_slot) (chain : Chain)
      (read : (pages_of chain ≡ chain_from pages b d.first) × (end_of chain.end ≡ end_from pages b d.first) × (chain.n ≤ pages)) where
    first_place : pages_of chain ≡ chain_from pages b (chain_head no_page x.cell.chain)
    first_place = read.0 ∙ ap (λ (s : Slot). chain_from pages b s.first) (slot ∙ x.stands.element)

    -- what `sweep_chain` asks
    pub place_asks : ReadableChain b chain × GoodMemo memo × (length (swept_entries (lines_of memo) (entries_on b (pages_of chain))) ≤ max_on)
    place_asks = cell_asks Sweepable_place chain memo first_place x.laid.memo_is read.2 (few_lines x.store x.c x.mid x.late) x.mid.core.books.memo_rises

    -- what it leaves
    pub place_gives : {table : Rows Fix} {after : Memo}
        → (table ≡ swept_entries (lines_of memo) (entries_on b (pages_of chain))) × (after ≡ memo_of (swept_memo (lines_of memo) (entries_on b (pages_of chain))))
        → InHand (swept x.store.memo x.cell) (swept_memo x.store.memo x.cell.entries) chain table after
    unfolding swept
    place_gives g =
        let k = cell_gives Sweepable_place chain memo first_place x.laid.memo_is g in
        record { bound = read.2; chained = first_place ∙ Sweepable_place.read; rows = k.0; memo_is = k.1 }
