-- The middle of a flush: d beside all that the bytes lay out, a cell whose entries are at hand, and d grown.
use mathlib.Core.List.{List, [], ◌∷◌, ◌++◌}
use mathlib.Core.Path.{◌≡◌, refl, sym, ap, subst, ◌∙◌}
use Prim.Native.Nat.{ℕ, ◌+◌, ◌≤◌}
use native.Mathlib.Omega.{arith}
use lib.ListN.{length, get_or, length-append}
use Rattle.terms.specs.Terms.{Fix}
use Rattle.lists.specs.Rows.{Rows}
use Rattle.lists.proofs.SumsLaws.{sum_middle}
use Rattle.rules.specs.Limits.{max_cells}
use Rattle.rules.specs.Store.{Line, Cell, Store, pages_for, settled}
use Rattle.rules.specs.Flush.{Flushed, grown}
use Rattle.rules.specs.WellFormed.{chains, PagesOnce}
use Rattle.rules.specs.Parts.{Paged}
use Rattle.rules.specs.Midway.{MidFlush, size}
use Rattle.rules.proofs.PagedLaws.{needed, pages_few, room_pages}
use Rattle.desk.specs.Held.{Grid, Memo}
use Rattle.desk.specs.Layout.{no_slot, slot_of, Laid}
use Rattle.desk.specs.Views.{slots_in}
use Rattle.desk.specs.Laid.{LaidGrid}
use Rattle.settle.proofs.SettleLaws.{Apart, Apart_cell}
use Rattle.cell_last.specs.Settling.{BeforeSettle, moved_last, BeforeReshape}
use Rattle.cell_last.proofs.MovedLaws.{grid_same, slot_same, loose_slot}

Paged_once : (s : Store) → Paged s.cells s.free → PagesOnce s
unfolding chains
Paged_once s p = p.once

module _ {f : Flushed} {d₀ : Cell} {before after : List Cell} {old : Rows Line} {n c : ℕ} (r : MidFlush f d₀ before after old n c) (b : List ℕ) (l : Laid f.store b) where
  pub store_once : PagesOnce f.store
  store_once = Paged_once f.store (subst (λ (cs : List Cell). Paged cs f.store.free) (sym r.cells) r.paged)

  -- d's chain beside all that the bytes lay out
  pub d_Apart : Apart b (before ++ after) f.cell.chain f.store.free
  d_Apart = Apart_cell f.store store_once b l before d₀ after r.cells r.chain

  -- the free chain has the pages that d needs
  pub d_room : pages_for (length f.cell.entries) ≤ length f.cell.chain + length f.store.free
  d_room =
      omega (
        arith,
        room_pages before after d₀ f.store.free r.paged,
        pages_few (before ++ (f.cell ∷ after)) (omega (arith, r.few, sum_middle size before f.cell after))
            (omega (arith, r.tiled.few_cells, length-append before (d₀ ∷ after), length-append before (f.cell ∷ after))),
        sum_middle needed before f.cell after,
        ap (λ (x : List ℕ). length x) r.chain,
      )

module _ {grid : Grid} {at : ℕ} {chain : List ℕ} {rows : Rows Fix} {memo : Memo} {b : List ℕ} (x : BeforeReshape grid at chain rows memo b) where
  abbrev f : Flushed
  f = x.flushed

  abbrev free : List ℕ
  free = f.store.free

  abbrev rest : List Cell
  rest = x.before ++ x.after

  -- d is a cell whose entries are at hand
  abbrev pub midway_loose : BeforeSettle grid at chain rows b
  midway_loose = record {
    store = f.store;
    before = x.before;
    old = x.d;
    after = x.after;
    cell = f.cell;
    cells = x.mid.cells;
    few = subst (λ (l : List Cell). length l ≤ max_cells) (sym x.mid.cells) x.mid.tiled.few_cells;
    number = x.mid.number;
    edges = x.mid.edges;
    chain_kept = x.mid.chain;
    once = store_once x.mid b x.laid.in_grid.laid;
    room = d_room x.mid b x.laid.in_grid.laid;
    place = x.place;
    chained = x.chained;
    entered = x.entered;
    laid = x.laid.in_grid;
  }

  -- d's slot, which has its number, its edges and its first page still
  pub midway_slot : get_or (slots_in grid.cells) at no_slot ≡ slot_of f.cell
  midway_slot = loose_slot midway_loose ∙ sym (slot_same f.cell x.d x.mid.number x.mid.edges x.mid.chain)

  pub grown_Laid : {g : Grid} {b' : List ℕ} → LaidGrid (moved_last f.store rest f.cell) g b' → LaidGrid (grown f) g b'
  unfolding grown moved_last
  grown_Laid l = grid_same _ _ refl (ap (λ (cs : List Cell). cs ++ (settled free f.cell ∷ [])) (sym x.mid.rest)) refl l
