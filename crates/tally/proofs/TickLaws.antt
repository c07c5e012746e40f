-- The tally: the front of the round is a cell at hand, and settled last it leaves the store that the rules say.
use mathlib.Core.Bool.{true, false}
use mathlib.Core.List.{List, [], ◌∷◌, ◌++◌}
use mathlib.Core.Path.{◌≡◌, refl, sym, ap, ◌∙◌, subst}
use Prim.Native.Nat.{ℕ, ◌+◌, ◌≤◌, ◌<◌}
use native.Mathlib.Omega.{arith}
use lib.Dec.{ltb}
use lib.ListN.{length, drop}
use borrow.Author.Tests.{lt-ltb, le-ltb}
use Rattle.lists.proofs.SumsLaws.{length-filter-not}
use Rattle.page.specs.Buffer.{pages_of}
use Rattle.rules.specs.Limits.{sweep_every}
use Rattle.rules.specs.Store.{Line, Cell}
use Rattle.rules.specs.Sweep.{stale, swept_entries, swept_memo, swept, sweep_front, tick}
use Rattle.rules.specs.WellFormed.{chains}
use Rattle.rules.specs.Midway.{MidCallRoomy}
use Rattle.rules.proofs.PagedLaws.{pages_for-le}
use Rattle.rules.proofs.TilingLaws.{some_cell}
use Rattle.lists.specs.Rows.{Rows}
use Rattle.lists.proofs.AmongLaws.{Each-Among}
use Rattle.desk.specs.Held.{Grid, Memo}
use Rattle.desk.specs.Laid.{LaidGrid, LaidMemo}
use Rattle.directory.proofs.DirectoryLaws.{Stands_index}
use Rattle.cell_last.specs.Settling.{HandFits, BeforeSettle, moved_last}
use Rattle.page.specs.declared.Chain.{Chain}
use Rattle.terms.specs.Terms.{Fix}
use Rattle.tally.specs.Tally.{BeforeSweepAt, InHand, BeforeTally, BeforeSweep, AfterTally}
use Rattle.tally.proofs.HandLaws.{memo_same, laid_cells, frame_of, Among_place}

-- ---- the front of the round

few_stay : (memo : Rows Line) (c : Cell) → length (swept memo c).entries ≤ length c.entries
unfolding swept swept_entries
few_stay memo c = omega (arith, length-filter-not (stale memo) c.entries)

module _ {grid : Grid} {memo : Memo} {b : List ℕ} (x : BeforeSweep grid memo b) where
  abbrev pub front_place : BeforeSweepAt grid.cells.slots 0 memo b
  front_place =
      let f = Stands_index x.store.cells (laid_cells x.laid) 0 (some_cell x.roomy.mid.core.tiling) in
      record { frame = frame_of grid; store = x.store; c = sweep_every; mid = x.roomy.mid; late = omega arith; laid = x.laid; cell = f.0; stands = f.1 }

  abbrev front : Cell
  front = front_place.cell

  -- `swept_at` has read it
  module _ {chain : Chain} {table : Rows Fix} {after : Memo} (given : (y : BeforeSweepAt grid.cells.slots 0 memo b) → InHand (swept y.store.memo y.cell) (swept_memo y.store.memo y.cell.entries) chain table after)
      {held : Grid} (same : held ≡ grid) where
    front-swept : InHand (swept x.store.memo front) (swept_memo x.store.memo front.entries) chain table after
    front-swept = given front_place

    front_loose : BeforeSettle grid 0 (pages_of chain) table b
    unfolding swept chains
    front_loose =
        let k = x.roomy.mid.core in
        record {
          store = x.store;
          before = [];
          old = front;
          after = drop 1 x.store.cells;
          cell = swept x.store.memo front;
          cells = front_place.stands.split;
          few = k.tiling.few_cells;
          number = refl;
          edges = refl;
          chain_kept = refl;
          once = k.paged.once;
          room =
              omega (
                arith,
                Each-Among _ k.paged.cells_paged (Among_place front_place),
                pages_for-le (length (swept x.store.memo front).entries) (length front.entries) (few_stay x.store.memo front),
              );
          place = refl;
          chained = front-swept.chained;
          entered = front-swept.rows;
          laid = x.laid.in_grid;
        }

    -- what `settled_last` asks
    pub front_asks : HandFits chain × BeforeSettle held 0 (pages_of chain) table b
    front_asks = (front-swept.bound, subst (λ (g : Grid). BeforeSettle g 0 (pages_of chain) table b) (sym same) front_loose)

    -- what it leaves
    pub front_laid : {g : Grid} {b' : List ℕ}
        → ((y : BeforeSettle held 0 (pages_of chain) table b) → LaidGrid (moved_last y.store (y.before ++ y.after) y.cell) g b')
        → LaidMemo (sweep_front x.store.cells x.store) g after b'
    unfolding sweep_front moved_last front_loose
    front_laid {g = g} {b' = b'} said =
        let l : (y : BeforeSettle grid 0 (pages_of chain) table b) → LaidGrid (moved_last y.store (y.before ++ y.after) y.cell) g b' =
        subst (λ (h : Grid). (y : BeforeSettle h 0 (pages_of chain) table b) → LaidGrid (moved_last y.store (y.before ++ y.after) y.cell) g b') same said in
        subst (λ (cells : List Cell). LaidMemo (sweep_front cells x.store) g after b') (sym front_place.stands.split)
        (memo_same (moved_last x.store (drop 1 x.store.cells) (swept x.store.memo front)) (sweep_front (front ∷ drop 1 x.store.cells) x.store) refl refl refl front-swept.memo_is (l front_loose))

  front_tally : (sweep_front x.store.cells x.store).tally ≡ 0
  unfolding sweep_front
  front_tally = ap (λ (cells : List Cell). (sweep_front cells x.store).tally) front_place.stands.split

-- ---- the whole

module _ {grid : Grid} {memo : Memo} {tally : ℕ} {b : List ℕ} (x : BeforeTally grid memo tally b) where
  pub tick_counts : tally + 1 < sweep_every → AfterTally x.store grid memo (tally + 1) b
  unfolding tick
  tick_counts h =
      let u : ltb (x.store.tally + 1) sweep_every ≡ true = lt-ltb (x.store.tally + 1) sweep_every (omega (arith, x.tally_is)) in
      record { laid = rw u (memo_same x.store _ refl refl refl x.laid.memo_is x.laid.in_grid); tally_is = rw u (ap (λ (n : ℕ). n + 1) x.tally_is) }

  module _ (h : sweep_every ≤ tally + 1) where
    abbrev pub tick_sweep : BeforeSweep grid memo b
    tick_sweep = record {
      store = x.store;
      roomy = let z : x.store.tally + 1 ≡ sweep_every = omega (arith, x.tally_is, x.early) in subst (MidCallRoomy x.store) z x.roomy;
      laid = x.laid;
    }

    pub tick_sweeps : {g : Grid} {m : Memo} {t : ℕ} {b' : List ℕ} → t ≡ 0
        → ((y : BeforeSweep grid memo b) → LaidMemo (sweep_front y.store.cells y.store) g m b') → AfterTally x.store g m t b'
    unfolding tick
    tick_sweeps {g = g} {m = m} {b' = b'} z l =
        let u : ltb (x.store.tally + 1) sweep_every ≡ false = le-ltb (x.store.tally + 1) sweep_every (omega (arith, x.tally_is)) in
        record { laid = rw u (l tick_sweep); tally_is = rw u (z ∙ sym (front_tally tick_sweep)) }
