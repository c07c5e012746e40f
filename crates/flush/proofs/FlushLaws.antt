-- A flush: the cell of m is found, swept, and takes the reports of m; what is left at hand is the middle of a flush, and the reports of m wait no longer.
use mathlib.Core.Bool.{true, not}
use mathlib.Core.List.{List}
use Rattle.std.specs.Prelude.{Option, None, Some}
use mathlib.Core.Path.{◌≡◌, refl, sym, ap, ◌∙◌, subst}
use Prim.Native.Nat.{ℕ, ◌+◌, ◌≤◌}
use native.Mathlib.Omega.{arith}
use lib.ListN.{length, take}
use lib.Seq.{length-take-le}
use Rattle.terms.specs.Terms.{Place, Fix}
use Rattle.lists.specs.Rows.{Rows}
use Rattle.lists.specs.Sums.{filter}
use Rattle.lists.specs.Among.{Among}
use Rattle.page.specs.Buffer.{pages_of}
use Rattle.rules.specs.Limits.{max_cells, max_cuts, full_memory}
use Rattle.rules.specs.Grid.{eastward, northward, inside, Cuts, Box, corner_of}
use Rattle.rules.specs.Store.{Cell, Store, cell_at}
use Rattle.rules.specs.Sweep.{swept_memo, swept}
use Rattle.rules.specs.Flush.{Flushed, flushed_into, in_box, reshaped, cell_of_box, flush}
use Rattle.rules.specs.Midway.{MidFlush}
use Rattle.rules.proofs.CutLaws.{reshaped-waiting}
use Rattle.rules.proofs.FlushLaws.{ready, waiting_flushed}
use Rattle.rules.proofs.TilingLaws.{cell_at_split, home_some}
use Rattle.desk.specs.Held.{Grid, Memo, Waiting, grid_in}
use Rattle.desk.specs.Layout.{cut_list_of, grid_of, waiting_of}
use Rattle.desk.specs.Views.{cuts_by, slots_in}
use Rattle.desk.specs.Laid.{LaidGrid, LaidMemo, LaidWaiting}
use Rattle.boxes.specs.declared.BoxAt.{BoxAt}
use Rattle.boxes.specs.Boxes.{box_in}
use Rattle.waiting.specs.Waiting.{reports_of, WholeWaiting}
use Rattle.desk.proofs.UniqueLaws.{cuts_Laid}
use Rattle.waiting.proofs.WaitingLaws.{whole_laid, count_laid}
use Rattle.directory.specs.Directory.{slot_at}
use Rattle.terms.specs.Values.{place_of}
use Rattle.terms.specs.declared.Place.{Place as HeldPlace}
use Rattle.directory.proofs.DirectoryLaws.{cuts_count, directory_count, found_cell, found_not}
use Rattle.enter.specs.Enter.{Held, Enterable, Entered}
use Rattle.enter.proofs.RoomLaws.{gone_are, left_are, enter_asks, enter_gives}
use Rattle.cell_last.specs.Settling.{HandFits, BeforeReshape}
use Rattle.cell_last.proofs.MovedLaws.{grid_same}
use Rattle.page.specs.declared.Chain.{Chain}
use Rattle.tally.specs.Tally.{BeforeSweepAt, InHand}
use Rattle.tally.proofs.HandLaws.{laid_cells, Among_place}
use Rattle.flush.specs.Flush.{FewCuts, BoxOf, BeforeFlush, BeforeEnter}
use Rattle.desk.specs.declared.Slot.{Slot}

-- ---- the cell of m

-- it is looked for by its corner
pub home_found : (grid : Grid) (m : BoxAt) (corner : HeldPlace) {at : Option ℕ} → place_of corner ≡ corner_of (cuts_by grid.easts grid.norths) (box_in m)
    → at ≡ slot_at (take grid.cells.n grid.cells.slots) (place_of corner) → at ≡ slot_at (slots_in grid.cells) (corner_of (cuts_by grid.easts grid.norths) (box_in m))
unfolding slots_in
home_found grid m corner e f = f ∙ ap (λ (p : Place). slot_at (take grid.cells.n grid.cells.slots) p) e

home_is : (s : Store) (m : Box) {d : Cell} → cell_at s.cells (corner_of s.cuts m) ≡ Some d → cell_of_box s m ≡ Some d
unfolding cell_of_box
home_is s m e = e

module _ {s : Store} {grid : Grid} {memo : Memo} {b : List ℕ} (h : LaidMemo s grid memo b) where
  pub laid_easts : grid.easts ≡ cut_list_of s.cuts.easts
  unfolding grid_of
  laid_easts = ap (λ (g : Grid). g.easts) h.in_grid.grid_is

  pub laid_norths : grid.norths ≡ cut_list_of s.cuts.norths
  unfolding grid_of
  laid_norths = ap (λ (g : Grid). g.norths) h.in_grid.grid_is

  pub laid_cuts : cuts_by grid.easts grid.norths ≡ s.cuts
  laid_cuts = λ i. record { easts = cuts_Laid laid_easts i; norths = cuts_Laid laid_norths i }

module _ {grid : Grid} {waiting : Waiting} {memo : Memo} {b : List ℕ} (x : BeforeFlush grid waiting memo b) where
  pub few_easts : grid.easts.n ≤ max_cuts
  few_easts = omega (arith, cuts_count x.store.cuts.easts (laid_easts x.laid.in_memo), x.mid.core.tiling.few_cuts eastward)

  pub few_norths : grid.norths.n ≤ max_cuts
  few_norths = omega (arith, cuts_count x.store.cuts.norths (laid_norths x.laid.in_memo), x.mid.core.tiling.few_cuts northward)

  pub few_wait : waiting.n ≤ full_memory
  few_wait = omega (arith, count_laid waiting x.store.waiting x.laid.waiting_is, x.few)

  -- what `home_of` asks
  pub home_asks : (m : BoxAt) → BoxOf grid.easts grid.norths m
      → FewCuts grid.easts grid.norths × BoxOf grid.easts grid.norths m × (grid.cells.n ≤ max_cells)
  home_asks m k = (
    (few_easts, few_norths),
    k,
    omega (arith, directory_count x.store.cells (laid_cells x.laid.in_memo), x.mid.core.tiling.few_cells),
  )

  corner_told : (m : BoxAt)
      → slot_at (slots_in grid.cells) (corner_of (cuts_by grid.easts grid.norths) (box_in m))
      ≡ slot_at (slots_in grid.cells) (corner_of x.store.cuts (box_in m))
  corner_told m = ap (λ (c : Cuts). slot_at (slots_in grid.cells) (corner_of c (box_in m))) (laid_cuts x.laid.in_memo)

  module _ (m : BoxAt) {o : Option ℕ} (told : o ≡ slot_at (slots_in grid.cells) (corner_of (cuts_by grid.easts grid.norths) (box_in m))) where
    -- it is found, for each memory cell has one, and the reports of m are taken out
    pub homed : {at : ℕ} {taken : Waiting} → o ≡ Some at → taken ≡ waiting_of (filter (in_box (cuts_by grid.easts grid.norths) (box_in m)) (reports_of waiting))
        → BeforeEnter grid.cells.slots at taken memo (box_in m) b
    homed e gone =
        let h = home_some x.store.cuts x.store.cells (box_in m) x.mid.core.tiling in
        record {
          frame = record { easts = grid.easts; norths = grid.norths; cells = grid.cells.n; free = grid.free };
          store = x.store;
          early = x.early;
          mid = x.mid;
          few = x.few;
          laid = x.laid.in_memo;
          these = gone_are x.store (box_in m) grid.easts grid.norths waiting (laid_easts x.laid.in_memo) (laid_norths x.laid.in_memo) x.laid.waiting_is gone;
          cell = h.0;
          home = home_is x.store (box_in m) h.1;
          stands = found_cell x.store.cells (laid_cells x.laid.in_memo) (corner_of x.store.cuts (box_in m)) h.0 h.1 (told ∙ corner_told m) e;
        }

    pub homed_not : {P : Type 0} → o ≡ None → P
    homed_not e =
        let h = home_some x.store.cuts x.store.cells (box_in m) x.mid.core.tiling in
        found_not x.store.cells (laid_cells x.laid.in_memo) (corner_of x.store.cuts (box_in m)) h.0 h.1 (told ∙ corner_told m) e

  -- what `parted` asks of the reports and the cuts
  pub part_asks : (waiting.n ≤ full_memory) × WholeWaiting waiting × (grid.easts.n ≤ max_cuts) × (grid.norths.n ≤ max_cuts)
  part_asks = (few_wait, whole_laid waiting x.store.waiting x.laid.waiting_is, few_easts, few_norths)

-- ---- d swept, with the reports of m

module _ {words : List Slot} {at : ℕ} {taken : Waiting} {memo : Memo} (m : BoxAt) {b : List ℕ} (x : BeforeEnter words at taken memo (box_in m) b) where
  abbrev store : Store
  store = x.store

  abbrev grid : Grid
  grid = grid_in x.frame words

  abbrev into : Flushed
  into = flushed_into (box_in m) store x.cell

  abbrev pub home_place : BeforeSweepAt words at memo b
  home_place = record {
    frame = x.frame;
    store = store;
    c = store.tally + 1;
    mid = x.mid;
    late = omega (arith, x.early);
    laid = x.laid;
    cell = x.cell;
    stands = x.stands;
  }

  -- `swept_at` has swept it
  module _ (chain : Chain) (table : Rows Fix) (after : Memo) (given : (y : BeforeSweepAt words at memo b) → InHand (swept y.store.memo y.cell) (swept_memo y.store.memo y.cell.entries) chain table after) where
    abbrev from : Held
    from = record { table = table; memo = after }

    cell-swept : InHand (swept store.memo x.cell) (swept_memo store.memo x.cell.entries) chain table after
    cell-swept = given home_place

    -- what `enter_all` asks
    pub Entered_asks : (taken.n ≤ full_memory) × Enterable from (reports_of taken)
    Entered_asks = enter_asks store x.cell m taken from x.these cell-swept.rows cell-swept.memo_is x.mid (omega (arith, x.early)) x.home x.few

    -- what it leaves
    pub Entered_gives : (to : Held) → Entered from (reports_of taken) to → InHand into.cell into.store.memo chain to.table to.memo
    unfolding flushed_into swept
    Entered_gives to e =
        let k = enter_gives store x.cell m taken from x.these cell-swept.rows cell-swept.memo_is to e in
        record { bound = cell-swept.bound; chained = cell-swept.chained; rows = k.0; memo_is = k.1 }

  -- ---- d grown, split or joined

  abbrev among : Among store.cells x.cell
  among = Among_place home_place

  home_inside : inside x.cell.edges (corner_of store.cuts (box_in m)) ≡ true
  unfolding cell_of_box
  home_inside = (cell_at_split store.cells (corner_of store.cuts (box_in m)) x.cell x.home).1

  into_laid : LaidGrid into.store grid b
  unfolding flushed_into
  into_laid = grid_same store into.store refl refl refl x.laid.in_grid

  into_ready : MidFlush into x.cell among.before among.after store.memo (length (filter (in_box store.cuts (box_in m)) store.waiting)) (store.tally + 1)
  into_ready =
      let k = x.mid.core in
      ready (box_in m) store x.cell k among home_inside (store.tally + 1) x.mid.bounded (omega (arith, x.early))
      (omega (arith, waiting_flushed (box_in m) store x.cell k among home_inside, x.few))

  -- `entered` has entered the reports
  module _ (chain : Chain) (table : Rows Fix) (after : Memo) (given : (y : BeforeEnter words at taken memo (box_in m) b) → InHand (flushed_into (box_in m) y.store y.cell).cell (flushed_into (box_in m) y.store y.cell).store.memo chain table after) where
    midway : BeforeReshape grid at (pages_of chain) table after b
    midway =
        let i = given x in
        record {
          flushed = into;
          d = x.cell;
          before = among.before;
          after = among.after;
          lines = store.memo;
          n = length (filter (in_box store.cuts (box_in m)) store.waiting);
          c = store.tally + 1;
          mid = into_ready;
          late = omega (arith, x.early);
          place = sym (length-take-le at store.cells (omega (arith, x.stands.inside)));
          chained = i.chained;
          entered = i.rows;
          laid = record { in_grid = into_laid; memo_is = i.memo_is };
        }

    -- what `reshape` asks
    reshape_asks : HandFits chain × BeforeReshape grid at (pages_of chain) table after b
    reshape_asks = ((given x).bound, midway)

    -- what it leaves
    reshape_gives : {g : Grid} {lines : Memo} {b' : List ℕ}
        → ((y : BeforeReshape grid at (pages_of chain) table after b) → LaidMemo (reshaped y.flushed) g lines b') → LaidMemo (reshaped into) g lines b'
    unfolding midway
    reshape_gives f = f midway

  flush_gives : {g : Grid} {w : Waiting} {lines : Memo} {b' : List ℕ} → LaidMemo (reshaped into) g lines b' → w ≡ waiting_of (filter (λ v. not (in_box store.cuts (box_in m) v)) store.waiting)
      → LaidWaiting (flush (box_in m) store) g w lines b'
  unfolding flush flushed_into
  flush_gives z e = rw x.home (record { in_memo = z; waiting_is = e ∙ ap waiting_of (sym (reshaped-waiting into)) })

-- the whole, in the words of the calls: what `reshape` asks, and what the flush leaves. The grid is as it was
module _ {grid : Grid} {waiting : Waiting} {memo : Memo} {b : List ℕ} (x : BeforeFlush grid waiting memo b) (m : BoxAt) {o : Option ℕ} {at : ℕ} {taken : Waiting}
    (told : o ≡ slot_at (slots_in grid.cells) (corner_of (cuts_by grid.easts grid.norths) (box_in m))) (e : o ≡ Some at)
    (gone : taken ≡ waiting_of (filter (in_box (cuts_by grid.easts grid.norths) (box_in m)) (reports_of waiting)))
    (chain : Chain) (table : Rows Fix) (after : Memo)
    (given : (y : BeforeEnter grid.cells.slots at taken memo (box_in m) b) → InHand (flushed_into (box_in m) y.store y.cell).cell (flushed_into (box_in m) y.store y.cell).store.memo chain table after)
    {still : Grid} (kept : still ≡ grid) where
  pub reshape_wants : HandFits chain × BeforeReshape still at (pages_of chain) table after b
  unfolding homed
  reshape_wants = subst (λ (g : Grid). HandFits chain × BeforeReshape g at (pages_of chain) table after b) (sym kept) (reshape_asks m (homed x m told e gone) chain table after given)

  pub flush_returns : {g : Grid} {w : Waiting} {lines : Memo} {b' : List ℕ} → ((y : BeforeReshape still at (pages_of chain) table after b) → LaidMemo (reshaped y.flushed) g lines b')
      → w ≡ waiting_of (filter (λ v. not (in_box (cuts_by grid.easts grid.norths) (box_in m) v)) (reports_of waiting)) → LaidWaiting (flush (box_in m) x.store) g w lines b'
  unfolding homed
  flush_returns {g} {w} {lines} {b'} f left =
      let y = homed x m told e gone in
      flush_gives m y
      (reshape_gives m y chain table after given (subst (λ (h : Grid). (z : BeforeReshape h at (pages_of chain) table after b) → LaidMemo (reshaped z.flushed) g lines b') kept f))
      (left_are x.store (box_in m) grid.easts grid.norths waiting (laid_easts x.laid.in_memo) (laid_norths x.laid.in_memo) x.laid.waiting_is left)
