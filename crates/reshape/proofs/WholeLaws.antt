-- Which way d goes, in the words of the calls.
use mathlib.Core.Bool.{true, false}
use mathlib.Core.List.{List, ◌∷◌, ◌++◌, map}
use Rattle.std.specs.Prelude.{Option, None, Some, option_map}
use mathlib.Core.Path.{◌≡◌, sym, ap, ap₂, subst, ◌∙◌}
use Prim.Native.Nat.{ℕ, suc, ◌-◌, ◌≤◌, ◌<◌}
use native.Mathlib.Omega.{arith}
use lib.Dec.{ltb}
use lib.ListN.{length, take, drop, get_or, length-take}
use borrow.Author.Tests.{lt-ltb, le-ltb}
use Rattle.terms.specs.Terms.{Fix, max_on, pages, page_entries}
use Rattle.lists.specs.Rows.{Rows}
use Rattle.lists.specs.Tests.{Each}
use Rattle.lists.specs.Parts.{remove_at}
use Rattle.lists.proofs.SumsLaws.{counted_below}
use Rattle.lists.proofs.TestsLaws.{Each_middle, concat-map-Each}
use Rattle.page.specs.Buffer.{buffer_bytes}
use Rattle.rules.specs.Limits.{max_cells, max_cuts}
use Rattle.rules.specs.Grid.{Rect, Cuts, eastward, northward}
use Rattle.rules.specs.Store.{Cell, pages_for}
use Rattle.rules.specs.Cut.{chosen_cut}
use Rattle.rules.specs.Flush.{Flushed, grown, split_at, neighbour, joined_with, reshaped}
use Rattle.rules.proofs.NeighbourLaws.{neighbour-Near}
use Rattle.desk.specs.declared.Frame.{Frame}
use Rattle.desk.specs.declared.Slot.{Slot}
use Rattle.desk.specs.Held.{Directory, Grid, Memo, directory_in, grid_in}
use Rattle.desk.specs.Layout.{no_slot, cut_list_of, slot_of, grid_of}
use Rattle.desk.specs.Views.{cuts_by, slots_in, directory_with, edges_of}
use Rattle.desk.proofs.UniqueLaws.{cuts_Laid}
use Rattle.desk.specs.Laid.{LaidGrid, LaidMemo}
use Rattle.cut.specs.Choice.{cut_of}
use Rattle.cut.specs.declared.Cut.{Cut as CodeCut}
use Rattle.directory.proofs.CellLaws.{slots_at}
use Rattle.directory.specs.Directory.{Stands}
use Rattle.directory.proofs.DirectoryLaws.{directory_slots, directory_count, cuts_count, Stands_index}
use Rattle.settle.proofs.SettleLaws.{CellAt, chains_of}
use Rattle.join.specs.Join.{HasPage, nearest}
use Rattle.join.proofs.NeighbourLaws.{first-pages, neighbour_at, neighbour-none}
use Rattle.cell_last.specs.Settling.{BeforeReshape, BeforeSettle, BeforeLast, moved_last}
use Rattle.cell_split.specs.Splitting.{BeforeSplit}
use Rattle.cell_join.specs.Joining.{BeforeJoin}
use Rattle.cell_last.proofs.MidwayLaws.{d_Apart, midway_loose, midway_slot, grown_Laid}
use Rattle.cell_last.proofs.MovedLaws.{get_or_middle, loose_in, settles_out}
use Rattle.reshape.proofs.ReshapeLaws.{full_grown, uncut_grown, cut_split, lone_grown, near_joined}

Stands_get_or : {A : Type 0} (l : List A) (c z : A) (k : ℕ) → k < length l → l ≡ take k l ++ (c ∷ drop (suc k) l) → get_or l k z ≡ c
Stands_get_or l c z k h e =
    ap (λ (x : List _). get_or x k z) e ∙ ap (λ (n : ℕ). get_or (take k l ++ (c ∷ drop (suc k) l)) n z) (omega (arith, length-take k l)) ∙ get_or_middle (take k l) c (drop (suc k) l) z

module _ {grid : Grid} {at : ℕ} {chain : List ℕ} {rows : Rows Fix} {memo : Memo} {b : List ℕ} (x : BeforeReshape grid at chain rows memo b) where
  abbrev f : Flushed
  f = x.flushed

  d_slot : {d : Slot} → d ≡ get_or grid.cells.slots at no_slot → d ≡ slot_of f.cell
  d_slot e = e ∙ sym (slots_at grid.cells at (loose_in (midway_loose x))) ∙ midway_slot x

  pub count_cells : grid.cells.n ≡ length f.store.cells
  unfolding grid_of
  count_cells = directory_count f.store.cells (ap (λ (g : Grid). g.cells) x.laid.in_grid.grid_is)

  grew : {g : Grid} {b' : List ℕ} → reshaped f ≡ grown f → LaidGrid (moved_last f.store (x.before ++ x.after) f.cell) g b' → LaidMemo (reshaped f) g memo b'
  unfolding grown
  grew e l = rw e (record { in_grid = grown_Laid x l; memo_is = x.laid.memo_is })

  -- ---- more than a page of entries

  easts_held : grid.easts ≡ cut_list_of f.store.cuts.easts
  unfolding grid_of
  easts_held = ap (λ (g : Grid). g.easts) x.laid.in_grid.grid_is

  norths_held : grid.norths ≡ cut_list_of f.store.cuts.norths
  unfolding grid_of
  norths_held = ap (λ (g : Grid). g.norths) x.laid.in_grid.grid_is

  pub cuts_few : (grid.easts.n ≤ max_cuts) × (grid.norths.n ≤ max_cuts)
  cuts_few = (
    omega (arith, cuts_count f.store.cuts.easts easts_held, x.mid.tiled.few_cuts eastward),
    omega (arith, cuts_count f.store.cuts.norths norths_held, x.mid.tiled.few_cuts northward),
  )

  pub chosen : {d : Slot} (o : Option CodeCut) → d ≡ get_or grid.cells.slots at no_slot → option_map cut_of o ≡ chosen_cut (cuts_by grid.easts grid.norths) (edges_of d) rows
      → chosen_cut f.store.cuts f.cell.edges f.cell.entries ≡ option_map cut_of o
  chosen o read e =
      let cuts : cuts_by grid.easts grid.norths ≡ f.store.cuts = ap₂ (λ (l m : List ℕ). record { easts = l; norths = m }) (cuts_Laid easts_held) (cuts_Laid norths_held) in
      sym (e ∙ ap₂ (λ (c : Cuts) (p : Rect × Rows Fix). chosen_cut c p.0 p.1) cuts (ap₂ (λ (r : Rect) (l : Rows Fix). (r, l)) (ap edges_of (d_slot read)) x.entered))

  module _ (more : page_entries < length rows) where
    many : ltb page_entries (length f.cell.entries) ≡ true
    many = lt-ltb page_entries (length f.cell.entries) (omega (arith, more, ap length x.entered))

    pub full_returns : {g : Grid} {b' : List ℕ} → max_cells ≤ grid.cells.n → ((y : BeforeSettle grid at chain rows b) → LaidGrid (moved_last y.store (y.before ++ y.after) y.cell) g b') → LaidMemo (reshaped f) g memo b'
    full_returns h l = grew (full_grown f many (le-ltb (length f.store.cells) max_cells (omega (arith, h, count_cells)))) (l (midway_loose x))

    module _ (few : grid.cells.n < max_cells) where
      less : ltb (length f.store.cells) max_cells ≡ true
      less = lt-ltb (length f.store.cells) max_cells (omega (arith, few, count_cells))

      module _ {d : Slot} {o : Option CodeCut} (read : d ≡ get_or grid.cells.slots at no_slot) (said : option_map cut_of o ≡ chosen_cut (cuts_by grid.easts grid.norths) (edges_of d) rows) where
        pub uncut_returns : {g : Grid} {b' : List ℕ} → o ≡ None → ((y : BeforeSettle grid at chain rows b) → LaidGrid (moved_last y.store (y.before ++ y.after) y.cell) g b') → LaidMemo (reshaped f) g memo b'
        uncut_returns n l = grew (uncut_grown f many less (chosen o read said ∙ ap (option_map cut_of) n)) (l (midway_loose x))

        module _ (cut : CodeCut) (found : o ≡ Some cut) where
          abbrev pub splits : BeforeSplit grid at chain rows (cut_of cut) b
          splits = record { memo = memo; midway = x; few = omega (arith, few, count_cells); chosen = chosen o read said ∙ ap (option_map cut_of) found }

          pub split_returns : {g : Grid} {b' : List ℕ} → ((y : BeforeSplit grid at chain rows (cut_of cut) b) → LaidGrid (split_at (cut_of cut) y.midway.flushed) g b') → LaidMemo (reshaped f) g memo b'
          unfolding split_at
          split_returns l = rw (cut_split f many less (cut_of cut) (chosen o read said ∙ ap (option_map cut_of) found)) (record { in_grid = l splits; memo_is = x.laid.memo_is })

-- ---- at most a page of entries: d's slot is taken out of the round

module _ (frame : Frame) {ws : List Slot} {at : ℕ} {chain : List ℕ} {rows : Rows Fix} {memo : Memo} {b : List ℕ} (x : BeforeReshape (grid_in frame ws) at chain rows memo b)
    {d : Slot} {vs : List Slot} (read : d ≡ get_or ws at no_slot) (taken : directory_in (frame.cells - 1) vs ≡ directory_with (remove_at (slots_in (directory_in frame.cells ws)) at)) where
  abbrev cells : List Cell
  cells = x.before ++ x.after

  abbrev others : Directory
  others = directory_in (frame.cells - 1) vs

  -- d is to be settled and to go last
  abbrev pub lasts : BeforeLast frame vs d chain rows b
  lasts = settles_out (midway_loose x) read taken

  cells_laid : Each (CellAt b) cells
  cells_laid = (d_Apart x.mid b x.laid.in_grid.laid).cells_laid

  cells_paged : Each (λ c. length c.chain ≡ pages_for (length c.entries)) cells
  cells_paged = (Each_middle (λ c. length c.chain ≡ pages_for (length c.entries)) x.before x.d x.after x.mid.paged.cells_paged).1

  cells_below : Each (λ c. Each (λ p. p < pages) c.chain) cells
  cells_below =
      let a = d_Apart x.mid b x.laid.in_grid.laid in
      concat-map-Each (λ p. p < pages) (λ c. c.chain) cells (counted_below pages (chains_of cells) (λ q. omega (arith, a.once q)))

  rest_slots : slots_in others ≡ map slot_of cells
  rest_slots = directory_slots cells lasts.out.rest_is

  pub lone_asks : {n : ℕ} → n ≡ length rows → length rows ≤ page_entries → (length b ≡ buffer_bytes) × (n ≤ max_on) × Each HasPage (slots_in others)
  lone_asks e few = (x.laid.in_grid.laid.size, omega (arith, e, few), first-pages (slots_in others) cells rest_slots cells_below cells_paged)

  module _ {n : ℕ} (is_n : n ≡ length rows) (few : length rows ≤ page_entries) where
    small : ltb page_entries (length x.flushed.cell.entries) ≡ false
    small = le-ltb page_entries (length x.flushed.cell.entries) (omega (arith, few, ap length x.entered))

    edges : edges_of d ≡ x.flushed.cell.edges
    edges = ap edges_of (d_slot x read)

    count_d : n ≡ length x.flushed.cell.entries
    count_d = is_n ∙ ap length x.entered

    module _ {o : Option ℕ} (found : o ≡ nearest b (slots_in (directory_in (frame.cells - 1) vs)) d n) where
      pub lone_returns : {g : Grid} {b' : List ℕ} → o ≡ None
          → ((y : BeforeLast frame vs d chain rows b) → LaidGrid (moved_last y.settles.store (y.settles.before ++ y.settles.after) y.settles.cell) g b') → LaidMemo (reshaped x.flushed) g memo b'
      lone_returns e l = grew x (lone_grown x.flushed small (neighbour-none b d n x.flushed edges count_d (slots_in others) cells x.mid.rest rest_slots cells_laid cells_paged found e)) (l lasts)

      module _ (k : ℕ) (at_k : o ≡ Some k) where
        abbrev pub near : Cell
        near = get_or cells k x.d

        pub near_at : (k < length cells) × (neighbour x.flushed ≡ Some near)
        near_at = neighbour_at b d n x.flushed edges count_d (slots_in others) cells x.mid.rest rest_slots cells_laid cells_paged found k x.d at_k

        pub standing : Stands others cells near k
        standing =
            let s = Stands_index cells lasts.out.rest_is k near_at.0 in
            subst (λ (c : Cell). Stands others cells c k) (sym (Stands_get_or cells s.0 x.d k s.1.inside s.1.split)) s.1

        abbrev pub nears : BeforeJoin frame vs d k chain rows memo b
        nears = record { words = ws; at = at; midway = x; out = lasts.out; neighbour = near; stands = standing; small = (neighbour-Near x.flushed near near_at.1).small }

        pub near_returns : {g : Grid} {lines : Memo} {b' : List ℕ} → ((y : BeforeJoin frame vs d k chain rows memo b) → LaidMemo (joined_with y.midway.flushed y.neighbour) g lines b') → LaidMemo (reshaped x.flushed) g lines b'
        near_returns l = rw (near_joined x.flushed small near near_at.1) (l nears)
