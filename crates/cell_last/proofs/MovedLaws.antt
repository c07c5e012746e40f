-- A cell whose entries are at hand is settled and goes to the end of the round: what the code asks for that, and what it leaves.
use mathlib.Core.List.{List, [], ◌∷◌, ◌++◌, map, append-nil, map-append}
use mathlib.Core.Path.{◌≡◌, refl, sym, ap, ap₂, subst, ◌∙◌}
use Prim.Native.Nat.{ℕ, suc, ◌+◌, ◌-◌, ◌≤◌, ◌<◌}
use native.Mathlib.Omega.{arith}
use lib.ListN.{length, get_or, drop, length-map, length-append}
use lib.Seq.{take_at}
use Rattle.terms.specs.Terms.{Fix, max_on, pages, no_page}
use Rattle.lists.specs.Chains.{chain_head}
use Rattle.lists.specs.Parts.{remove_at}
use Rattle.lists.specs.Rows.{Rows}
use Rattle.lists.specs.Tests.{Each}
use Rattle.entries.specs.declared.Entry.{Entry}
use Rattle.entries.specs.Entries.{rows_of}
use Rattle.page.specs.Buffer.{buffer_bytes, pages_of, chain_from, at_none, end_from}
use Rattle.page.specs.declared.Chain.{Chain}
use Rattle.rules.specs.Limits.{max_cells}
use Rattle.rules.specs.Grid.{Rect, Cuts}
use Rattle.rules.specs.Store.{Cell, Store, with_cuts, with_cells, with_free, pages_for, settled}
use Rattle.desk.specs.declared.Slot.{Slot}
use Rattle.desk.specs.declared.Frame.{Frame}
use Rattle.desk.specs.Held.{Directory, Grid, directory_in, grid_in}
use Rattle.desk.specs.Layout.{slotted, no_slot, cut_list_of, slot_of, directory_of, grid_of, At, cells_leaves, free_leaves, store_leaves}
use Rattle.desk.specs.Views.{slots_in, directory_with, edges_of}
use Rattle.desk.specs.Laid.{LaidGrid}
use Rattle.desk.proofs.UniqueLaws.{take_slots}
use Rattle.directory.specs.Directory.{WholeDirectory}
use Rattle.directory.proofs.CellLaws.{slots_at}
use Rattle.settle.specs.declared.Settled.{Settled}
use Rattle.settle.specs.Settle.{written, settled_leaves, settled_ends}
use Rattle.settle.proofs.SettleLaws.{Apart, Apart_cell, settled_Laid, settle_asks, settle_says}
use Rattle.cell_last.proofs.CellsLaws.{slots_with}
use Rattle.cell_last.specs.Frames.{with_count}
use Rattle.cell_last.specs.Settling.{HandFits, BeforeSettle, SlotOut, BeforeLast, moved_last}

-- a grid and pages that lay out a store lay out any other with the same cuts, cells and free chain
pub grid_same : {g : Grid} {b : List ℕ} (s t : Store) → s.cuts ≡ t.cuts → s.cells ≡ t.cells → s.free ≡ t.free → LaidGrid s g b → LaidGrid t g b
unfolding grid_of store_leaves
grid_same {g = g} {b = b} s t e f h l = record {
  grid_is = l.grid_is ∙ ap₂ (λ (c : Cuts) (x : List Cell × List ℕ). grid_of (with_cuts c (with_cells x.0 (with_free x.1 t)))) e (ap₂ (λ (x : List Cell) (y : List ℕ). (x, y)) f h);
  laid = record { size = l.laid.size; leaf = subst (λ (x : List Cell × List ℕ). Each (At b) (cells_leaves x.0 ++ free_leaves x.1)) (ap₂ (λ (x : List Cell) (y : List ℕ). (x, y)) f h) l.laid.leaf };
}

-- ---- the directory of a list of cells

slots_of : (cells : List Cell) → slots_in (directory_of cells) ≡ map slot_of cells
unfolding slots_in
slots_of cells = take_slots cells

pub with_slots : (cells : List Cell) → directory_with (map slot_of cells) ≡ directory_of cells
unfolding directory_with directory_of
with_slots cells = ap (λ (n : ℕ). directory_in n (slotted max_cells no_slot (map slot_of cells))) (length-map cells slot_of)

whole_of : (cells : List Cell) → WholeDirectory (directory_of cells)
whole_of cells = sym (with_slots cells) ∙ ap directory_with (sym (slots_of cells))

remove_middle : {A : Type 0} (xs : List A) (x : A) (ys : List A) → remove_at (xs ++ (x ∷ ys)) (length xs) ≡ xs ++ ys
unfolding remove_at
remove_middle xs x ys = ap₂ (λ (u v : List _). u ++ v) (take_at xs (x ∷ ys) (length xs) refl) (drop_past xs x ys)
  where
    drop_past : {A : Type 0} (xs : List A) (x : A) (ys : List A) → drop (suc (length xs)) (xs ++ (x ∷ ys)) ≡ ys
    drop_past [] x ys = refl
    drop_past (y ∷ xs) x ys = drop_past xs x ys

pub get_or_middle : {A : Type 0} (xs : List A) (x : A) (ys : List A) (z : A) → get_or (xs ++ (x ∷ ys)) (length xs) z ≡ x
get_or_middle [] x ys z = refl
get_or_middle (y ∷ xs) x ys z = get_or_middle xs x ys z

-- a slot shows number, edges and first page
pub slot_same : (c d : Cell) → c.number ≡ d.number → c.edges ≡ d.edges → c.chain ≡ d.chain → slot_of c ≡ slot_of d
slot_same c d e g h =
    ap₂ (λ (n : ℕ) (p : Rect × List ℕ). slot_of (record { number = n; edges = p.0; chain = p.1; entries = d.entries })) e (ap₂ (λ (r : Rect) (l : List ℕ). (r, l)) g h)

-- ---- a loose cell

module _ {grid : Grid} {at : ℕ} {chain : List ℕ} {rows : Rows Fix} {b : List ℕ} (x : BeforeSettle grid at chain rows b) where
  abbrev rest : List Cell
  rest = x.before ++ x.after

  pub loose_Apart : Apart b rest x.cell.chain x.store.free
  loose_Apart = Apart_cell x.store x.once b x.laid.laid x.before x.old x.after x.cells x.chain_kept

  pub loose_cells : grid.cells ≡ directory_of (x.before ++ (x.old ∷ x.after))
  unfolding grid_of
  loose_cells = ap (λ (g : Grid). g.cells) x.laid.grid_is ∙ ap directory_of x.cells

  pub loose_free : grid.free ≡ chain_head no_page x.store.free
  unfolding grid_of
  loose_free = ap (λ (g : Grid). g.free) x.laid.grid_is

  loose_slots : slots_in grid.cells ≡ map slot_of x.before ++ (slot_of x.old ∷ map slot_of x.after)
  loose_slots = ap slots_in loose_cells ∙ slots_of (x.before ++ (x.old ∷ x.after)) ∙ map-append slot_of x.before (x.old ∷ x.after)

  loose_place : at ≡ length (map slot_of x.before)
  loose_place = x.place ∙ sym (length-map x.before slot_of)

  pub loose_slot : get_or (slots_in grid.cells) at no_slot ≡ slot_of x.old
  loose_slot = ap₂ (λ (l : List Slot) (n : ℕ). get_or l n no_slot) loose_slots loose_place ∙ get_or_middle (map slot_of x.before) (slot_of x.old) (map slot_of x.after) no_slot

  pub loose_rest : directory_with (remove_at (slots_in grid.cells) at) ≡ directory_of rest
  loose_rest =
      ap₂ (λ (l : List Slot) (n : ℕ). directory_with (remove_at l n)) loose_slots loose_place
      ∙ ap directory_with (remove_middle (map slot_of x.before) (slot_of x.old) (map slot_of x.after) ∙ sym (map-append slot_of x.before x.after))
      ∙ with_slots rest

  pub rest_slots : remove_at (slots_in grid.cells) at ≡ map slot_of rest
  rest_slots = sym (slots_with (remove_at (slots_in grid.cells) at)) ∙ ap slots_in loose_rest ∙ slots_of rest

  -- what `settle` asks
  pub loose_asks : Each (λ p. p < pages) chain × (end_from pages b grid.free ≡ at_none) × (pages_for (length rows) ≤ length chain + length (chain_from pages b grid.free))
  loose_asks = settle_asks x.cell loose_Apart x.chained loose_free x.entered x.room

  -- ---- in the words of the calls

  loose_length : length (x.before ++ (x.old ∷ x.after)) ≤ max_cells
  loose_length = subst (λ (l : List Cell). length l ≤ max_cells) x.cells x.few

  loose_count : grid.cells.n ≡ length (x.before ++ (x.old ∷ x.after))
  unfolding directory_of
  loose_count = ap (λ (d : Directory). d.n) loose_cells

  pub loose_in : at < grid.cells.n
  loose_in = omega (arith, x.place, loose_count, length-append x.before (x.old ∷ x.after))

  pub loose_in_slots : at < max_cells
  loose_in_slots = omega (arith, loose_in, loose_count, loose_length)

  pub loose_takes : WholeDirectory grid.cells × (at < grid.cells.n) × (grid.cells.n ≤ max_cells)
  loose_takes = (rw loose_cells (whole_of (x.before ++ (x.old ∷ x.after))), loose_in, omega (arith, loose_count, loose_length))

  -- its slot taken out
  pub slot_out : {d : Slot} {vs : List Slot} (frame : Frame) → frame.cells ≡ grid.cells.n → d ≡ get_or grid.cells.slots at no_slot
      → directory_in (grid.cells.n - 1) vs ≡ directory_with (remove_at (slots_in grid.cells) at) → SlotOut frame vs d x.old rest
  slot_out {vs = vs} frame n e f = record {
    slot_is = e ∙ sym (slots_at grid.cells at loose_in) ∙ loose_slot;
    rest_is = ap (λ (k : ℕ). directory_in (k - 1) vs) n ∙ f ∙ loose_rest;
  }

abbrev pub settles_out : {frame : Frame} {ws : List Slot} {at : ℕ} {chain : List ℕ} {rows : Rows Fix} {b : List ℕ} (x : BeforeSettle (grid_in frame ws) at chain rows b) {d : Slot} {vs : List Slot}
    → d ≡ get_or ws at no_slot → directory_in (frame.cells - 1) vs ≡ directory_with (remove_at (slots_in (directory_in frame.cells ws)) at) → BeforeLast frame vs d chain rows b
settles_out {frame} {ws} {at} x e f = record { words = ws; at = at; settles = x; out = slot_out x frame refl e f }

pub loose_settles : (chain : Chain) (es : List Entry) {rows : Rows Fix} {grid : Grid} {at : ℕ} {b : List ℕ} → BeforeSettle grid at (pages_of chain) rows b → HandFits chain → rows_of es ≡ rows → length rows ≤ max_on
    → (length b ≡ buffer_bytes) × (length (rows_of es) ≤ max_on) × (chain.n ≤ pages) × Each (λ p. p < pages) (pages_of chain) × (end_from pages b grid.free ≡ at_none)
    × (pages_for (length (rows_of es)) ≤ length (pages_of chain) + length (chain_from pages b grid.free))
loose_settles chain es x f shown few = let q = loose_asks x in rw shown (x.laid.laid.size, few, f, q.0, q.1, q.2)

-- a cell that is taken out, and then put last
module _ {frame : Frame} {rest : List Slot} {d : Slot} {chain : List ℕ} {rows : Rows Fix} {b : List ℕ} (x : BeforeLast frame rest d chain rows b) where
  abbrev s : Store
  s = x.settles.store

  abbrev cell : Cell
  cell = x.settles.cell

  abbrev others : List Cell
  others = x.settles.before ++ x.settles.after

  pub hand_some : 1 ≤ frame.cells
  hand_some = omega (arith, loose_in x.settles)

  pub hand_puts : WholeDirectory (directory_in (frame.cells - 1) rest) × (frame.cells - 1 < max_cells)
  hand_puts = (subst WholeDirectory (sym x.out.rest_is) (whole_of others), omega (arith, hand_some, (loose_takes x.settles).2))

  pub hand_laid : {b' : List ℕ} {e : Settled} {moved : Slot} {vs : List Slot} {r : Frame}
      → b' ≡ written b (settled_leaves d.number chain (chain_from pages b frame.free) rows) → e ≡ settled_ends chain (chain_from pages b frame.free) rows
      → moved ≡ record { number = d.number; west = d.west; east = d.east; south = d.south; north = d.north; first = e.first }
      → directory_in (frame.cells - 1 + 1) vs ≡ directory_with (slots_in (directory_in (frame.cells - 1) rest) ++ (moved ∷ []))
      → r ≡ with_count frame.cells e.free frame
      → LaidGrid (moved_last s others cell) (grid_in r vs) b'
  unfolding moved_last grid_of settled
  hand_laid {b' = b'} {e = e} {moved = moved} {vs = vs} {r = r} wrote ends is_moved is_cells is_r =
      let slot : d ≡ slot_of x.settles.old = x.out.slot_is in
      let apart = loose_Apart x.settles in
      let says = settle_says cell apart x.settles.chained (loose_free x.settles) x.settles.entered (ap (λ (y : Slot). y.number) slot ∙ sym x.settles.number) wrote ends in
      let edges : edges_of d ≡ cell.edges = ap edges_of slot ∙ sym x.settles.edges in
      let number : d.number ≡ cell.number = ap (λ (y : Slot). y.number) slot ∙ sym x.settles.number in
      let first : e.first ≡ chain_head no_page (settled s.free cell).chain = ap (λ (y : Settled). y.first) says.1 in
      let last : moved ≡ slot_of (settled s.free cell) =
      is_moved ∙ (λ t. record { number = number t; west = (edges t).easts.low; east = (edges t).easts.high; south = (edges t).norths.low; north = (edges t).norths.high; first = first t }) in
      let n : frame.cells - 1 + 1 ≡ frame.cells = omega (arith, hand_some) in
      let all : directory_in frame.cells vs ≡ directory_of (others ++ (settled s.free cell ∷ [])) =
      ap (λ (k : ℕ). directory_in k vs) (sym n) ∙ is_cells ∙ ap₂ (λ (l : List Slot) (y : Slot). directory_with (l ++ (y ∷ []))) (ap slots_in x.out.rest_is ∙ slots_of others) last
      ∙ ap directory_with (sym (map-append slot_of others (settled s.free cell ∷ []))) ∙ with_slots (others ++ (settled s.free cell ∷ [])) in
      let easts : frame.easts ≡ cut_list_of s.cuts.easts = ap (λ (g : Grid). g.easts) x.settles.laid.grid_is in
      let norths : frame.norths ≡ cut_list_of s.cuts.norths = ap (λ (g : Grid). g.norths) x.settles.laid.grid_is in
      let front : e.free ≡ chain_head no_page (moved_last s others cell).free = ap (λ (y : Settled). y.free) says.1 in
      record {
        grid_is = ap (λ (y : Frame). grid_in y vs) is_r ∙ (λ t. record { easts = easts t; norths = norths t; cells = all t; free = front t });
        laid = rw says.0 (settled_Laid cell apart (moved_last s others cell) others [] (append-nil others) refl refl);
      }
