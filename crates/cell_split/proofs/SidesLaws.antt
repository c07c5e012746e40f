-- The two sides of a split, in the words of the calls.
use mathlib.Core.Bool.{not}
use mathlib.Core.List.{List, [], ◌∷◌, ◌++◌, map, map-append, append_assoc}
use mathlib.Core.Path.{◌≡◌, refl, sym, ap, ap₂, subst, ◌∙◌}
use Prim.Native.Nat.{ℕ, ◌+◌, ◌≤◌, ◌<◌}
use native.Mathlib.Omega.{arith}
use lib.ListN.{length, get_or}
use Rattle.terms.specs.Terms.{Fix, pages, no_page}
use Rattle.lists.specs.Chains.{chain_head}
use Rattle.lists.specs.Parts.{remove_at}
use Rattle.lists.specs.Rows.{Rows}
use Rattle.lists.specs.Sums.{filter}
use Rattle.lists.specs.Tests.{Each}
use Rattle.page.specs.Buffer.{buffer_bytes, chain_from, at_none, end_from}
use Rattle.rules.specs.Limits.{max_cells}
use Rattle.rules.specs.Grid.{Axis, eastward, northward, cuts_of, with_cuts_of}
use Rattle.rules.specs.Store.{Cell, pages_for, settled, free_after}
use Rattle.rules.specs.Cut.{Cut, low_side}
use Rattle.rules.specs.Flush.{Flushed, add_cut, unused_number, low_cell, high_cell, split_at}
use Rattle.rules.specs.Parts.{Tiling}
use Rattle.rules.proofs.TilingLaws.{GoodCut}
use Rattle.rules.proofs.CutLaws.{chosen_good}
use Rattle.desk.specs.declared.CutList.{CutList}
use Rattle.desk.specs.declared.Slot.{Slot}
use Rattle.desk.specs.declared.Frame.{Frame}
use Rattle.desk.specs.Held.{Grid, directory_in, grid_in}
use Rattle.desk.specs.Layout.{no_slot, cut_list_of, slot_of, directory_of, grid_of}
use Rattle.desk.specs.Views.{slots_in, directory_with}
use Rattle.desk.proofs.UniqueLaws.{cuts_Laid}
use Rattle.desk.specs.Laid.{LaidGrid}
use Rattle.directory.specs.Cuts.{CutReady}
use Rattle.directory.specs.Directory.{WholeDirectory, Numbered, unused_of}
use Rattle.directory.proofs.CellLaws.{slots_at}
use Rattle.directory.proofs.DirectoryLaws.{directory_whole, directory_count, directory_few, directory_Numbered, unused_laid, cut_ready}
use Rattle.settle.specs.declared.Settled.{Settled}
use Rattle.settle.specs.Settle.{written, settled_leaves, settled_ends}
use Rattle.split.specs.Split.{low_slot, high_slot}
use Rattle.split.proofs.SplitLaws.{low_slot-settled, high_slot-settled}
use Rattle.cell_split.specs.declared.Sides.{Sides}
use Rattle.cell_split.specs.Splitting.{BeforeSplit, AfterSides, list_on, Cuttable, cut_frame}
use Rattle.cell_last.specs.Frames.{with_count}
use Rattle.cell_last.proofs.MovedLaws.{with_slots, rest_slots, loose_in, loose_slot}
use Rattle.cell_last.proofs.MidwayLaws.{midway_loose, midway_slot}
use Rattle.cell_split.proofs.SplitLaws.{low_asks, low_size, high_asks, sides_Laid, sides_end}

module _ {grid : Grid} {at : ℕ} {chain : List ℕ} {rows : Rows Fix} {cut : Cut} {b : List ℕ} (x : BeforeSplit grid at chain rows cut b) where
  abbrev f : Flushed
  f = x.midway.flushed

  abbrev number : ℕ
  number = unused_number f.store.cells

  few : length (x.midway.before ++ (x.midway.d ∷ x.midway.after)) < max_cells
  few = subst (λ (l : List Cell). length l < max_cells) x.midway.mid.cells x.few

  pub number_is : {n : ℕ} → n ≡ unused_of (slots_in grid.cells) → n ≡ number
  unfolding grid_of
  number_is e = e ∙ unused_laid f.store.cells (ap (λ (g : Grid). g.cells) x.midway.laid.in_grid.grid_is)

  d_number : {d : Slot} → d ≡ get_or grid.cells.slots at no_slot → d.number ≡ x.midway.d.number
  d_number e =
      ap (λ (s : Slot). s.number) (e ∙ sym (slots_at grid.cells at (loose_in (midway_loose x.midway))) ∙ loose_slot (midway_loose x.midway))

  -- the low side
  pub low_settles : (part : Rows Fix) → part ≡ filter (low_side cut) rows
      → Each (λ p. p < pages) chain × (end_from pages b grid.free ≡ at_none)
      × (pages_for (length part) ≤ length chain + length (chain_from pages b grid.free))
  low_settles part e = low_asks x.midway cut number few e

  module _ {d : Slot} (read : d ≡ get_or grid.cells.slots at no_slot) (part : Rows Fix) (is_low : part ≡ filter (low_side cut) rows) {b₁ : List ℕ} {e₁ : Settled}
      (wrote : b₁ ≡ written b (settled_leaves d.number chain (chain_from pages b grid.free) part))
      (ends : e₁ ≡ settled_ends chain (chain_from pages b grid.free) part) where
    -- the other side
    pub high_settles : (none : List ℕ) (part' : Rows Fix) → none ≡ [] → part' ≡ filter (λ e. not (low_side cut e)) rows
        → Each (λ p. p < pages) none × (end_from pages b₁ e₁.free ≡ at_none) × (pages_for (length part') ≤ length none + length (chain_from pages b₁ e₁.free))
    high_settles none part' n e = high_asks x.midway cut number few is_low (d_number read) wrote ends n e

    pub high_size : length b₁ ≡ buffer_bytes
    high_size = low_size x.midway cut number few is_low (d_number read) wrote ends

    pub sides_return : (none : List ℕ) (part' : Rows Fix) {n : ℕ} {b₂ : List ℕ} {e₂ : Settled} → n ≡ unused_of (slots_in grid.cells) → none ≡ [] → part' ≡ filter (λ e. not (low_side cut e)) rows
        → b₂ ≡ written b₁ (settled_leaves n none (chain_from pages b₁ e₁.free) part') → e₂ ≡ settled_ends none (chain_from pages b₁ e₁.free) part'
        → AfterSides f cut (record { low = e₁.first; high = e₂.first; free = e₂.free }) b₂
    unfolding split_at
    sides_return none part' {b₂ = b₂} {e₂ = e₂} is_n is_none is_high wrote_high ends_high =
        let w : b₂ ≡ written b₁ (settled_leaves number none (chain_from pages b₁ e₁.free) part') = wrote_high ∙ ap (λ (k : ℕ). written b₁ (settled_leaves k none (chain_from pages b₁ e₁.free) part')) (number_is is_n) in
        let q = sides_end x.midway cut number few is_low (d_number read) wrote ends is_none is_high w ends_high in
        record {
          low = q.0;
          high = q.1;
          free = q.2;
          laid =
              sides_Laid x.midway cut number few is_low (d_number read) wrote ends is_none is_high w ends_high (split_at cut f)
              (ap (λ (l : List Cell). l ++ (settled f.store.free (low_cell cut f.cell) ∷ settled (free_after f.store.free (low_cell cut f.cell)) (high_cell cut number f.cell) ∷ [])) x.midway.mid.rest)
              refl;
        }

  -- ---- the whole split

  tiling : Tiling f.store.cuts f.store.cells
  tiling = subst (Tiling f.store.cuts) (sym x.midway.mid.cells) x.midway.mid.tiled

  good : GoodCut f.store.cuts f.cell.edges cut
  good = chosen_good f.store.cuts f.cell.edges f.cell.entries cut x.midway.mid.books.cells_rowed.0.placed x.chosen

  cells_held : grid.cells ≡ directory_of f.store.cells
  unfolding grid_of
  cells_held = ap (λ (g : Grid). g.cells) x.midway.laid.in_grid.grid_is

  pub split_numbers : (grid.cells.n ≤ max_cells) × Numbered (slots_in grid.cells)
  split_numbers = (directory_few f.store.cells cells_held (omega (arith, x.few)), directory_Numbered f.store.cells cells_held tiling)

  -- the cuts of its direction, laid out
  cuts_held : {l : CutList} → l ≡ cut_list_of (cuts_of cut.axis f.store.cuts) → CutReady l cut.at
  cuts_held h = cut_ready {cut = cut} h tiling good

  above : 1 ≤ cut.at
  above = (cuts_held refl).above

  pub split_asks : WholeDirectory grid.cells × (at < grid.cells.n) × (grid.cells.n < max_cells) × (1 ≤ cut.at)
  split_asks =
      (directory_whole f.store.cells cells_held, loose_in (midway_loose x.midway), omega (arith, directory_count f.store.cells cells_held, x.few), above)

  module _ {n free : ℕ} {frame moved : Frame} {ws : List Slot} (lent : grid_in frame ws ≡ grid) (is_moved : moved ≡ with_count n free frame) where
    easts_held : moved.easts ≡ cut_list_of f.store.cuts.easts
    unfolding grid_of
    easts_held = ap (λ (g : Frame). g.easts) is_moved ∙ ap (λ (g : Grid). g.easts) (lent ∙ x.midway.laid.in_grid.grid_is)

    norths_held : moved.norths ≡ cut_list_of f.store.cuts.norths
    unfolding grid_of
    norths_held = ap (λ (g : Frame). g.norths) is_moved ∙ ap (λ (g : Grid). g.norths) (lent ∙ x.midway.laid.in_grid.grid_is)

    list_held : (a : Axis) → list_on a moved ≡ cut_list_of (cuts_of a f.store.cuts)
    list_held eastward = easts_held
    list_held northward = norths_held

    pub split_cuts : Cuttable moved cut
    split_cuts = cuts_held (list_held cut.axis)

    cut_by : (a : Axis) → cut_frame moved (record { axis = a; at = cut.at }) ≡ record { easts = cut_list_of (with_cuts_of a (add_cut cut.at (cuts_of a f.store.cuts)) f.store.cuts).easts; norths = cut_list_of (with_cuts_of a (add_cut cut.at (cuts_of a f.store.cuts)) f.store.cuts).norths; cells = moved.cells; free = moved.free }
    unfolding cut_frame
    cut_by eastward = ap₂ (λ (l m : CutList). record { easts = l; norths = m; cells = moved.cells; free = moved.free }) (ap (λ (l : List ℕ). cut_list_of (add_cut cut.at l)) (cuts_Laid easts_held)) norths_held
    cut_by northward = ap₂ (λ (l m : CutList). record { easts = l; norths = m; cells = moved.cells; free = moved.free }) easts_held (ap (λ (l : List ℕ). cut_list_of (add_cut cut.at l)) (cuts_Laid norths_held))

    abbrev low : Cell
    low = settled f.store.free (low_cell cut f.cell)

    abbrev high : Cell
    high = settled (free_after f.store.free (low_cell cut f.cell)) (high_cell cut number f.cell)

    low_slot_lem : {first : ℕ} → first ≡ chain_head no_page low.chain → low_slot cut (get_or (slots_in grid.cells) at no_slot) first ≡ slot_of low
    low_slot_lem e = ap₂ (λ (s : Slot) (k : ℕ). low_slot cut s k) (midway_slot x.midway) e ∙ low_slot-settled cut f.cell f.store.free

    high_slot_lem : {n first : ℕ} → n ≡ unused_of (slots_in grid.cells) → first ≡ chain_head no_page high.chain → high_slot cut (get_or (slots_in grid.cells) at no_slot) n first ≡ slot_of high
    high_slot_lem e g =
        ap₂ (λ (s : Slot) (p : ℕ × ℕ). high_slot cut s p.0 p.1) (midway_slot x.midway) (ap₂ (λ (a b : ℕ). (a, b)) (number_is e) g)
        ∙ high_slot-settled cut f.cell number (free_after f.store.free (low_cell cut f.cell))

    pub split_laid : {k : ℕ} (sides : Sides) {b' : List ℕ} {r : Frame} {vs : List Slot} → k ≡ unused_of (slots_in grid.cells) → AfterSides f cut sides b'
        → directory_in n vs ≡ directory_with ((remove_at (slots_in grid.cells) at ++ (low_slot cut (get_or (slots_in grid.cells) at no_slot) sides.low ∷ [])) ++ (high_slot cut (get_or (slots_in grid.cells) at no_slot) k sides.high ∷ []))
        → free ≡ sides.free → r ≡ cut_frame moved cut → LaidGrid (split_at cut f) (grid_in r vs) b'
    unfolding grid_of split_at
    split_laid sides {r = r} {vs = vs} is_n laid is_cells is_free is_r =
        let rest : List Cell = x.midway.before ++ x.midway.after in
        let slots : directory_in n vs ≡ directory_with ((map slot_of rest ++ (slot_of low ∷ [])) ++ (slot_of high ∷ [])) =
        is_cells ∙ ap₂ (λ (l : List Slot) (p : Slot × Slot). directory_with ((l ++ (p.0 ∷ [])) ++ (p.1 ∷ []))) (rest_slots (midway_loose x.midway)) (ap₂ (λ (s t : Slot). (s, t)) (low_slot_lem laid.low) (high_slot_lem is_n laid.high)) in
        let all : directory_in n vs ≡ directory_of (rest ++ (low ∷ high ∷ [])) =
        slots ∙ ap directory_with (append_assoc (map slot_of rest) (slot_of low ∷ []) (slot_of high ∷ []) ∙ sym (map-append slot_of rest (low ∷ high ∷ []))) ∙ with_slots (rest ++ (low ∷ high ∷ [])) in
        let cuts = cut_by cut.axis in
        let count : r.cells ≡ n = ap (λ (g : Frame). g.cells) (is_r ∙ cuts) ∙ ap (λ (g : Frame). g.cells) is_moved in
        let front : r.free ≡ chain_head no_page (split_at cut f).free = ap (λ (g : Frame). g.free) (is_r ∙ cuts) ∙ ap (λ (g : Frame). g.free) is_moved ∙ is_free ∙ laid.free in
        let easts = ap (λ (g : Frame). g.easts) (is_r ∙ cuts) in
        let norths = ap (λ (g : Frame). g.norths) (is_r ∙ cuts) in
        let held : directory_in r.cells vs ≡ directory_of (split_at cut f).cells =
        ap (λ (m : ℕ). directory_in m vs) count ∙ all ∙ ap (λ (l : List Cell). directory_of (l ++ (low ∷ high ∷ []))) (sym x.midway.mid.rest) in
        record { grid_is = λ t. record { easts = easts t; norths = norths t; cells = held t; free = front t }; laid = laid.laid }
