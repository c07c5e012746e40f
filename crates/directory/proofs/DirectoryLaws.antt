-- A store's cells and cuts in the desk's arrays: what the functions of this crate are asked, and what they answer, in the store's words.
use mathlib.Core.Bool.{Bool}
use mathlib.Core.List.{List, [], ◌∷◌, ◌++◌, map}
use Rattle.std.specs.Prelude.{Option, None, Some}
use mathlib.Core.Path.{◌≡◌, refl, sym, ap, ◌∙◌, subst}
use Prim.Native.Nat.{ℕ, zero, suc, ◌≤◌, ◌<◌}
use native.Mathlib.Nat.{not-suc-le-zero, le_of_suc-le-suc}
use native.Mathlib.Omega.{arith}
use lib.Dec.{leb, ltb}
use lib.ListN.{length, get_or, take, drop, length-map, length-take}
use lib.Seq.{get_or_at, length-take-le}
use borrow.Author.Tests.{ltb-true}
use Rattle.terms.specs.Terms.{Place}
use Rattle.lists.specs.Parts.{remove_at}
use Rattle.lists.specs.Tests.{Each, first_at, best}
use Rattle.lists.proofs.Cases.{by_cases, none-some, some_injective}
use Rattle.lists.proofs.MapLaws.{map-remove_at}
use Rattle.lists.proofs.TestsLaws.{both_left, Each_map, Each_over_map, first_at-some, best_holds}
use Rattle.rules.specs.Limits.{max_cells}
use Rattle.rules.specs.Grid.{Rect, Cuts, cuts_of, span_of, inside, Box, boxes}
use Rattle.rules.specs.Store.{Cell, cell_at}
use Rattle.rules.specs.Cut.{Cut}
use Rattle.rules.specs.Flush.{unused_number}
use Rattle.rules.specs.Carry.{most_of, box_to_flush}
use Rattle.rules.specs.Parts.{Edged, Tiling}
use Rattle.rules.proofs.TilingLaws.{GoodCut}
use Rattle.rules.proofs.CutLaws.{due_some}
use Rattle.desk.specs.declared.CutList.{CutList}
use Rattle.desk.specs.declared.Slot.{Slot}
use Rattle.desk.specs.Held.{Directory}
use Rattle.desk.specs.Layout.{slotted, no_slot, slot_of, directory_of, cut_list_of}
use Rattle.desk.specs.Views.{slots_in, directory_with, edges_of}
use Rattle.desk.proofs.UniqueLaws.{take_slots, cuts_Laid}
use Rattle.boxes.proofs.BoxLaws.{Boxed, Boxed_place, Each-Boxed}
use Rattle.desk.proofs.SlotsLaws.{get_or_mapped}
use Rattle.directory.specs.Directory.{Stands, WholeDirectory, slot_at, Numbered, unused_of}
use Rattle.directory.specs.Cuts.{WholeCuts, CutReady}
use Rattle.directory.proofs.CellLaws.{slots_at}

-- ---- lists

split_index : {A : Type 0} (l : List A) (k : ℕ) → k < length l → (x : A) × (l ≡ take k l ++ (x ∷ drop (suc k) l))
split_index [] k h = absurd (not-suc-le-zero h)
split_index (y ∷ l) zero h = (y, refl)
split_index (y ∷ l) (suc k) h = let r = split_index l k (le_of_suc-le-suc h) in (r.0, ap (◌∷◌ y) r.1)

-- ---- the directory of these cells

laid_with : (cells : List Cell) → directory_of cells ≡ directory_with (map slot_of cells)
unfolding directory_of directory_with
laid_with cells = let e = length-map cells slot_of in λ i. record { n = sym e i; slots = slotted max_cells no_slot (map slot_of cells) }

numbers_laid : (cells : List Cell) → map (λ s. s.number) (map slot_of cells) ≡ map (λ c. c.number) cells
numbers_laid [] = refl
numbers_laid (c ∷ cs) = ap (◌∷◌ c.number) (numbers_laid cs)

module _ {d : Directory} (cells : List Cell) (laid : d ≡ directory_of cells) where
  pub directory_slots : slots_in d ≡ map slot_of cells
  unfolding slots_in
  directory_slots = ap (λ (x : Directory). take x.n x.slots) laid ∙ take_slots cells

  pub directory_count : d.n ≡ length cells
  unfolding directory_of
  directory_count = ap (λ (x : Directory). x.n) laid

  pub directory_whole : WholeDirectory d
  directory_whole = laid ∙ laid_with cells ∙ ap directory_with (sym directory_slots)

  pub directory_few : length cells ≤ max_cells → d.n ≤ max_cells
  directory_few h = omega (arith, directory_count)

  pub directory_Numbered : {cuts : Cuts} → Tiling cuts cells → Numbered (slots_in d)
  directory_Numbered {cuts} t = rw directory_slots (Each_over_map (λ s. s.number < max_cells) slot_of cells (Each_map (Edged cuts) (λ c. c.number < max_cells) cells (λ c g. g.numbered) t.cells_edged))

  -- "the smallest unused number"
  pub unused_laid : unused_of (slots_in d) ≡ unused_number cells
  unfolding unused_of unused_number
  unused_laid = rw (directory_slots, numbers_laid cells)

  -- a cell that goes, and one that goes last in the round
  pub directory_removed : (k : ℕ) → directory_with (remove_at (slots_in d) k) ≡ directory_of (take k cells ++ drop (suc k) cells)
  directory_removed k =
      ap (λ (l : List Slot). directory_with (remove_at l k)) directory_slots ∙ ap directory_with (sym (map-remove_at slot_of cells k)) ∙ sym (laid_with (remove_at cells k)) ∙ unfold remove_at in refl

-- ---- a cell and its slot

-- what the answer says
-- what is found stands below the count, in a directory of any kind
pub found_inside : (d : Directory) (p : Place) {o : Option ℕ} {k : ℕ} → o ≡ slot_at (slots_in d) p → o ≡ Some k → k < d.n
unfolding slot_at slots_in
found_inside d p {k = k} told e =
    omega (arith, (first_at-some (λ s. inside (edges_of s) p) (take d.n d.slots) k no_slot (sym told ∙ e)).0, length-take d.n d.slots)

found_split : (cells : List Cell) (p : Place) (c : Cell) → cell_at cells p ≡ Some c → (k : ℕ) × (slot_at (map slot_of cells) p ≡ Some k) × (k < length cells) × (cells ≡ take k cells ++ (c ∷ drop (suc k) cells))
unfolding cell_at slot_at first_at
found_split [] p c = none-some
found_split (x ∷ xs) p c =
    by_cases (inside x.edges p)
    (λ t. rw t (λ e. let z : x ≡ c = cc in (0, refl, omega arith, ap (λ (y : Cell). y ∷ xs) z)))
    (λ t. rw t (λ e. let r = found_split xs p c e in (suc r.0, rw r.1, omega (arith, r.2), ap (◌∷◌ x) r.3)))

module _ {d : Directory} (cells : List Cell) (laid : d ≡ directory_of cells) where
  stands : (k : ℕ) (c : Cell) → k < length cells → cells ≡ take k cells ++ (c ∷ drop (suc k) cells) → Stands d cells c k
  stands k c h e =
      let here : get_or cells k c ≡ c = ap (λ (l : List Cell). get_or l k c) e ∙ get_or_at (take k cells) c (drop (suc k) cells) c k (length-take-le k cells (omega arith)) in
      let s : get_or (slots_in d) k no_slot ≡ slot_of c = ap (λ (l : List Slot). get_or l k no_slot) (directory_slots cells laid) ∙ get_or_mapped slot_of cells k c no_slot h ∙ ap slot_of here in
      record { inside = h; split = e; slot = s; element = sym (slots_at d k (omega (arith, directory_count cells laid))) ∙ s }

  pub Stands_index : (k : ℕ) → k < length cells → (c : Cell) × Stands d cells c k
  Stands_index k h = let r = split_index cells k h in (r.0, stands k r.0 h r.1)

  -- the cell of a place is found, and nothing else
  module _ (p : Place) (c : Cell) (here : cell_at cells p ≡ Some c) where
    pub found_some : (k : ℕ) × (slot_at (slots_in d) p ≡ Some k) × Stands d cells c k
    found_some =
        let r = found_split cells p c here in
        (r.0, ap (λ (l : List Slot). slot_at l p) (directory_slots cells laid) ∙ r.1, stands r.0 c r.2 r.3)

    pub found_cell : {o : Option ℕ} {k : ℕ} → o ≡ slot_at (slots_in d) p → o ≡ Some k → Stands d cells c k
    found_cell told e = let r = found_some in let z = some_injective (sym r.1 ∙ sym told ∙ e) in rw (← z) r.2

    pub found_not : {P : Type 0} {o : Option ℕ} → o ≡ slot_at (slots_in d) p → o ≡ None → P
    found_not told e = none-some (sym (sym told ∙ e) ∙ found_some.1)

-- ---- the cuts of one direction

module _ {c : CutList} (l : List ℕ) (laid : c ≡ cut_list_of l) where
  pub cuts_count : c.n ≡ length l
  unfolding cut_list_of
  cuts_count = ap (λ (x : CutList). x.n) laid

  pub cuts_whole : WholeCuts c
  cuts_whole = laid ∙ ap cut_list_of (sym (cuts_Laid laid))

-- the cut of a split may be made
pub cut_ready : {c : CutList} {cuts : Cuts} {cells : List Cell} {edges : Rect} {cut : Cut} → c ≡ cut_list_of (cuts_of cut.axis cuts) → Tiling cuts cells → GoodCut cuts edges cut → CutReady c cut.at
cut_ready {cuts = cuts} {edges = edges} {cut = cut} laid t good =
    let l = cuts_of cut.axis cuts in
    let span = span_of cut.axis edges in
    let inside = cuts_Laid laid in
    record {
      whole = cuts_whole l laid;
      few = omega (arith, cuts_count l laid, t.few_cuts cut.axis);
      rising = rw inside (t.cuts_rise cut.axis);
      above = omega (arith, ltb-true span.low cut.at (both_left (ltb span.low cut.at) (leb cut.at span.high) good.crosses));
      valid = rw inside good.valid;
    }

-- ---- a memory cell's corner

most_Boxed : (cuts : Cuts) (how_many : Box → ℕ) (m : Box) (l : List Box) → Each (Boxed cuts) l → most_of how_many l ≡ Some m → Boxed cuts m
most_Boxed cuts how_many m [] e f = none-some f
most_Boxed cuts how_many m (x ∷ xs) e f =
    let better : Box → Box → Bool = λ y z. ltb (how_many z) (how_many y) in
    let z : best better x xs ≡ m = cc in
    subst (Boxed cuts) z (best_holds (Boxed cuts) better x xs e.0 e.1)

-- the one to flush is one of them
pub Boxed_due : (cuts : Cuts) (how_many : Box → ℕ) (in_all : ℕ) (p : Place) (m : Box) → box_to_flush cuts how_many in_all p ≡ Some m → Boxed cuts m
Boxed_due cuts how_many in_all p m e =
    due_some cuts how_many in_all p m e (λ z _. subst (Boxed cuts) z (Boxed_place cuts p)) (λ _ _ f. most_Boxed cuts how_many m (boxes cuts) (Each-Boxed cuts) f)

-- its stripes lie within the counts
pub Boxed_counts : {easts norths : CutList} {cuts : Cuts} {m : Box} → easts ≡ cut_list_of cuts.easts → norths ≡ cut_list_of cuts.norths → Boxed cuts m → (m.east ≤ easts.n) × (m.north ≤ norths.n)
Boxed_counts {cuts = cuts} e n b = (omega (arith, cuts_count cuts.easts e, b.east), omega (arith, cuts_count cuts.norths n, b.north))
