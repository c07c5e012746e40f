-- Numbers of cells by marks: which are used, and the first that is not.
use mathlib.Core.Bool.{Bool, true, false, not}
use mathlib.Core.List.{List, [], ◌∷◌, ◌++◌, map, map-append}
use Rattle.std.specs.Prelude.{None, Some}
use mathlib.Core.Path.{◌≡◌, refl, sym, ap, ◌∙◌}
use Prim.Native.Nat.{ℕ, ◌+◌, ◌≤◌, ◌<◌}
use native.Mathlib.Nat.{not-suc-le-zero}
use native.Mathlib.Numerals.{add-one}
use native.Mathlib.Omega.{arith}
use lib.Dec.{eqb, ltb}
use lib.ListN.{length, get_or, set, take, replicate}
use lib.Seq.{take-suc, take_all}
use borrow.Author.Tests.{lt-ltb, ltb-true, ltb-false, eqb-true, eqb-false, eq-eqb, ne_eqb}
use Rattle.lists.specs.Parts.{tab}
use Rattle.lists.specs.Sums.{sum_by, count}
use Rattle.lists.specs.Tests.{one_if, first_at}
use Rattle.lists.proofs.Cases.{by_cases}
use Rattle.lists.proofs.PartsLaws.{length-tab, get_or-tab, set-tab}
use Rattle.lists.proofs.SumsLaws.{sum_last}
use Rattle.lists.proofs.TestsLaws.{first_at_found, first_at_absent, Each-get_or, not-true, not-false}
use Rattle.rules.specs.Limits.{max_cells}
use Rattle.desk.specs.declared.Slot.{Slot}
use Rattle.desk.specs.Layout.{no_slot}
use Rattle.directory.specs.Directory.{Numbered, used_numbers, unused_of}

-- ---- the marks

number_last : (n : ℕ) (l : List Slot) (x : Slot) → count n (map (λ s. s.number) (l ++ (x ∷ []))) ≡ count n (map (λ s. s.number) l) + one_if (eqb n x.number)
number_last n l x = ap (count n) (map-append (λ s. s.number) l (x ∷ [])) ∙ sum_last (λ k. one_if (eqb n k)) (map (λ s. s.number) l) x.number

-- one cell more marks its own number
Used_last : (l : List Slot) (x : Slot) → x.number < max_cells → used_numbers (l ++ (x ∷ [])) ≡ set (used_numbers l) x.number true
unfolding used_numbers
Used_last l x h =
    set-tab max_cells (λ n. ltb 0 (count n (map (λ s. s.number) l))) (λ n. ltb 0 (count n (map (λ s. s.number) (l ++ (x ∷ []))))) x.number true h
    (lt-ltb 0 (count x.number (map (λ s. s.number) (l ++ (x ∷ [])))) (omega (arith, number_last x.number l x, ap one_if (eq-eqb x.number x.number refl))))
    (λ n d. let e : count n (map (λ s. s.number) (l ++ (x ∷ []))) ≡ count n (map (λ s. s.number) l) = omega (arith, number_last n l x, ap one_if (ne_eqb n x.number d)) in rw e)

pub mark_start : (l : List Slot) → replicate max_cells false ≡ used_numbers (take 0 l)
unfolding used_numbers tab sum_by
mark_start l = refl

module _ (l : List Slot) {i : ℕ} (numbered : Numbered l) (more : i < length l) where
  pub number_below : (get_or l i no_slot).number < max_cells
  number_below = Each-get_or (λ s. s.number < max_cells) l i no_slot numbered more

  pub mark_turn : {marks : List Bool} → marks ≡ used_numbers (take i l) → set marks (get_or l i no_slot).number true ≡ used_numbers (take (i + 1) l)
  mark_turn m =
      ap (λ (u : List Bool). set u (get_or l i no_slot).number true) m
      ∙ sym (Used_last (take i l) (get_or l i no_slot) number_below)
      ∙ ap used_numbers (sym (take-suc l i no_slot more) ∙ rw add-one)

pub mark_end : (l : List Slot) {i : ℕ} {marks : List Bool} → marks ≡ used_numbers (take i l) → length l ≤ i → marks ≡ used_numbers l
mark_end l {i} m h = m ∙ ap used_numbers (take_all i l h)

-- ---- the first that is not marked

-- each number below k is marked
pub record Used (marks : List Bool) (k : ℕ) : Type 0 where
  pub each : (j : ℕ) → j < k → get_or marks j false ≡ true

pub Used_start : (marks : List Bool) → Used marks 0
Used_start marks = record { each = λ j b. absurd (not-suc-le-zero b) }

pub Used_turn : {marks : List Bool} {k : ℕ} → Used marks k → not (get_or marks k false) ≡ false → Used marks (k + 1)
Used_turn {marks} {k} m t = record {
  each = λ j b. by_cases (eqb j k)
      (λ e. rw (eqb-true j k e) (not-false (get_or marks k false) t))
      (λ e. m.each j (omega (arith, eqb-false j k e)));
}

abbrev is_unused : List Slot → ℕ → Bool
is_unused l n = eqb (count n (map (λ s. s.number) l)) 0

module _ (l : List Slot) {marks : List Bool} {k : ℕ} (all : marks ≡ used_numbers l) (m : Used marks k) where
  mark_at : (j : ℕ) → j < max_cells → get_or marks j false ≡ ltb 0 (count j (map (λ s. s.number) l))
  unfolding used_numbers
  mark_at j h = rw all (get_or-tab max_cells (λ n. ltb 0 (count n (map (λ s. s.number) l))) j false h)

  Used_below : (j : ℕ) → j < k → j < max_cells → is_unused l (get_or (tab max_cells (λ n. n)) j 0) ≡ false
  Used_below j b h =
      let c = ltb-true 0 (count j (map (λ s. s.number) l)) (sym (mark_at j h) ∙ m.each j b) in
      rw (get_or-tab max_cells (λ n. n) j 0 h) (ne_eqb (count j (map (λ s. s.number) l)) 0 (omega arith))

  pub Used_found : {r : ℕ} → k < max_cells → not (get_or marks k false) ≡ true → r ≡ k → r ≡ unused_of l
  unfolding unused_of
  Used_found h t e =
      let c = ltb-false 0 (count k (map (λ s. s.number) l)) (sym (mark_at k h) ∙ not-true (get_or marks k false) t) in
      let f : first_at (is_unused l) (tab max_cells (λ n. n)) ≡ Some k =
      first_at_found (is_unused l) (tab max_cells (λ n. n)) k 0 (omega (arith, length-tab max_cells (λ (n : ℕ). n)))
      (rw (get_or-tab max_cells (λ n. n) k 0 h) (eq-eqb (count k (map (λ s. s.number) l)) 0 (omega arith)))
      (λ j b. Used_below j b (omega arith)) in
      rw f e

  pub Used_end : max_cells ≤ k → 0 ≡ unused_of l
  unfolding unused_of
  Used_end h =
      let f : first_at (is_unused l) (tab max_cells (λ n. n)) ≡ None =
      first_at_absent (is_unused l) (tab max_cells (λ n. n)) 0 (λ j b. let g : j < max_cells = omega (arith, length-tab max_cells (λ (n : ℕ). n)) in Used_below j (omega arith) g) in
      rw f
