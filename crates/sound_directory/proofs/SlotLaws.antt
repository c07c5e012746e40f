-- What the test of a part's slots says: they hold what is in use, and zero past it.
use mathlib.Core.Path.{◌≡◌, refl, sym, ap, ap₂, ◌∙◌}
use mathlib.Core.Bool.{Bool, true, false}
use mathlib.Core.List.{List, [], ◌∷◌, ◌++◌}
use Prim.Native.Nat.{ℕ, zero, suc, ◌-◌, ◌≤◌, ◌<◌}
use native.Mathlib.Omega.{arith}
use lib.Dec.{eqb, leb}
use lib.ListN.{length, take, drop, replicate, length-drop, take-append-drop}
use lib.Seq.{drop-append_seam, length-take-le}
use borrow.Author.Tests.{le-leb, lt-leb, leb-true, eqb-true, eq-eqb}
use Rattle.lists.specs.Sums.{sum_by}
use Rattle.lists.proofs.TestsLaws.{both_left, both_right, both_intro, both_left_false, both_right_false}
use Rattle.desk.specs.Layout.{slotted}
use Rattle.sound_directory.specs.Sound.{weighs, slots_test}

-- ---- lists

-- what adds up to nothing is nothing
sum_nothing : {A : Type 0} (w : A → ℕ) (z : A) → ((x : A) → w x ≡ 0 → x ≡ z) → (l : List A) → sum_by w l ≡ 0 → l ≡ replicate (length l) z
unfolding sum_by
sum_nothing w z h [] e = refl
sum_nothing w z h (x ∷ xs) e = ap₂ ◌∷◌ (h x (omega arith)) (sum_nothing w z h xs (omega arith))

nothing_sum : {A : Type 0} (w : A → ℕ) (z : A) → w z ≡ 0 → (n : ℕ) → sum_by w (replicate n z) ≡ 0
unfolding sum_by
nothing_sum w z e zero = refl
nothing_sum w z e (suc n) = omega (arith, nothing_sum w z e n)

-- ---- the test

module _ {A : Type 0} (w : A → ℕ) (most n : ℕ) (xs : List A) where
  pub slots_long : most < n → slots_test w most n xs ≡ false
  unfolding slots_test
  slots_long h = both_left_false (eqb (weighs w n xs) 0) (lt-leb n most h)

  pub slots_unclear : {b : Bool} → b ≡ eqb (weighs w n xs) 0 → b ≡ false → slots_test w most n xs ≡ false
  unfolding slots_test
  slots_unclear {b} e f = both_right_false (leb n most) (sym e ∙ f)

  pub slots_clear : {b : Bool} → n ≤ most → b ≡ eqb (weighs w n xs) 0 → b ≡ true → slots_test w most n xs ≡ true
  unfolding slots_test
  slots_clear {b} h e f = both_intro (le-leb n most h) (sym e ∙ f)

  module _ (t : slots_test w most n xs ≡ true) where
    pub slots_count : n ≤ most
    unfolding slots_test
    slots_count = leb-true n most (both_left (leb n most) (eqb (weighs w n xs) 0) t)

    slots_rest : weighs w n xs ≡ 0
    unfolding slots_test
    slots_rest = eqb-true (weighs w n xs) 0 (both_right (leb n most) (eqb (weighs w n xs) 0) t)

    module _ (size : ℕ) (sized : length xs ≡ size) (room : most ≤ size) where
      pub slots_used : n ≡ length (take n xs)
      slots_used = sym (length-take-le n xs (omega (arith, slots_count)))

      pub slots_slotted : (z : A) → ((x : A) → w x ≡ 0 → x ≡ z) → xs ≡ slotted size z (take n xs)
      unfolding slotted
      slots_slotted z h =
          let r : sum_by w (drop n xs) ≡ 0 = unfold weighs in slots_rest in
          let k : length (drop n xs) ≡ size - length (take n xs) = length-drop n xs ∙ omega (arith, slots_used) in
          sym (take-append-drop n xs) ∙ ap (λ (y : List A). take n xs ++ y) (sum_nothing w z h (drop n xs) r ∙ ap (λ (j : ℕ). replicate j z) k)

-- a list in its slots passes
pub slotted_slots : {A : Type 0} (w : A → ℕ) (most size : ℕ) (z : A) (l : List A) → w z ≡ 0 → length l ≤ most → slots_test w most (length l) (slotted size z l) ≡ true
unfolding slots_test weighs slotted
slotted_slots w most size z l e h =
    both_intro (le-leb (length l) most h)
    (eq-eqb (sum_by w (drop (length l) (l ++ replicate (size - length l) z))) 0
    (ap (sum_by w) (drop-append_seam l (replicate (size - length l) z)) ∙ nothing_sum w z e (size - length l)))
