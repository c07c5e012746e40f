-- A loop over rows in slots: that their radios rise and that they pass.
use mathlib.Core.Path.{◌≡◌, refl, sym, ap, ap₂, ◌∙◌}
use mathlib.Core.Bool.{Bool, true, false}
use mathlib.Core.List.{List, [], ◌∷◌, map}
use Prim.Native.Nat.{ℕ, ◌+◌, ◌≤◌, ◌<◌}
use native.Mathlib.Numerals.{add-one}
use lib.Dec.{leb, ltb}
use lib.ListN.{length, get_or, drop, drop_of_length-le}
use lib.Seq.{drop-cons}
use Rattle.terms.specs.Terms.{max_radio}
use Rattle.lists.specs.Tests.{both, all}
use Rattle.lists.proofs.Cases.{by_cases}
use Rattle.lists.proofs.TestsLaws.{both_intro, both_left_false, both_right_false, all-cons}
use Rattle.sound_clauses.specs.Loops.{rises_to}
use Rattle.sound_clauses.proofs.LoopsLaws.{rises_nil, rises_cons}
use Rattle.lists.proofs.SlotsLaws.{true-both, all-nil}

-- radios that rise, from above b, and every element passes
unfoldable pub climbs : {A : Type 0} → (A → ℕ) → (A → Bool) → ℕ → List A → Bool
climbs radio p b l = both (rises_to max_radio b (map radio l)) (all p l)

both_swap : (a b c d : Bool) → both (both a b) (both c d) ≡ both (both a c) (both b d)
unfolding both
both_swap true true c d = by_cases c (λ t. rw t) (λ t. rw t)
both_swap true false c d = by_cases c (λ t. rw t) (λ t. rw t)
both_swap false b c d = refl

module _ {A : Type 0} (radio : A → ℕ) (p : A → Bool) where
  climbs-nil : (b : ℕ) → climbs radio p b [] ≡ true
  unfolding climbs
  climbs-nil b = both_intro (rises_nil max_radio b) (all-nil p)

  climbs-cons : (b : ℕ) (x : A) (xs : List A) → climbs radio p b (x ∷ xs) ≡ both (both (both (ltb b (radio x)) (leb (radio x) max_radio)) (p x)) (climbs radio p (radio x) xs)
  unfolding climbs
  climbs-cons b x xs =
      ap₂ both (rises_cons max_radio b (radio x) (map radio xs)) (all-cons p x xs)
      ∙ both_swap (both (ltb b (radio x)) (leb (radio x) max_radio)) (rises_to max_radio (radio x) (map radio xs)) (p x) (all p xs)

-- up to i they do, and end at last: what is left to test is the test
pub record Climbs {A : Type 0} (radio : A → ℕ) (p : A → Bool) (xs : List A) (last i : ℕ) : Type 0 where
  pub same : climbs radio p last (drop i xs) ≡ climbs radio p 0 xs

pub climb_start : {A : Type 0} (radio : A → ℕ) (p : A → Bool) (xs : List A) → Climbs radio p xs 0 0
climb_start radio p xs = record { same = refl }

module _ {A : Type 0} {radio : A → ℕ} {p : A → Bool} {xs : List A} {last i : ℕ} (r : Climbs radio p xs last i) where
  module _ (more : i < length xs) (d : A) {a : Bool} (said : a ≡ both (ltb last (radio (get_or xs i d))) (leb (radio (get_or xs i d)) max_radio)) where
    next : both (both (both (ltb last (radio (get_or xs i d))) (leb (radio (get_or xs i d)) max_radio)) (p (get_or xs i d))) (climbs radio p (radio (get_or xs i d)) (drop (i + 1) xs)) ≡ climbs radio p 0 xs
    next =
        sym (climbs-cons radio p last (get_or xs i d) (drop (i + 1) xs))
        ∙ ap (climbs radio p last) (ap (λ k. get_or xs i d ∷ drop k xs) (add-one i) ∙ sym (drop-cons xs i d more))
        ∙ r.same

    pub climb_stops : a ≡ false → false ≡ climbs radio p 0 xs
    climb_stops f = sym (both_left_false _ (both_left_false (p (get_or xs i d)) (sym said ∙ f))) ∙ next

    module _ {b : Bool} (passed : b ≡ p (get_or xs i d)) where
      pub climb_fails : b ≡ false → false ≡ climbs radio p 0 xs
      climb_fails f = sym (both_left_false _ (both_right_false _ (sym passed ∙ f))) ∙ next

      pub climb_turn : a ≡ true → b ≡ true → Climbs radio p xs (radio (get_or xs i d)) (i + 1)
      climb_turn f g = record { same = sym (true-both _ (both_intro (sym said ∙ f) (sym passed ∙ g))) ∙ next }

  pub climb_end : length xs ≤ i → true ≡ climbs radio p 0 xs
  climb_end h = sym (climbs-nil radio p last) ∙ ap (climbs radio p last) (sym (drop_of_length-le xs {i = i} h)) ∙ r.same
