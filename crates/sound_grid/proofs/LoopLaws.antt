-- A loop over slots: that each passes.
use mathlib.Core.Path.{◌≡◌, refl, sym, ap, ◌∙◌}
use mathlib.Core.Bool.{Bool, true, false}
use mathlib.Core.List.{List, ◌∷◌}
use Prim.Native.Nat.{ℕ, ◌+◌, ◌≤◌, ◌<◌}
use native.Mathlib.Numerals.{add-one}
use lib.ListN.{length, get_or, drop, drop_of_length-le}
use lib.Seq.{drop-cons}
use Rattle.lists.specs.Tests.{both, all}
use Rattle.lists.proofs.TestsLaws.{both_left_false, all-cons}
use Rattle.lists.proofs.SlotsLaws.{true-both, all-nil}

-- up to i they do: what is left to test is the test
pub record Passes {A : Type 0} (p : A → Bool) (xs : List A) (i : ℕ) : Type 0 where
  pub same : all p (drop i xs) ≡ all p xs

pub pass_start : {A : Type 0} (p : A → Bool) (xs : List A) → Passes p xs 0
pass_start p xs = record { same = refl }

module _ {A : Type 0} {p : A → Bool} {xs : List A} {i : ℕ} (r : Passes p xs i) where
  module _ (more : i < length xs) (d : A) {b : Bool} (told : b ≡ p (get_or xs i d)) where
    one : both (p (get_or xs i d)) (all p (drop (i + 1) xs)) ≡ all p xs
    one =
        sym (all-cons p (get_or xs i d) (drop (i + 1) xs))
        ∙ ap (all p) (ap (λ k. get_or xs i d ∷ drop k xs) (add-one i) ∙ sym (drop-cons xs i d more))
        ∙ r.same

    pub pass_fails : b ≡ false → false ≡ all p xs
    pass_fails f = sym (both_left_false (all p (drop (i + 1) xs)) (sym told ∙ f)) ∙ one

    pub pass_turn : b ≡ true → Passes p xs (i + 1)
    pass_turn f = record { same = sym (true-both (all p (drop (i + 1) xs)) (sym told ∙ f)) ∙ one }

  pub pass_end : length xs ≤ i → true ≡ all p xs
  pass_end h = sym (all-nil p) ∙ ap (all p) (sym (drop_of_length-le xs {i = i} h)) ∙ r.same
