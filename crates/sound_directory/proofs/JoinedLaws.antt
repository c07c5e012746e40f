-- Slots looked at by two numbers each: what is joined of all their first, and of all their second, is 0 just if each slot is as an unused one.
use mathlib.Core.Path.{◌≡◌, sym, ap, ap₂, ◌∙◌}
use mathlib.Core.Bool.{Bool, ◌&&◌}
use mathlib.Core.List.{List}
use Prim.Native.Nat.{ℕ, ◌+◌, ◌≤◌, ◌<◌}
use native.Mathlib.Omega.{arith}
use lib.Bits.{bit_or}
use lib.Dec.{eqb}
use lib.ListN.{length, get_or, drop}
use borrow.Author.Tests.{eqb-true, eqb-false, ne_eqb}
use Rattle.std.specs.Int.Bits.{or_zero_l}
use Rattle.std.proofs.lemmas.Nat.{le_or_l}
use Rattle.lists.specs.Tests.{both, all}
use Rattle.lists.proofs.Cases.{by_cases}
use Rattle.lists.proofs.TestsLaws.{and_both}
use Rattle.sound_directory.proofs.LoopLaws.{Passed, pass_start, pass_turn, pass_end}

-- two numbers joined are 0 just if both are
pub or_Clear : (a b : ℕ) → eqb (bit_or a b) 0 ≡ both (eqb a 0) (eqb b 0)
unfolding both
or_Clear a b =
    by_cases (eqb a 0)
    (λ t. rw t (ap (λ (k : ℕ). eqb (bit_or k b) 0) (eqb-true a 0 t) ∙ ap (λ (k : ℕ). eqb k 0) (or_zero_l b)))
    (λ t. let ne = eqb-false a 0 t in let le = le_or_l a b in rw t (ne_eqb (bit_or a b) 0 (omega (arith, ne, le))))

both_exchanged : (a b c d : Bool) → both (both a b) (both c d) ≡ both (both a c) (both b d)
unfolding both
both_exchanged a b c d = by_cases a (λ t. rw t (by_cases b (λ u. rw u) (λ u. rw u (by_cases c (λ v. rw v) (λ v. rw v))))) (λ t. rw t)

-- what is joined of the slots up to i is 0 just if each of them passes: with the rest it is the test
abbrev pub Joined : {A : Type 0} → (A → Bool) → List A → ℕ → ℕ → ℕ → Type 0
Joined p xs firsts seconds i = Passed p xs (both (eqb firsts 0) (eqb seconds 0)) i

pub join_start : {A : Type 0} (p : A → Bool) (xs : List A) → Joined p xs 0 0 0
unfolding both
join_start p xs = pass_start p xs

module _ {A : Type 0} (p : A → Bool) (xs : List A) (firsts seconds : ℕ) {i : ℕ} (r : Joined p xs firsts seconds i) where
  abbrev so : Bool
  so = both (eqb firsts 0) (eqb seconds 0)

  pub join_turn : (d : A) → i < length xs → (a b : ℕ) → both (eqb a 0) (eqb b 0) ≡ p (get_or xs i d) → Joined p xs (bit_or firsts a) (bit_or seconds b) (i + 1)
  join_turn d more a b e =
      let turned = pass_turn p xs d r more e in
      record {
        same =
            ap (λ (y : Bool). both y (all p (drop (i + 1) xs)))
            (ap₂ both (or_Clear firsts a) (or_Clear seconds b)
            ∙ both_exchanged (eqb firsts 0) (eqb a 0) (eqb seconds 0) (eqb b 0)
            ∙ sym (and_both so (both (eqb a 0) (eqb b 0))))
            ∙ turned.same;
      }

  pub join_end : length xs ≤ i → (eqb firsts 0 && eqb seconds 0) ≡ all p xs
  join_end h = and_both (eqb firsts 0) (eqb seconds 0) ∙ pass_end p xs r h
