-- Loops over the slots of a part of the desk: over those in use, that they rise, and over the others, that they are zero.
use mathlib.Core.Path.{◌≡◌, refl, sym, ap, ap₂, ◌∙◌}
use mathlib.Core.Bool.{Bool, true, ◌&&◌}
use mathlib.Core.List.{List, [], ◌∷◌}
use Prim.Native.Nat.{ℕ, ◌+◌, ◌-◌, ◌≤◌, ◌<◌}
use native.Mathlib.Omega.{arith}
use native.Mathlib.Numerals.{add-one}
use lib.Dec.{eqb, leb, ltb}
use lib.ListN.{length, get_or, take, drop, length-drop, drop_of_length-le}
use lib.Seq.{drop-cons, take_all}
use borrow.Author.Tests.{eqb-true, eqb-false, ne_eqb}
use Rattle.lists.specs.Sums.{sum_by}
use Rattle.lists.specs.Tests.{both, all}
use Rattle.lists.proofs.Cases.{by_cases}
use Rattle.lists.proofs.SlotsLaws.{all-nil}
use Rattle.lists.proofs.TestsLaws.{both-true, and_both, all-cons}
use Rattle.sound_clauses.specs.Loops.{rises_to}
use Rattle.sound_clauses.proofs.LoopsLaws.{rises_nil, rises_cons}
use Rattle.sound_directory.specs.Sound.{weighs}

-- ---- numbers that rise

pub both_then : (a b c : Bool) → both (both a b) c ≡ both a (both b c)
unfolding both
both_then a b c = by_cases a (λ t. rw t) (λ t. rw t)

-- up to i they do if so, and end at last: with what is left to test it is the test
pub record Rises (top : ℕ) (xs : List ℕ) (so : Bool) (last i : ℕ) : Type 0 where
  pub same : both so (rises_to top last (drop i xs)) ≡ rises_to top 0 xs

pub rise_start : (top : ℕ) (xs : List ℕ) → Rises top xs true 0 0
unfolding both
rise_start top xs = record { same = refl }

module _ {top : ℕ} {xs : List ℕ} {so : Bool} {last i : ℕ} (r : Rises top xs so last i) where
  pub rise_turn : {b : Bool} → i < length xs → b ≡ both (ltb last (get_or xs i 0)) (leb (get_or xs i 0) top) → Rises top xs (so && b) (get_or xs i 0) (i + 1)
  rise_turn {b} more e =
      let x = get_or xs i 0 in
      let tail = drop (i + 1) xs in
      let opened : drop i xs ≡ x ∷ tail = drop-cons xs i 0 more ∙ ap (λ k. x ∷ drop k xs) (sym (add-one i)) in
      record {
        same =
            ap (λ (y : Bool). both y (rises_to top x tail)) (and_both so b ∙ ap (both so) e)
            ∙ both_then so (both (ltb last x) (leb x top)) (rises_to top x tail)
            ∙ ap (both so) (sym (rises_cons top last x tail) ∙ ap (rises_to top last) (sym opened))
            ∙ r.same;
      }

  pub rise_end : length xs ≤ i → so ≡ rises_to top 0 xs
  rise_end h = sym (both-true so) ∙ ap (both so) (sym (ap (rises_to top last) (drop_of_length-le xs {i = i} h) ∙ rises_nil top last)) ∙ r.same

-- ---- whether the slots that are not used are as unused ones

-- those up to i pass if so: with the rest it is the test
pub record Passed {A : Type 0} (p : A → Bool) (xs : List A) (so : Bool) (i : ℕ) : Type 0 where
  pub same : both so (all p (drop i xs)) ≡ all p xs

module _ {A : Type 0} (p : A → Bool) (xs : List A) where
  pub pass_start : Passed p xs true 0
  unfolding both
  pass_start = record { same = refl }

  pub pass_turn : {so b : Bool} {i : ℕ} (d : A) → Passed p xs so i → i < length xs → b ≡ p (get_or xs i d) → Passed p xs (so && b) (i + 1)
  pass_turn {so} {b} {i} d r more e =
      let x = p (get_or xs i d) in
      let rest = all p (drop (i + 1) xs) in
      let opened : drop i xs ≡ get_or xs i d ∷ drop (i + 1) xs = drop-cons xs i d more ∙ ap (λ k. get_or xs i d ∷ drop k xs) (sym (add-one i)) in
      record {
        same =
            ap (λ (y : Bool). both y rest) (and_both so b ∙ ap (both so) e)
            ∙ both_then so x rest
            ∙ ap (both so) (sym (all-cons p (get_or xs i d) (drop (i + 1) xs)) ∙ ap (all p) (sym opened))
            ∙ r.same;
      }

  pub pass_end : {so : Bool} {i : ℕ} → Passed p xs so i → length xs ≤ i → so ≡ all p xs
  pass_end {so} {i} r h = sym (both-true so) ∙ ap (both so) (sym (ap (all p) (drop_of_length-le xs {i = i} h) ∙ all-nil p)) ∙ r.same

-- a sum is 0 just if its parts are
pub sum_Clear : (a b : ℕ) → eqb (a + b) 0 ≡ both (eqb a 0) (eqb b 0)
unfolding both
sum_Clear a b =
    by_cases (eqb a 0)
    (λ t. let e : a + b ≡ b = omega (arith, eqb-true a 0 t) in rw t (ap (λ (k : ℕ). eqb k 0) e))
    (λ t. rw t (ne_eqb (a + b) 0 (omega (arith, eqb-false a 0 t))))

-- slots are as unused ones just if they weigh nothing, where each is so just if it weighs nothing
pub unused_weigh : {A : Type 0} (w : A → ℕ) (p : A → Bool) → ((x : A) → p x ≡ eqb (w x) 0) → (xs : List A) → all p xs ≡ eqb (sum_by w xs) 0
unfolding sum_by all
unused_weigh w p h [] = refl
unused_weigh w p h (x ∷ xs) = ap₂ both (h x) (unused_weigh w p h xs) ∙ sym (sum_Clear (w x) (sum_by w xs))

-- so it is with the slots past the n-th
pub unused_rest : {A : Type 0} (w : A → ℕ) (p : A → Bool) → ((x : A) → p x ≡ eqb (w x) 0) → (n size : ℕ) (xs : List A) → length xs ≡ size
    → {b : Bool} → b ≡ all p (take (size - n) (drop n xs)) → b ≡ eqb (weighs w n xs) 0
unfolding weighs
unused_rest w p h n size xs l e =
    e ∙ ap (all p) (take_all (size - n) (drop n xs) (omega (arith, length-drop n xs))) ∙ unused_weigh w p h (drop n xs)
