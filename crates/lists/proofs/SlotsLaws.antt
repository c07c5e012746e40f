-- Slots in use, from the first to a count, as loops meet them: those from i on, those up to i, and one test after the other.
use mathlib.Core.Path.{◌≡◌, refl, sym, ap, ◌∙◌, subst}
use mathlib.Core.Bool.{Bool, true, false}
use mathlib.Core.List.{List, [], ◌∷◌, ◌++◌, map, map-append}
use Prim.Native.Nat.{ℕ, ◌+◌, ◌≤◌, ◌<◌}
use native.Mathlib.Omega.{arith}
use native.Mathlib.Numerals.{add-one}
use lib.Dec.{ltb}
use lib.ListN.{length, get_or, take, drop, replicate, length-take, length-map, length-replicate, get_or-replicate, drop_of_length-le, get_or-eq_default, get_or-map}
use lib.Seq.{drop-cons, get_or-take, take-suc, take_all}
use borrow.Author.Tests.{ltb-true, ltb-false}
use Rattle.lists.specs.Tests.{Each, both, all}
use Rattle.lists.proofs.Cases.{by_cases}
use Rattle.lists.proofs.MapLaws.{map-take}
use Rattle.lists.proofs.TestsLaws.{both_left_false, Each-get_or}

pub true-both : {a : Bool} (b : Bool) → a ≡ true → both a b ≡ b
unfolding both
true-both b e = rw e

pub all-nil : {A : Type 0} (p : A → Bool) → all p [] ≡ true
unfolding all
all-nil p = refl

-- ---- the slots in use from i on

module _ {A : Type 0} where
  pub used_cons : (xs : List A) (n i : ℕ) (d : A) → n ≤ length xs → i < n → drop i (take n xs) ≡ get_or xs i d ∷ drop (i + 1) (take n xs)
  used_cons xs n i d h k =
      let l : i < length (take n xs) = rw length-take (omega arith) in
      rw (add-one, drop-cons (take n xs) i d l, get_or-take n xs i d k)

  pub used_none : (xs : List A) (n i : ℕ) → n ≤ i → drop i (take n xs) ≡ []
  used_none xs n i h = drop_of_length-le (take n xs) {i = i} (rw length-take (omega arith))

pub all-map : {A B : Type 0} (p : B → Bool) (f : A → B) (l : List A) → all p (map f l) ≡ all (λ x. p (f x)) l
unfolding all
all-map p f [] = refl
all-map p f (x ∷ xs) = ap (both (p (f x))) (all-map p f xs)

pub few_used : {A : Type 0} (n most : ℕ) (xs : List A) → n ≤ most → length (take n xs) ≤ most
few_used n most xs h = rw length-take (omega arith)

-- a list of the same at any place
pub same_at : {A : Type 0} (z : A) (n k : ℕ) → get_or (replicate n z) k z ≡ z
same_at z n k =
    by_cases (ltb k n)
    (λ t. get_or-replicate n k z z (ltb-true k n t))
    (λ t. get_or-eq_default (replicate n z) z {n = k} (rw (length-replicate n z) (ltb-false k n t)))

-- ---- one test after the other

pub stops : {a x : Bool} (rest : Bool) → a ≡ x → a ≡ false → false ≡ both x rest
stops rest e f = sym (both_left_false rest (sym e ∙ f))

pub goes : {a x r rest : Bool} → a ≡ x → a ≡ true → r ≡ rest → r ≡ both x rest
goes {a} {x} {r} {rest} e f q = q ∙ sym (true-both rest (sym e ∙ f))

pub passed_true : {a x : Bool} → a ≡ x → a ≡ true → x ≡ true
passed_true e f = sym e ∙ f

-- ---- the slots in use up to i

module _ {A : Type 0} (xs : List A) (n i : ℕ) (d : A) (fits : n ≤ length xs) (more : i < n) where
  pub taken_turn : take (i + 1) (take n xs) ≡ take i (take n xs) ++ (get_or xs i d ∷ [])
  taken_turn = rw add-one (take-suc (take n xs) i d (rw length-take (omega arith)) ∙ ap (λ (x : A). take i (take n xs) ++ (x ∷ [])) (get_or-take n xs i d more))

  pub mapped_turn : {B : Type 0} (g : A → B) → take (i + 1) (map g (take n xs)) ≡ take i (map g (take n xs)) ++ (g (get_or xs i d) ∷ [])
  mapped_turn {B} g =
      sym (map-take g (i + 1) (take n xs)) ∙ ap (map g) taken_turn ∙ map-append g (take i (take n xs)) (get_or xs i d ∷ [])
      ∙ ap (λ (l : List B). l ++ (g (get_or xs i d) ∷ [])) (map-take g i (take n xs))

  pub Each_mapped : {B : Type 0} (P : B → Type 0) (g : A → B) → Each P (map g (take n xs)) → P (g (get_or xs i d))
  Each_mapped P g e =
      let l : length (take n xs) ≡ n = rw length-take (omega arith) in
      subst P (get_or-map g (take n xs) i d ∙ ap g (get_or-take n xs i d more)) (Each-get_or P (map g (take n xs)) i (g d) e (omega (arith, length-map (take n xs) g)))

module _ {A : Type 0} (xs : List A) (n i : ℕ) (past : n ≤ i) where
  pub taken_end : take i (take n xs) ≡ take n xs
  taken_end = take_all i (take n xs) (rw length-take (omega arith))

  pub mapped_end : {B : Type 0} (g : A → B) → take i (map g (take n xs)) ≡ map g (take n xs)
  mapped_end g = take_all i (map g (take n xs)) (rw (length-map, length-take) (omega arith))
