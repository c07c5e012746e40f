-- Tests as Bools, and what they pick.
use Rattle.std.specs.Prelude.{Bool, true, false, cond, List, [], ◌∷◌, ℕ, zero, suc, Option, None, Some}

-- 1 or 0
abbrev pub one_if : Bool → ℕ
one_if true = 1
one_if false = 0

-- shut, unlike mathlib's `&&` and `||`: under these an argument `_` is solved
unfoldable pub both : Bool → Bool → Bool
both a b = cond a b false

unfoldable pub either : Bool → Bool → Bool
either a b = cond a true b

abbrev later : Option ℕ → Option ℕ
later None = None
later (Some i) = Some (suc i)

module _ {A : Type 0} where
  abbrev pub is_some : Option A → Bool
  is_some None = false
  is_some (Some a) = true

  -- the first, or else the second
  abbrev pub or_else : Option A → Option A → Option A
  or_else None o = o
  or_else (Some a) o = Some a

  -- a fact of each element
  abbrev pub Each : (A → Type 0) → List A → Type 0
  Each P [] = Unit {0}
  Each P (x ∷ xs) = P x × Each P xs

  -- every element passes
  unfoldable pub all : (A → Bool) → List A → Bool
  all p [] = true
  all p (x ∷ xs) = both (p x) (all p xs)

  -- the place of the first element that passes, counted from 0
  unfoldable pub first_at : (A → Bool) → List A → Option ℕ
  first_at p [] = None
  first_at p (x ∷ xs) = cond (p x) (Some zero) (later (first_at p xs))

  -- the first element that passes
  unfoldable pub first_that : (A → Bool) → List A → Option A
  first_that p [] = None
  first_that p (x ∷ xs) = cond (p x) (Some x) (first_that p xs)

  -- the best of x and what follows it; of equally good ones the first
  unfoldable pub best : (A → A → Bool) → A → List A → A
  best better x [] = x
  best better x (y ∷ ys) = best better (cond (better y x) y x) ys

module _ {A B : Type 0} where
  -- the first answer that there is
  unfoldable pub first_some : (A → Option B) → List A → Option B
  first_some f [] = None
  first_some f (x ∷ xs) = or_else (f x) (first_some f xs)
