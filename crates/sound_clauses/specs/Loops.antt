-- What a loop tests or counts over numbers, and over rows by rising key.
use Rattle.std.specs.Prelude.{Bool, true, List, [], ◌∷◌, map, ℕ, zero, suc, eqb, leb, ltb}
use Rattle.lists.specs.Rows.{Row, Rows}
use Rattle.lists.specs.Sums.{sum_by, count}
use Rattle.lists.specs.Tests.{one_if, both, all}

-- every number below n passes
unfoldable pub all_to : ℕ → (ℕ → Bool) → Bool
all_to zero p = true
all_to (suc n) p = both (all_to n p) (p n)

-- each above the one before it, the first above b, none above n
unfoldable pub rises_to : ℕ → ℕ → List ℕ → Bool
rises_to n b [] = true
rises_to n b (x ∷ xs) = both (both (ltb b x) (leb x n)) (rises_to n x xs)

-- the last of a list, b for none
unfoldable pub last_from : ℕ → List ℕ → ℕ
last_from b [] = b
last_from b (x ∷ xs) = last_from x xs

-- each number below n stands once in the list, and no other stands there
unfoldable pub each_once : ℕ → List ℕ → Bool
each_once n l = both (all (λ x. ltb x n) l) (all_to n (λ k. eqb (count k l) 1))

-- no number below n stands twice
unfoldable pub once_at_most : ℕ → List ℕ → Bool
once_at_most n l = all_to n (λ k. leb (count k l) 1)

module _ {Val : Type 0} where
  abbrev pub keys : Rows Val → List ℕ
  keys l = map (λ x. x.key) l

  -- how many rows of a key pass: what a table by key holds once each row that passes has added 1 there
  unfoldable pub passing : (Row Val → Bool) → ℕ → Rows Val → ℕ
  passing t r l = sum_by (λ x. one_if (both (eqb r x.key) (t x))) l
