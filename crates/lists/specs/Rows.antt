-- Rows by rising key: a cell's entries, the memo, the waiting reports and who is on are all such lists.
use Rattle.std.specs.Prelude.{Bool, cond, List, [], ◌∷◌, ◌≡◌, ℕ, ◌<◌, ◌≤◌, eqb, ltb, length, get_or, Option, None, Some}
use Rattle.lists.specs.Sums.{sum_by}
use Rattle.lists.specs.Tests.{Each, one_if}

pub record Row (Val : Type 0) : Type 0 where
  pub key : ℕ
  pub val : Val

abbrev pub Rows : Type 0 → Type 0
Rows Val = List (Row Val)

module _ {Val : Type 0} where
  -- rising, every key above b
  abbrev pub Rising : ℕ → Rows Val → Type 0
  Rising b [] = Unit {0}
  Rising b (x ∷ xs) = (b < x.key) × Rising x.key xs

  -- no key above n
  abbrev pub UpTo : ℕ → Rows Val → Type 0
  UpTo n = Each (λ x. x.key ≤ n)

  -- what stands at the key
  unfoldable pub find : Rows Val → ℕ → Option Val
  find [] r = None
  find (x ∷ xs) r = cond (eqb r x.key) (Some x.val) (find xs r)

  -- how many keys lie below r: the place at which r stands, or would
  unfoldable pub rank : ℕ → Rows Val → ℕ
  rank r = sum_by (λ x. one_if (ltb x.key r))

  -- the row at a place has the key
  pub record IsAt (l : Rows Val) (r i : ℕ) : Type 0 where
    pub inside : i < length l
    pub ranks : i ≡ rank r l
    pub here : (d : Row Val) → (get_or l i d).key ≡ r

  -- no row has the key, and the place is the one at which it would stand
  pub record IsGapFor (l : Rows Val) (r i : ℕ) : Type 0 where
    pub inside : i ≤ length l
    pub ranks : i ≡ rank r l
    pub absent : find l r ≡ None

  abbrev pub put_row : ℕ → Option Val → Rows Val → Rows Val
  put_row r None xs = xs
  put_row r (Some v) xs = record { key = r; val = v } ∷ xs

  -- what stands at the key goes through f: made if absent, dropped at none
  unfoldable pub alter : (Option Val → Option Val) → ℕ → Rows Val → Rows Val
  alter f r [] = put_row r (f None) []
  alter f r (x ∷ xs) =
      cond (eqb r x.key) (put_row r (f (Some x.val)) xs)
      (cond (ltb r x.key) (put_row r (f None) (x ∷ xs)) (x ∷ alter f r xs))

  -- v stands at the key
  abbrev pub insert : ℕ → Val → Rows Val → Rows Val
  insert r v = alter (λ _. Some v) r

  -- each row of l is inserted among m
  unfoldable pub merge : Rows Val → Rows Val → Rows Val
  merge [] m = m
  merge (x ∷ xs) m = merge xs (insert x.key x.val m)

  -- what the row found counts, 0 for none
  abbrev pub count_found : (ℕ → Val → ℕ) → ℕ → Option Val → ℕ
  count_found f r None = 0
  count_found f r (Some v) = f r v

  -- the row found, if it passes
  abbrev pub passed : (Row Val → Bool) → ℕ → Option Val → Option Val
  passed p r None = None
  passed p r (Some v) = cond (p (record { key = r; val = v })) (Some v) None
