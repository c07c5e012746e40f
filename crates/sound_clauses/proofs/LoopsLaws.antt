-- What a loop's test says of each number, element or row, and what its counts are.
use mathlib.Core.Path.{◌≡◌, refl, sym, ap, ap₂, ◌∙◌}
use mathlib.Core.Bool.{Bool, true, false, not}
use mathlib.Core.List.{List, [], ◌∷◌, ◌++◌, map}
use Rattle.std.specs.Prelude.{Option, None, Some}
use Prim.Native.Nat.{ℕ, zero, suc, ◌+◌, ◌≤◌, ◌<◌}
use native.Mathlib.Omega.{arith}
use native.Mathlib.Nat.{not-suc-le-zero}
use lib.Dec.{eqb, leb, ltb}
use lib.ListN.{length, get_or}
use borrow.Author.Tests.{lt-ltb, le-leb, lt-leb, ltb-true, ltb-false, leb-true, eqb-true, eqb-false, eq-eqb, ne_eqb}
use Rattle.lists.specs.Rows.{Row, Rows, Rising, UpTo, find, count_found}
use Rattle.lists.specs.Sums.{sum_by, concat, count}
use Rattle.lists.specs.Tests.{one_if, both, Each, is_some, all}
use Rattle.lists.proofs.Cases.{by_cases}
use Rattle.lists.proofs.RowsLaws.{sum-key}
use Rattle.lists.proofs.SumsLaws.{sum-Each, sum_const, sum-concat, count_at, Each-count}
use Rattle.lists.proofs.TestsLaws.{both_left, both_right, both_intro, Each_map, all-Each, Each-all, Each-get_or, get_or-Each, one_if-le}
use Rattle.rules.specs.WellFormed.{RisingCuts}
use Rattle.sound_clauses.specs.Loops.{all_to, rises_to, last_from, each_once, once_at_most, keys, passing}

-- ---- tests

pub bool_same : (a b : Bool) → (a ≡ true → b ≡ true) → (b ≡ true → a ≡ true) → a ≡ b
bool_same true b f g = sym (f refl)
bool_same false true f g = g refl
bool_same false false f g = refl

both_same : true ≡ both true true
unfolding both
both_same = refl

both_swap : (a b c d : Bool) → both (both a b) (both c d) ≡ both (both a c) (both b d)
unfolding both
both_swap true true c d = refl
both_swap true false true d = refl
both_swap true false false d = refl
both_swap false b c d = refl

-- ---- all_to

pub all_to_zero : (p : ℕ → Bool) → all_to 0 p ≡ true
unfolding all_to
all_to_zero p = refl

pub all_to-suc : (n : ℕ) (p : ℕ → Bool) → all_to (suc n) p ≡ both (all_to n p) (p n)
unfolding all_to
all_to-suc n p = refl

pub all_to-true : (n : ℕ) (p : ℕ → Bool) → all_to n p ≡ true → (k : ℕ) → k < n → p k ≡ true
unfolding all_to
all_to-true zero p e k h = absurd (not-suc-le-zero h)
all_to-true (suc n) p e k h =
    by_cases (eqb k n)
    (λ t. ap p (eqb-true k n t) ∙ both_right (all_to n p) (p n) e)
    (λ t. all_to-true n p (both_left (all_to n p) (p n) e) k (omega (arith, eqb-false k n t)))

pub true-all_to : (n : ℕ) (p : ℕ → Bool) → ((k : ℕ) → k < n → p k ≡ true) → all_to n p ≡ true
unfolding all_to
true-all_to zero p h = refl
true-all_to (suc n) p h = both_intro (true-all_to n p (λ k b. h k (omega arith))) (h n (omega arith))

pub all_to-false : (n : ℕ) (p : ℕ → Bool) (k : ℕ) → k < n → p k ≡ false → all_to n p ≡ false
all_to-false n p k h e = by_cases (all_to n p) (λ t. let z = all_to-true n p t k h in cc) (λ t. t)

pub all_to_ext : (n : ℕ) (p q : ℕ → Bool) → ((k : ℕ) → k < n → p k ≡ q k) → all_to n p ≡ all_to n q
unfolding all_to
all_to_ext zero p q h = refl
all_to_ext (suc n) p q h = ap₂ both (all_to_ext n p q (λ k b. h k (omega arith))) (h n (omega arith))

-- ---- all

module _ {A : Type 0} where
  -- a loop over the list by its places
  pub all-all_to : (p : A → Bool) (l : List A) (d : A) → all p l ≡ all_to (length l) (λ i. p (get_or l i d))
  all-all_to p l d =
      bool_same (all p l) (all_to (length l) (λ i. p (get_or l i d)))
      (λ t. true-all_to (length l) (λ i. p (get_or l i d)) (λ i h. Each-get_or (λ x. p x ≡ true) l i d (all-Each p (λ x. p x ≡ true) l (λ x e. e) t) h))
      (λ t. Each-all p (λ x. p x ≡ true) l (λ x e. e) (get_or-Each (λ x. p x ≡ true) l d (λ i h. all_to-true (length l) (λ j. p (get_or l j d)) t i h)))

  pub all-false : (p : A → Bool) (l : List A) (i : ℕ) (d : A) → i < length l → p (get_or l i d) ≡ false → all p l ≡ false
  all-false p l i d h e = all-all_to p l d ∙ all_to-false (length l) (λ j. p (get_or l j d)) i h e

  -- two loops, or one
  pub all-both : (p q : A → Bool) (l : List A) → all (λ x. both (p x) (q x)) l ≡ both (all p l) (all q l)
  unfolding all
  all-both p q [] = both_same
  all-both p q (x ∷ xs) = ap (both (both (p x) (q x))) (all-both p q xs) ∙ both_swap (p x) (q x) (all p xs) (all q xs)

  pub all_every : (p : A → Bool) (l : List A) → ((x : A) → p x ≡ true) → all p l ≡ true
  unfolding all
  all_every p [] h = refl
  all_every p (x ∷ xs) h = both_intro (h x) (all_every p xs h)

  -- none passes, or one does
  pub sum_cases {ℓ} : {P : Type ℓ} (t : A → Bool) (l : List A) → (sum_by (λ x. one_if (t x)) l ≡ 0 → P) → ((x : A) → t x ≡ true → P) → P
  unfolding sum_by
  sum_cases t [] f g = f refl
  sum_cases t (x ∷ xs) f g = by_cases (t x) (λ e. g x e) (λ e. sum_cases t xs (λ z. f (omega (arith, ap one_if e))) g)

module _ {A B : Type 0} where
  pub Each_of_map : (P : B → Type 0) (g : A → B) (l : List A) → Each P (map g l) → Each (λ x. P (g x)) l
  Each_of_map P g [] e = tt
  Each_of_map P g (x ∷ xs) e = (e.0, Each_of_map P g xs e.1)

  pub Each_to_map : (P : B → Type 0) (g : A → B) (l : List A) → Each (λ x. P (g x)) l → Each P (map g l)
  Each_to_map P g [] e = tt
  Each_to_map P g (x ∷ xs) e = (e.0, Each_to_map P g xs e.1)

-- ---- rises_to

pub rises_nil : (n b : ℕ) → rises_to n b [] ≡ true
unfolding rises_to
rises_nil n b = refl

pub rises_cons : (n b x : ℕ) (xs : List ℕ) → rises_to n b (x ∷ xs) ≡ both (both (ltb b x) (leb x n)) (rises_to n x xs)
unfolding rises_to
rises_cons n b x xs = refl

rises_step : (n b x : ℕ) (xs : List ℕ) → b < x → x ≤ n → rises_to n b (x ∷ xs) ≡ rises_to n x xs
unfolding rises_to both
rises_step n b x xs h k = rw (lt-ltb b x h, le-leb x n k)

rises_head : (n b x : ℕ) (xs : List ℕ) → rises_to n b (x ∷ xs) ≡ true → (b < x) × (x ≤ n) × (rises_to n x xs ≡ true)
unfolding rises_to
rises_head n b x xs e =
    let h = both_left (both (ltb b x) (leb x n)) (rises_to n x xs) e in
    (ltb-true b x (both_left (ltb b x) (leb x n) h), leb-true x n (both_right (ltb b x) (leb x n) h), both_right (both (ltb b x) (leb x n)) (rises_to n x xs) e)

head_rises : (n b x : ℕ) (xs : List ℕ) → b < x → x ≤ n → rises_to n x xs ≡ true → rises_to n b (x ∷ xs) ≡ true
head_rises n b x xs h k e = rises_step n b x xs h k ∙ e

-- a list in two parts: the second goes on from the last of the first
pub rises_append : (n b : ℕ) (a c : List ℕ) → rises_to n b (a ++ c) ≡ both (rises_to n b a) (rises_to n (last_from b a) c)
unfolding rises_to last_from both
rises_append n b [] c = refl
rises_append n b (x ∷ xs) c = by_cases (both (ltb b x) (leb x n)) (λ t. rw t (rises_append n x xs c)) (λ t. rw t)

-- numbers
pub rises_numbers : (n b : ℕ) (l : List ℕ) → rises_to n b l ≡ true → RisingCuts b l × Each (λ c. c ≤ n) l
rises_numbers n b [] e = (tt, tt)
rises_numbers n b (x ∷ xs) e =
    let h = rises_head n b x xs e in
    let r = rises_numbers n x xs h.2 in
    ((h.0, r.0), (h.1, r.1))

pub numbers_rise : (n b : ℕ) (l : List ℕ) → RisingCuts b l → Each (λ c. c ≤ n) l → rises_to n b l ≡ true
numbers_rise n b [] r e = rises_nil n b
numbers_rise n b (x ∷ xs) r e = head_rises n b x xs r.0 e.0 (numbers_rise n x xs r.1 e.1)

-- rows by their keys
module _ {Val : Type 0} where
  pub rises_rows : (n b : ℕ) (l : Rows Val) → rises_to n b (keys l) ≡ true → Rising b l × UpTo n l
  rises_rows n b [] e = (tt, tt)
  rises_rows n b (x ∷ xs) e =
      let h = rises_head n b x.key (keys xs) e in
      let r = rises_rows n x.key xs h.2 in
      ((h.0, r.0), (h.1, r.1))

  pub rows_rise : (n b : ℕ) (l : Rows Val) → Rising b l → UpTo n l → rises_to n b (keys l) ≡ true
  rows_rise n b [] r e = rises_nil n b
  rows_rise n b (x ∷ xs) r e = head_rises n b x.key (keys xs) r.0 e.0 (rows_rise n x.key xs r.1 e.1)

-- ---- each_once, once_at_most

-- a number that no element is
count_beyond : (n k : ℕ) (l : List ℕ) → Each (λ x. x < n) l → n ≤ k → count k l ≡ 0
count_beyond n k l e h =
    by_cases (eqb (count k l) 0)
    (λ t. eqb-true (count k l) 0 t)
    (λ t. absurd (omega (arith, Each-count (λ x. x < n) k l e (omega (arith, eqb-false (count k l) 0 t)))))

below_all : (n : ℕ) (l : List ℕ) → all (λ x. ltb x n) l ≡ true → Each (λ x. x < n) l
below_all n l e = all-Each (λ x. ltb x n) (λ x. x < n) l (λ x t. ltb-true x n t) e

pub once_true : (n : ℕ) (l : List ℕ) → each_once n l ≡ true → (k : ℕ) → count k l ≡ one_if (ltb k n)
unfolding each_once
once_true n l e k =
    let b = below_all n l (both_left (all (λ x. ltb x n) l) (all_to n (λ q. eqb (count q l) 1)) e) in
    let o = both_right (all (λ x. ltb x n) l) (all_to n (λ q. eqb (count q l) 1)) e in
    by_cases (ltb k n)
    (λ t. rw t (eqb-true (count k l) 1 (all_to-true n (λ q. eqb (count q l) 1) o k (ltb-true k n t))))
    (λ t. rw t (count_beyond n k l b (ltb-false k n t)))

pub true_once : (n : ℕ) (l : List ℕ) → ((k : ℕ) → count k l ≡ one_if (ltb k n)) → each_once n l ≡ true
unfolding each_once
true_once n l h =
    both_intro
    (Each-all (λ x. ltb x n) (λ x. ltb x n ≡ true) l (λ x t. t) (get_or-Each (λ x. ltb x n ≡ true) l 0 below))
    (true-all_to n (λ k. eqb (count k l) 1) (λ k b. eq-eqb (count k l) 1 (h k ∙ ap one_if (lt-ltb k n b))))
  where
    below : (i : ℕ) → i < length l → ltb (get_or l i 0) n ≡ true
    below i b = by_cases (ltb (get_or l i 0) n) (λ t. t) (λ t. absurd (omega (arith, h (get_or l i 0), count_at l i b, ap one_if t)))

pub at_most_true : (n : ℕ) (l : List ℕ) → Each (λ x. x < n) l → once_at_most n l ≡ true → (k : ℕ) → count k l ≤ 1
unfolding once_at_most
at_most_true n l b e k =
    by_cases (ltb k n)
    (λ t. leb-true (count k l) 1 (all_to-true n (λ q. leb (count q l) 1) e k (ltb-true k n t)))
    (λ t. omega (arith, count_beyond n k l b (ltb-false k n t)))

pub true_at_most : (n : ℕ) (l : List ℕ) → ((k : ℕ) → count k l ≤ 1) → once_at_most n l ≡ true
unfolding once_at_most
true_at_most n l h = true-all_to n (λ k. leb (count k l) 1) (λ k b. le-leb (count k l) 1 (h k))

pub at_most_twice : (n : ℕ) (l : List ℕ) (k : ℕ) → k < n → 2 ≤ count k l → once_at_most n l ≡ false
unfolding once_at_most
at_most_twice n l k b h = all_to-false n (λ q. leb (count q l) 1) k b (lt-leb (count k l) 1 h)

-- by marks: each number of the list has set its own
module _ (n : ℕ) (l : List ℕ) (marks : List Bool) (size : length marks ≡ n) (own : (k : ℕ) → one_if (get_or marks k false) ≡ count k l) where
  pub marks_at_most : once_at_most n l ≡ true
  marks_at_most = true_at_most n l (λ k. omega (arith, own k, one_if-le (get_or marks k false)))

-- ---- passing

both_one : (r : ℕ) (b : Bool) → one_if (both (eqb r r) b) ≡ one_if b
unfolding both
both_one r b = rw (eq-eqb r r refl)

both_other : (r q : ℕ) (b : Bool) → (r ≡ q → ⊥) → one_if (both (eqb r q) b) ≡ 0
unfolding both
both_other r q b h = rw (ne_eqb r q h)

both_parts : (a b : Bool) → one_if (both a b) + one_if (both a (not b)) ≡ one_if (both a true)
unfolding both
both_parts true true = refl
both_parts true false = refl
both_parts false b = refl

module _ {Val : Type 0} where
  pub passing-concat : (t : Row Val → Bool) (r : ℕ) (ls : List (Rows Val)) → passing t r (concat ls) ≡ sum_by (passing t r) ls
  unfolding passing
  passing-concat t r ls = sum-concat (λ x. one_if (both (eqb r x.key) (t x))) ls

  -- of rising rows it is the row found, if that passes
  pub passing_found : (t : Row Val → Bool) (b r : ℕ) (l : Rows Val) → Rising b l → passing t r l ≡ count_found (λ k v. one_if (t (record { key = k; val = v }))) r (find l r)
  unfolding passing
  passing_found t b r l a =
      let f : Row Val → ℕ = λ x. one_if (both (eqb r x.key) (t x)) in
      omega (
        arith,
        sum-key f (λ _. 0) b r l (λ x h. both_other r x.key (t x) (λ e. h (sym e))) a,
        sum_const 0 l,
        nothing (find l r),
        here (find l r),
      )
    where
      nothing : (o : Option Val) → count_found (λ _ _. 0) r o ≡ 0
      nothing None = refl
      nothing (Some v) = refl

      here : (o : Option Val) → count_found (λ k v. one_if (both (eqb r k) (t (record { key = k; val = v })))) r o ≡ count_found (λ k v. one_if (t (record { key = k; val = v }))) r o
      here None = refl
      here (Some v) = both_one r (t (record { key = r; val = v }))

  -- a key past the last
  pub passing_beyond : (t : Row Val → Bool) (n r : ℕ) (l : Rows Val) → UpTo n l → n < r → passing t r l ≡ 0
  unfolding passing
  passing_beyond t n r l u h =
      sum-Each (λ x. one_if (both (eqb r x.key) (t x))) (λ _. 0) l (Each_map (λ x. x.key ≤ n) _ l (λ x k. both_other r x.key (t x) (omega arith)) u)
      ∙ omega (arith, sum_const 0 l)

  -- a row of the key stands there
  pub passing_some : (r : ℕ) (l : Rows Val) → ltb 0 (passing (λ _. true) r l) ≡ is_some (find l r)
  unfolding passing sum_by find both
  passing_some r [] = refl
  passing_some r (x ∷ xs) =
      let n : ℕ = passing (λ _. true) r xs in
      let z : 0 + n ≡ n = omega arith in
      by_cases (eqb r x.key) (λ t. rw t (lt-ltb 0 (1 + n) (omega arith))) (λ t. rw t (ap (λ (k : ℕ). ltb 0 k) z ∙ passing_some r xs))

  -- those that pass and those that don't
  pub passing_parts : (t : Row Val → Bool) (r : ℕ) (l : Rows Val) → passing t r l + passing (λ x. not (t x)) r l ≡ passing (λ _. true) r l
  unfolding passing sum_by
  passing_parts t r [] = refl
  passing_parts t r (x ∷ xs) = omega (arith, both_parts (eqb r x.key) (t x), passing_parts t r xs)
