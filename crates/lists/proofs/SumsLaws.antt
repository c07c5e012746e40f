-- Laws of sums and counts. They are stated without subtraction, so that `omega` chains them.
use mathlib.Core.Path.{◌≡◌, refl, sym, ap, ◌∙◌, fun_ext}
use mathlib.Core.Bool.{Bool, true, false, not}
use mathlib.Core.List.{List, [], ◌∷◌, ◌++◌, map}
use mathlib.Core.Logic.{◌≢◌}
use Rattle.std.specs.Prelude.{Some}
use Prim.Native.Nat.{ℕ, zero, suc, ◌+◌, ◌*◌, ◌≤◌, ◌<◌}
use native.Mathlib.Omega.{arith}
use native.Mathlib.Nat.{le_of_suc-le-suc, not-suc-le-zero}
use native.Mathlib.Numerals.{add-one}
use lib.Dec.{eqb, ltb}
use lib.ListN.{length, get_or, set, take, drop, drop_of_length-le}
use lib.Seq.{drop-nil}
use borrow.Author.Tests.{lt-ltb, le-ltb, ltb-true, ltb-false, eqb-true, eqb-false, ne_eqb, eq-eqb}
use Rattle.lists.specs.Parts.{tab}
use Rattle.lists.specs.Tests.{one_if, Each, first_at}
use Rattle.lists.specs.Sums.{sum_by, keep, filter, concat, count, sum_to}
use Rattle.lists.proofs.Cases.{by_cases, option_cases}
use Rattle.lists.proofs.PartsLaws.{tab_suc, length-tab, get_or-tab}
use Rattle.lists.proofs.TestsLaws.{Each_map, get_or-Each, one_if-le, first_at-none, first_at-some}

module _ {A : Type 0} where
  pub sum-nil : (f : A → ℕ) → sum_by f [] ≡ 0
  unfolding sum_by
  sum-nil f = refl

  pub sum-cons : (f : A → ℕ) (x : A) (xs : List A) → sum_by f (x ∷ xs) ≡ f x + sum_by f xs
  unfolding sum_by
  sum-cons f x xs = refl

  pub sum-append : (f : A → ℕ) (a b : List A) → sum_by f (a ++ b) ≡ sum_by f a + sum_by f b
  unfolding sum_by
  sum-append f [] b = omega arith
  sum-append f (x ∷ xs) b = omega (arith, sum-append f xs b)

  -- an element in the middle
  pub sum_middle : (f : A → ℕ) (xs : List A) (d : A) (ys : List A) → sum_by f (xs ++ (d ∷ ys)) ≡ sum_by f (xs ++ ys) + f d
  sum_middle f xs d ys = omega (arith, sum-append f xs (d ∷ ys), sum-append f xs ys, sum-cons f d ys)

  pub sum_one : (f : A → ℕ) (x : A) → sum_by f (x ∷ []) ≡ f x
  unfolding sum_by
  sum_one f x = omega arith

  -- one element at the end, or two
  pub sum_last : (f : A → ℕ) (l : List A) (x : A) → sum_by f (l ++ (x ∷ [])) ≡ sum_by f l + f x
  sum_last f l x = omega (arith, sum-append f l (x ∷ []), sum_one f x)

  pub sum_last_two : (f : A → ℕ) (l : List A) (x y : A) → sum_by f (l ++ (x ∷ y ∷ [])) ≡ sum_by f l + f x + f y
  sum_last_two f l x y = omega (arith, sum-append f l (x ∷ y ∷ []), sum-cons f x (y ∷ []), sum_one f y)

  -- the new and the old element change places
  pub sum-set : (f : A → ℕ) (l : List A) (i : ℕ) (x d : A) → i < length l → sum_by f (set l i x) + f (get_or l i d) ≡ sum_by f l + f x
  unfolding sum_by
  sum-set f [] i x d h = absurd (not-suc-le-zero h)
  sum-set f (y ∷ ys) zero x d h = omega arith
  sum-set f (y ∷ ys) (suc i) x d h = omega (arith, sum-set f ys i x d (le_of_suc-le-suc h))

  pub sum-take-drop : (f : A → ℕ) (k : ℕ) (l : List A) → sum_by f (take k l) + sum_by f (drop k l) ≡ sum_by f l
  unfolding sum_by
  sum-take-drop f zero l = omega arith
  sum-take-drop f (suc k) [] = omega arith
  sum-take-drop f (suc k) (x ∷ xs) = omega (arith, sum-take-drop f k xs)

  pub sum-le : (f g : A → ℕ) (l : List A) → ((x : A) → f x ≤ g x) → sum_by f l ≤ sum_by g l
  unfolding sum_by
  sum-le f g [] h = omega arith
  sum-le f g (x ∷ xs) h = omega (arith, h x, sum-le f g xs h)

  pub sum_const : (k : ℕ) (l : List A) → sum_by (λ _. k) l ≡ k * length l
  unfolding sum_by
  sum_const k [] = omega arith
  sum_const k (x ∷ xs) = omega (arith, sum_const k xs)

  pub length-sum : (l : List A) → length l ≡ sum_by (λ _. 1) l
  length-sum l = omega (arith, sum_const 1 l)

  pub length_middle : (xs : List A) (d : A) (ys : List A) → length (xs ++ (d ∷ ys)) ≡ length (xs ++ ys) + 1
  length_middle xs d ys = omega (arith, length-sum (xs ++ (d ∷ ys)), length-sum (xs ++ ys), sum_middle (λ _. 1) xs d ys)

  pub sum_ext : (f g : A → ℕ) (l : List A) → ((x : A) → f x ≡ g x) → sum_by f l ≡ sum_by g l
  sum_ext f g l h = ap (λ (k : A → ℕ). sum_by k l) (fun_ext h)

  pub sum_zero : (f : A → ℕ) (l : List A) → ((x : A) → f x ≡ 0) → sum_by f l ≡ 0
  sum_zero f l h = sum_ext f (λ _. 0) l h ∙ omega (arith, sum_const 0 l)

  pub sum-add : (f g : A → ℕ) (l : List A) → sum_by (λ x. f x + g x) l ≡ sum_by f l + sum_by g l
  unfolding sum_by
  sum-add f g [] = refl
  sum-add f g (x ∷ xs) = omega (arith, sum-add f g xs)

  pub sum-add-le : (f g h : A → ℕ) (l : List A) → ((x : A) → f x + g x ≤ h x) → sum_by f l + sum_by g l ≤ sum_by h l
  sum-add-le f g h l k = omega (arith, sum-add f g l, sum-le (λ x. f x + g x) h l k)

  pub sum_times : (k : ℕ) (f : A → ℕ) (l : List A) → sum_by (λ x. k * f x) l ≡ k * sum_by f l
  unfolding sum_by
  sum_times k f [] = omega arith
  sum_times k f (x ∷ xs) = omega (arith, sum_times k f xs)

  -- ---- tails

  pub sum-drop-le : (f : A → ℕ) (k : ℕ) (l : List A) → sum_by f (drop k l) ≤ sum_by f l
  sum-drop-le f k l = omega (arith, sum-take-drop f k l)

  pub sum-drop-suc : (f : A → ℕ) (k : ℕ) (l : List A) → sum_by f (drop (suc k) l) ≤ sum_by f (drop k l)
  unfolding sum_by
  sum-drop-suc f zero [] = omega arith
  sum-drop-suc f (suc k) [] = omega arith
  sum-drop-suc f zero (x ∷ xs) = omega arith
  sum-drop-suc f (suc k) (x ∷ xs) = sum-drop-suc f k xs

  -- past the end nothing is left
  pub sum-drop_all : (f : A → ℕ) (k : ℕ) (l : List A) → length l ≤ k → sum_by f (drop k l) ≡ 0
  sum-drop_all f k l h = ap (sum_by f) (drop_of_length-le l {i = k} h) ∙ sum-nil f

  -- an element taken out moves later ones forward: no tail sum grows
  pub sum-drop_middle : (f : A → ℕ) (d : A) (xs ys : List A) (k : ℕ) → sum_by f (drop k (xs ++ ys)) ≤ sum_by f (drop k (xs ++ (d ∷ ys)))
  unfolding sum_by
  sum-drop_middle f d [] ys zero = omega arith
  sum-drop_middle f d [] ys (suc k) = sum-drop-suc f k ys
  sum-drop_middle f d (a ∷ xs) ys zero = omega (arith, sum-drop_middle f d xs ys zero)
  sum-drop_middle f d (a ∷ xs) ys (suc k) = sum-drop_middle f d xs ys k

  -- elements of no weight at the end weigh nothing in any tail
  pub sum-drop_ends : (f : A → ℕ) (k : ℕ) (l ends : List A) → Each (λ e. f e ≡ 0) ends → sum_by f (drop k (l ++ ends)) ≡ sum_by f (drop k l)
  unfolding sum_by
  sum-drop_ends f zero [] [] z = refl
  sum-drop_ends f zero [] (e ∷ es) z = omega (arith, z.0, sum-drop_ends f zero [] es z.1)
  sum-drop_ends f (suc k) [] [] z = refl
  sum-drop_ends f (suc k) [] (e ∷ es) z = sum-drop_ends f k [] es z.1 ∙ ap (sum_by f) (drop-nil k)
  sum-drop_ends f zero (x ∷ xs) ends z = omega (arith, sum-drop_ends f zero xs ends z)
  sum-drop_ends f (suc k) (x ∷ xs) ends z = sum-drop_ends f k xs ends z

  -- ---- by place

  -- one part of a sum
  pub sum_at : (f : A → ℕ) (l : List A) (k : ℕ) (d : A) → f d ≡ 0 → f (get_or l k d) ≤ sum_by f l
  unfolding sum_by
  sum_at f [] k d z = omega arith
  sum_at f (x ∷ xs) zero d z = omega arith
  sum_at f (x ∷ xs) (suc k) d z = omega (arith, sum_at f xs k d z)

  pub sum_ext_at : (f g : A → ℕ) (l : List A) (d : A) → ((i : ℕ) → f (get_or l i d) ≡ g (get_or l i d)) → sum_by f l ≡ sum_by g l
  unfolding sum_by
  sum_ext_at f g [] d h = refl
  sum_ext_at f g (x ∷ xs) d h = omega (arith, h 0, sum_ext_at f g xs d (λ i. h (suc i)))

  -- two sums that differ at one place at most
  pub sum_but : (f g : A → ℕ) (l : List A) (j : ℕ) (d : A) → j < length l → ((i : ℕ) → i ≢ j → f (get_or l i d) ≡ g (get_or l i d)) → sum_by f l + g (get_or l j d) ≡ sum_by g l + f (get_or l j d)
  unfolding sum_by
  sum_but f g [] j d b h = absurd (not-suc-le-zero b)
  sum_but f g (x ∷ xs) zero d b h = omega (arith, sum_ext_at f g xs d (λ i. h (suc i) (omega arith)))
  sum_but f g (x ∷ xs) (suc j) d b h = omega (arith, h 0 (omega arith), sum_but f g xs j d (le_of_suc-le-suc b) (λ i n. h (suc i) (λ e. n (omega arith))))

  -- ---- filter

  sum-keep : (f : A → ℕ) (b : Bool) (x : A) (k d : List A) → sum_by f (keep b x k) + sum_by f (keep (not b) x d) ≡ f x + (sum_by f k + sum_by f d)
  unfolding sum_by
  sum-keep f true x k d = omega arith
  sum-keep f false x k d = omega arith

  -- what passes, and what does not
  pub sum-filter : (f : A → ℕ) (p : A → Bool) (l : List A) → sum_by f (filter p l) + sum_by f (filter (λ x. not (p x)) l) ≡ sum_by f l
  unfolding sum_by filter
  sum-filter f p [] = refl
  sum-filter f p (x ∷ xs) = omega (arith, sum-keep f (p x) x (filter p xs) (filter (λ x. not (p x)) xs), sum-filter f p xs)

  sum-keep_passed : (f g : A → ℕ) (b : Bool) (x : A) (l : List A) → (b ≡ true → f x ≡ g x) → sum_by f l ≡ sum_by g l → sum_by f (keep b x l) ≡ sum_by g (keep b x l)
  unfolding sum_by
  sum-keep_passed f g true x l h e = omega (arith, h refl)
  sum-keep_passed f g false x l h e = e

  -- over what passes, the test counts as passed
  pub sum-filter_ext : (f g : A → ℕ) (p : A → Bool) (l : List A) → ((x : A) → p x ≡ true → f x ≡ g x) → sum_by f (filter p l) ≡ sum_by g (filter p l)
  unfolding filter sum_by
  sum-filter_ext f g p [] h = refl
  sum-filter_ext f g p (x ∷ xs) h = sum-keep_passed f g (p x) x (filter p xs) (h x) (sum-filter_ext f g p xs h)

  pub filter-append : (p : A → Bool) (a b : List A) → filter p (a ++ b) ≡ filter p a ++ filter p b
  unfolding filter
  filter-append p [] b = refl
  filter-append p (x ∷ xs) b = by_cases (p x) (λ t. rw (t, filter-append p xs b)) (λ t. rw (t, filter-append p xs b))

  pub length-filter : (p : A → Bool) (l : List A) → length (filter p l) ≡ sum_by (λ x. one_if (p x)) l
  unfolding sum_by filter
  length-filter p [] = refl
  length-filter p (x ∷ xs) = by_cases (p x) (λ t. rw t (omega (arith, length-filter p xs))) (λ t. rw t (omega (arith, length-filter p xs)))

  pub length-filter-not : (p : A → Bool) (l : List A) → length (filter p l) + length (filter (λ x. not (p x)) l) ≡ length l
  length-filter-not p l = omega (arith, sum-filter (λ _. 1) p l, sum_const 1 l, sum_const 1 (filter p l), sum_const 1 (filter (λ x. not (p x)) l))

-- ---- concat

module _ {A : Type 0} where
  pub sum-concat : (f : A → ℕ) (ls : List (List A)) → sum_by f (concat ls) ≡ sum_by (sum_by f) ls
  unfolding sum_by concat
  sum-concat f [] = refl
  sum-concat f (l ∷ ls) = omega (arith, sum-append f l (concat ls), sum-concat f ls)

-- ---- map

module _ {A B : Type 0} where
  pub sum-map : (f : B → ℕ) (g : A → B) (l : List A) → sum_by f (map g l) ≡ sum_by (λ x. f (g x)) l
  unfolding sum_by
  sum-map f g [] = refl
  sum-map f g (x ∷ xs) = omega (arith, sum-map f g xs)

module _ {A B : Type 0} where
  pub sum-concat-map : (f : B → ℕ) (g : A → List B) (l : List A) → sum_by f (concat (map g l)) ≡ sum_by (λ x. sum_by f (g x)) l
  sum-concat-map f g l = sum-concat f (map g l) ∙ sum-map (sum_by f) g l

-- ---- by a fact of each element

module _ {A : Type 0} where
  pub sum-Each : (f g : A → ℕ) (l : List A) → Each (λ x. f x ≡ g x) l → sum_by f l ≡ sum_by g l
  unfolding sum_by
  sum-Each f g [] h = refl
  sum-Each f g (x ∷ xs) h = omega (arith, h.0, sum-Each f g xs h.1)

  pub sum_zero_Each : (f : A → ℕ) (l : List A) → sum_by f l ≡ 0 → Each (λ x. f x ≡ 0) l
  unfolding sum_by
  sum_zero_Each f [] e = tt
  sum_zero_Each f (x ∷ xs) e = (omega arith, sum_zero_Each f xs (omega arith))

  -- none passes, or one does
  pub any_cases {ℓ} : {P : Type ℓ} (t : A → Bool) (l : List A) → (sum_by (λ x. one_if (t x)) l ≡ 0 → P) → ((x : A) → t x ≡ true → P) → P
  unfolding sum_by
  any_cases t [] f g = f refl
  any_cases t (x ∷ xs) f g = by_cases (t x) (g x) (λ h. any_cases t xs (λ e. f (omega (arith, ap one_if h, e))) g)

-- ---- sum_to

pub sum_to_ext : (n : ℕ) (f g : ℕ → ℕ) → ((i : ℕ) → i < n → f i ≡ g i) → sum_to n f ≡ sum_to n g
unfolding sum_to
sum_to_ext zero f g h = refl
sum_to_ext (suc n) f g h = omega (arith, h n (omega arith), sum_to_ext n f g (λ i b. h i (omega arith)))

pub sum_to-le : (n : ℕ) (f g : ℕ → ℕ) → ((i : ℕ) → i < n → f i ≤ g i) → sum_to n f ≤ sum_to n g
unfolding sum_to
sum_to-le zero f g h = omega arith
sum_to-le (suc n) f g h = omega (arith, h n (omega arith), sum_to-le n f g (λ i b. h i (omega arith)))

pub sum_to_const : (k n : ℕ) → sum_to n (λ _. k) ≡ k * n
unfolding sum_to
sum_to_const k zero = omega arith
sum_to_const k (suc n) = omega (arith, sum_to_const k n)

pub sum_to_zero : (n : ℕ) (f : ℕ → ℕ) → ((i : ℕ) → i < n → f i ≡ 0) → sum_to n f ≡ 0
sum_to_zero n f h = sum_to_ext n f (λ _. 0) h ∙ omega (arith, sum_to_const 0 n)

pub sum_to-add : (n : ℕ) (f g : ℕ → ℕ) → sum_to n (λ i. f i + g i) ≡ sum_to n f + sum_to n g
unfolding sum_to
sum_to-add zero f g = refl
sum_to-add (suc n) f g = omega (arith, sum_to-add n f g)

-- one part of a sum
pub sum_to_at : (n : ℕ) (f : ℕ → ℕ) (i : ℕ) → i < n → f i ≤ sum_to n f
unfolding sum_to
sum_to_at zero f i h = absurd (not-suc-le-zero h)
sum_to_at (suc n) f i h =
    by_cases (eqb i n)
    (λ t. rw (eqb-true i n t) (omega arith))
    (λ t. omega (arith, sum_to_at n f i (omega (arith, eqb-false i n t))))

-- two sums that differ at one number at most
pub sum_to_but : (n : ℕ) (f g : ℕ → ℕ) (j : ℕ) → j < n → ((i : ℕ) → i < n → i ≢ j → f i ≡ g i) → sum_to n f + g j ≡ sum_to n g + f j
unfolding sum_to
sum_to_but zero f g j b h = absurd (not-suc-le-zero b)
sum_to_but (suc n) f g j b h =
    by_cases (eqb j n)
    (λ t. let e = eqb-true j n t in rw e (omega (arith, sum_to_ext n f g (λ i c. h i (omega arith) (omega arith)))))
    (λ t. let e = eqb-false j n t in omega (arith, h n (omega arith) (omega arith), sum_to_but n f g j (omega arith) (λ i c. h i (omega arith))))

-- of the numbers below n only k counts
pub sum_to_only : (n : ℕ) (f : ℕ → ℕ) (k : ℕ) → k < n → sum_to n (λ i. f i * one_if (eqb i k)) ≡ f k
sum_to_only n f k h =
    omega (
      arith,
      sum_to_but n (λ i. f i * one_if (eqb i k)) (λ _. 0) k h (λ i b d. rw (ne_eqb i k d) (omega arith)),
      sum_to_const 0 n,
      ap (λ t. f k * one_if t) (eq-eqb k k refl),
    )

pub sum_to_one : (n k : ℕ) → sum_to n (λ i. one_if (eqb i k)) ≡ one_if (ltb k n)
sum_to_one n k =
    by_cases (ltb k n)
    (λ t. rw t (omega (arith, sum_to_but n (λ i. one_if (eqb i k)) (λ _. 0) k (ltb-true k n t) (λ i b d. ap one_if (ne_eqb i k d)), sum_to_const 0 n, ap one_if (eq-eqb k k refl))))
    (λ t. rw t (sum_to_zero n (λ i. one_if (eqb i k)) (λ i b. ap one_if (ne_eqb i k (omega (arith, ltb-false k n t))))))

-- the order of two sums does not matter
pub sum_to-sum_by : {A : Type 0} (n : ℕ) (f : ℕ → A → ℕ) (l : List A) → sum_to n (λ i. sum_by (f i) l) ≡ sum_by (λ x. sum_to n (λ i. f i x)) l
unfolding sum_to
sum_to-sum_by zero f l = sym (sum_zero (λ _. 0) l (λ _. refl))
sum_to-sum_by (suc n) f l = omega (arith, sum_to-sum_by n f l, sum-add (λ x. sum_to n (λ i. f i x)) (f n) l)

-- ---- counts

pub count_head : (x : ℕ) (l : List ℕ) → 1 ≤ count x (x ∷ l)
unfolding sum_by
count_head x l = rw (eq-eqb x x refl) (omega arith)

pub count-cons : (x y : ℕ) (l : List ℕ) → count x (y ∷ l) ≡ one_if (eqb x y) + count x l
count-cons x y l = sum-cons (λ z. one_if (eqb x z)) y l

-- what holds of each element holds of one that stands in the list
pub Each-count : (P : ℕ → Type 0) (x : ℕ) (l : List ℕ) → Each P l → 1 ≤ count x l → P x
unfolding sum_by
Each-count P x [] e h = absurd (not-suc-le-zero h)
Each-count P x (y ∷ ys) e h =
    by_cases (eqb x y)
    (λ t. rw (eqb-true x y t) e.0)
    (λ t. Each-count P x ys e.1 (omega (arith, ap one_if t)))

pub count_at : (l : List ℕ) (i : ℕ) → i < length l → 1 ≤ count (get_or l i 0) l
unfolding sum_by
count_at [] i h = absurd (not-suc-le-zero h)
count_at (x ∷ xs) zero h = count_head x xs
count_at (x ∷ xs) (suc i) h = omega (arith, count_at xs i (le_of_suc-le-suc h))

pub Each_counted : (l : List ℕ) → Each (λ x. 1 ≤ count x l) l
Each_counted l = get_or-Each (λ x. 1 ≤ count x l) l 0 (count_at l)

-- what stands in one list stands in all together
pub count-concat-map : {A : Type 0} (f : A → List ℕ) (l : List A) → Each (λ x. (q : ℕ) → count q (f x) ≤ count q (concat (map f l))) l
unfolding concat
count-concat-map f [] = tt
count-concat-map f (x ∷ xs) = (
  λ q. omega (arith, sum-append (λ y. one_if (eqb q y)) (f x) (concat (map f xs))),
  Each_map _ _ xs (λ y h q. omega (arith, h q, sum-append (λ z. one_if (eqb q z)) (f x) (concat (map f xs)))) (count-concat-map f xs),
)

below_suc : (p n : ℕ) → one_if (ltb p n) + one_if (eqb p n) ≡ one_if (ltb p (suc n))
below_suc p n =
    by_cases (eqb p n)
    (λ t. let h = eqb-true p n t in rw (t, le-ltb p n (omega arith), lt-ltb p (suc n) (omega arith)))
    (λ t. by_cases (ltb p n)
    (λ u. let h = ltb-true p n u in rw (t, u, lt-ltb p (suc n) (omega arith)))
    (λ u. let h = ltb-false p n u in rw (t, u, le-ltb p (suc n) (omega (arith, eqb-false p n t)))))

-- the numbers below n stand once each
pub count-tab : (p n : ℕ) → count p (tab n (λ i. i)) ≡ one_if (ltb p n)
unfolding sum_by tab
count-tab p zero = sym (ap one_if (le-ltb p 0 (omega arith)))
count-tab p (suc n) =
    ap (λ m. count p (tab m (λ i. i))) (sym (add-one n))
    ∙ ap (count p) (tab_suc n (λ i. i))
    ∙ sum-append (λ x. one_if (eqb p x)) (tab n (λ i. i)) (n ∷ [])
    ∙ omega (arith, count-tab p n, below_suc p n)

-- the elements of a list of numbers below n, counted number by number
pub sum_to-count : (n : ℕ) (l : List ℕ) → Each (λ x. x < n) l → sum_to n (λ q. count q l) ≡ length l
sum_to-count n l h =
    sum_to-sum_by n (λ q x. one_if (eqb q x)) l
    ∙ sum-Each (λ x. sum_to n (λ q. one_if (eqb q x))) (λ _. 1) l (Each_map _ _ l (λ x b. sum_to_one n x ∙ ap one_if (lt-ltb x n b)) h)
    ∙ omega (arith, sum_const 1 l)

-- of any list of numbers, no more than there are elements
pub sum_to-count-le : (n : ℕ) (l : List ℕ) → sum_to n (λ q. count q l) ≤ length l
sum_to-count-le n l =
    omega (
      arith,
      sum_to-sum_by n (λ q x. one_if (eqb q x)) l,
      sum-le (λ x. sum_to n (λ q. one_if (eqb q x))) (λ _. 1) l (λ x. omega (arith, sum_to_one n x, one_if-le (ltb x n))),
      length-sum l,
    )

-- where no number from n on stands
pub counted_below : (n : ℕ) (l : List ℕ) → ((q : ℕ) → count q l ≤ one_if (ltb q n)) → Each (λ x. x < n) l
counted_below n l h = get_or-Each _ l 0 (λ i b. by_cases (ltb (get_or l i 0) n) (ltb-true (get_or l i 0) n) (λ t. absurd (omega (arith, h (get_or l i 0), count_at l i b, ap one_if t))))

-- where each number below n stands at most once, and no other stands at all, there are at most n elements
pub length_below : (n : ℕ) (l : List ℕ) → ((q : ℕ) → count q l ≤ one_if (ltb q n)) → length l ≤ n
length_below n l h =
    omega (arith, sum_to-count n l (counted_below n l h), sum_to-le n (λ q. count q l) (λ _. 1) (λ q b. omega (arith, h q, ap one_if (lt-ltb q n b))), sum_to_const 1 n)

pub length_Each_once : (n : ℕ) (l : List ℕ) → ((q : ℕ) → count q l ≡ one_if (ltb q n)) → length l ≡ n
length_Each_once n l h =
    omega (arith, sum_to-count n l (counted_below n l (λ q. omega (arith, h q))), sum_to_ext n (λ q. count q l) (λ _. 1) (λ q b. h q ∙ ap one_if (lt-ltb q n b)), sum_to_const 1 n)

-- a sum over the numbers below n is the sum over any list in which each of them stands once, and no other: both are the sum over all pairs that are equal
pub sum_Each_once : (n : ℕ) (f : ℕ → ℕ) (l : List ℕ) → ((q : ℕ) → count q l ≡ one_if (ltb q n)) → sum_by f l ≡ sum_to n f
sum_Each_once n f l h =
    sym (sum-Each (λ x. sum_to n (λ q. f q * one_if (eqb q x))) f l (Each_map _ _ l (sum_to_only n f) (counted_below n l (λ q. omega (arith, h q)))))
    ∙ sym (sum_to-sum_by n (λ q x. f q * one_if (eqb q x)) l)
    ∙ sum_to_ext n _ f (λ q b. sum_times (f q) (λ x. one_if (eqb q x)) l ∙ rw (h q, lt-ltb q n b) (omega arith))

-- the first number that does not stand in a list shorter than n lies below n
pub first_at_unused : (n : ℕ) (l : List ℕ) → length l < n → (i : ℕ) × (first_at (λ k. eqb (count k l) 0) (tab n (λ k. k)) ≡ Some i) × (i < n) × (count i l ≡ 0)
first_at_unused n l h =
    option_cases (first_at (λ k. eqb (count k l) 0) (tab n (λ k. k)))
    (λ e. let stand : (k : ℕ) → k < n → 1 ≤ count k l = λ k b.
    let f : eqb (count k l) 0 ≡ false = rw (get_or-tab n (λ j. j) k 0 b) at (first_at-none (λ j. eqb (count j l) 0) (tab n (λ j. j)) k 0 e (omega (arith, length-tab n (λ (j : ℕ). j)))) in
    omega (arith, eqb-false (count k l) 0 f) in
    absurd (omega (arith, sum_to-count-le n l, sum_to-le n (λ _. 1) (λ q. count q l) stand, sum_to_const 1 n)))
    (λ i e. let r = first_at-some (λ k. eqb (count k l) 0) (tab n (λ k. k)) i 0 e in
    let b : i < n = omega (arith, r.0, length-tab n (λ (j : ℕ). j)) in
    let f : eqb (count i l) 0 ≡ true = rw (get_or-tab n (λ j. j) i 0 b) at r.1 in
    (i, e, b, eqb-true (count i l) 0 f))
