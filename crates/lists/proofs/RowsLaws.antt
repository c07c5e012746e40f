-- Laws of rows by rising key.
use mathlib.Core.Path.{◌≡◌, refl, sym, ap, ap₂, ◌∙◌, subst}
use mathlib.Core.Bool.{Bool, true, false, cond}
use mathlib.Core.List.{[], ◌∷◌, map}
use Rattle.std.specs.Prelude.{Option, None, Some, option_map}
use Prim.Native.Nat.{ℕ, zero, suc, ◌+◌, ◌≤◌, ◌<◌}
use native.Mathlib.Omega.{arith}
use lib.Dec.{eqb, ltb}
use borrow.Author.Tests.{ltb-true, ltb-false, eqb-true, eqb-false, ne_eqb, eq-eqb}
use lib.ListN.{length}
use Rattle.lists.specs.Parts.{tab}
use Rattle.lists.specs.Tests.{one_if, is_some, or_else, Each}
use Rattle.lists.specs.Sums.{sum_by, sum_to, filter, keep}
use Rattle.lists.specs.Rows.{Row, Rows, Rising, UpTo, find, put_row, alter, insert, merge, count_found, passed}
use Rattle.lists.proofs.Cases.{by_cases, none-some, false-true, some_injective}
use Rattle.lists.proofs.SumsLaws.{sum_const, sum_to_zero, sum_to_but, sum_to_ext}
use Rattle.lists.proofs.TestsLaws.{Each_map, one_if-le}

module _ {Val : Type 0} where
  pub Rising_less : (a b : ℕ) (l : Rows Val) → a ≤ b → Rising b l → Rising a l
  Rising_less a b [] h t = tt
  Rising_less a b (x ∷ xs) h t = (omega arith, t.1)

  pub Rising_above : (b : ℕ) (l : Rows Val) → Rising b l → Each (λ x. b < x.key) l
  Rising_above b [] a = tt
  Rising_above b (x ∷ xs) a = (a.0, Each_map _ _ xs (λ y h. omega arith) (Rising_above x.key xs a.1))

  pub find_below : (r b : ℕ) (l : Rows Val) → r ≤ b → Rising b l → find l r ≡ None
  unfolding find
  find_below r b [] h t = refl
  find_below r b (x ∷ xs) h t = rw (ne_eqb r x.key (omega arith)) (find_below r x.key xs (omega arith) t.1)

  find-put_row_same : (r : ℕ) (o : Option Val) (xs : Rows Val) → Rising r xs → find (put_row r o xs) r ≡ o
  unfolding find
  find-put_row_same r None xs a = find_below r r xs (omega arith) a
  find-put_row_same r (Some v) xs a = rw (eq-eqb r r refl)

  find-put_row_other : (r q : ℕ) (o : Option Val) (xs : Rows Val) → eqb q r ≡ false → find (put_row r o xs) q ≡ find xs q
  unfolding find
  find-put_row_other r q None xs e = refl
  find-put_row_other r q (Some v) xs e = rw e

  Rising-put_row : (b r : ℕ) (o : Option Val) (xs : Rows Val) → b < r → Rising r xs → Rising b (put_row r o xs)
  Rising-put_row b r None xs h a = Rising_less b r xs (omega arith) a
  Rising-put_row b r (Some v) xs h a = (h, a)

  pub Rising-alter : (f : Option Val → Option Val) (b r : ℕ) (l : Rows Val) → b < r → Rising b l → Rising b (alter f r l)
  unfolding alter
  Rising-alter f b r [] h a = Rising-put_row b r (f None) [] h tt
  Rising-alter f b r (x ∷ xs) h a =
      by_cases (eqb r x.key)
      (λ e. rw e (Rising-put_row b r (f (Some x.val)) xs h (rw (eqb-true r x.key e) a.1)))
      (λ e. by_cases (ltb r x.key)
      (λ t. rw (e, t) (Rising-put_row b r (f None) (x ∷ xs) h (omega (arith, ltb-true), a.1)))
      (λ t. rw (e, t) (a.0, Rising-alter f x.key r xs (omega (arith, ltb-false, eqb-false r x.key e)) a.1)))

  pub find-alter : (f : Option Val → Option Val) (b r q : ℕ) (l : Rows Val) → b < r → Rising b l → find (alter f r l) q ≡ cond (eqb q r) (f (find l q)) (find l q)
  unfolding alter find
  find-alter f b r q [] h a =
      by_cases (eqb q r) (λ e. rw (e, eqb-true q r e) (find-put_row_same r (f None) [] tt)) (λ e. rw e (find-put_row_other r q (f None) [] e))
  find-alter f b r q (x ∷ xs) h a =
      by_cases (eqb r x.key)
      (λ e. by_cases (eqb q r)
      (λ t. rw (e, t, eqb-true q r t, e) (find-put_row_same r (f (Some x.val)) xs (rw (eqb-true r x.key e) a.1)))
      (λ t. rw (e, t, ← eqb-true r x.key e, t) (find-put_row_other r q (f (Some x.val)) xs t)))
      (λ e. by_cases (ltb r x.key)
      (λ g. by_cases (eqb q r)
      (λ t. rw (e, g, t, eqb-true q r t, e, find_below r x.key xs (omega (arith, ltb-true)) a.1)
      (find-put_row_same r (f None) (x ∷ xs) (omega (arith, ltb-true), a.1)))
      (λ t. rw (e, g, t) (find-put_row_other r q (f None) (x ∷ xs) t)))
      (λ g. by_cases (eqb q x.key)
      (λ t. rw (e, g, t, ne_eqb q r (omega (arith, eqb-true q x.key t, eqb-false r x.key e))))
      (λ t. rw (e, g, t) (find-alter f x.key r q xs (omega (arith, ltb-false, eqb-false r x.key e)) a.1))))

  -- the key itself, and the others
  pub find-alter_same : (f : Option Val → Option Val) (b r : ℕ) (l : Rows Val) → b < r → Rising b l → find (alter f r l) r ≡ f (find l r)
  find-alter_same f b r l h a = rw (find-alter f b r r l h a, eq-eqb r r refl)

  pub find-alter_other : (f : Option Val → Option Val) (b r : ℕ) (l : Rows Val) → b < r → Rising b l → (q : ℕ) → (q ≡ r → ⊥) → find (alter f r l) q ≡ find l q
  find-alter_other f b r l h a q n = rw (find-alter f b r q l h a, ne_eqb q r n)

  pub find-alter_cases {ℓ} : {P : Type ℓ} (f : Option Val → Option Val) (b r q : ℕ) (v : Val) (l : Rows Val) → b < r → Rising b l → find (alter f r l) q ≡ Some v
      → (q ≡ r → f (find l r) ≡ Some v → P) → ((q ≡ r → ⊥) → find l q ≡ Some v → P) → P
  find-alter_cases f b r q v l h a e same other =
      by_cases (eqb q r)
      (λ t. same (eqb-true q r t) (rw (find-alter f b r q l h a, t, eqb-true q r t) at e))
      (λ t. other (eqb-false q r t) (rw (find-alter f b r q l h a, t) at e))

  -- what holds of each row, and of the row that f makes
  module _ (P : Row Val → Type 0) where
    Each-put_row : (r : ℕ) (o : Option Val) (l : Rows Val) → ((v : Val) → o ≡ Some v → P (record { key = r; val = v })) → Each P l → Each P (put_row r o l)
    Each-put_row r None l h u = u
    Each-put_row r (Some v) l h u = (h v refl, u)

    pub Each-alter : (f : Option Val → Option Val) (r : ℕ) (l : Rows Val) → ((o : Option Val) (v : Val) → f o ≡ Some v → P (record { key = r; val = v })) → Each P l → Each P (alter f r l)
    unfolding alter
    Each-alter f r [] h u = Each-put_row r (f None) [] (h None) tt
    Each-alter f r (x ∷ xs) h u =
        by_cases (eqb r x.key)
        (λ e. rw e (Each-put_row r (f (Some x.val)) xs (h (Some x.val)) u.1))
        (λ e. by_cases (ltb r x.key)
        (λ t. rw (e, t) (Each-put_row r (f None) (x ∷ xs) (h None) u))
        (λ t. rw (e, t) (u.0, Each-alter f r xs h u.1)))

    pub Each-insert : (r : ℕ) (v : Val) (l : Rows Val) → P (record { key = r; val = v }) → Each P l → Each P (insert r v l)
    Each-insert r v l h u = Each-alter (λ _. Some v) r l (λ o w e. subst (λ (y : Val). P (record { key = r; val = y })) (some_injective e) h) u

  pub UpTo-alter : (f : Option Val → Option Val) (n r : ℕ) (l : Rows Val) → r ≤ n → UpTo n l → UpTo n (alter f r l)
  UpTo-alter f n r l h u = Each-alter (λ x. x.key ≤ n) f r l (λ o v e. h) u

  sum-put_row : (f : ℕ → Val → ℕ) (r : ℕ) (o : Option Val) (l : Rows Val) → sum_by (λ x. f x.key x.val) (put_row r o l) ≡ count_found f r o + sum_by (λ x. f x.key x.val) l
  unfolding sum_by
  sum-put_row f r None l = omega arith
  sum-put_row f r (Some v) l = refl

  pub sum-alter : (f : ℕ → Val → ℕ) (g : Option Val → Option Val) (b r : ℕ) (l : Rows Val) → b < r → Rising b l →
      sum_by (λ x. f x.key x.val) (alter g r l) + count_found f r (find l r) ≡ sum_by (λ x. f x.key x.val) l + count_found f r (g (find l r))
  unfolding alter find sum_by
  sum-alter f g b r [] h a = omega (arith, sum-put_row f r (g None) [])
  sum-alter f g b r (x ∷ xs) h a =
      by_cases (eqb r x.key)
      (λ e. rw (e, eqb-true r x.key e) (omega (arith, sum-put_row f x.key (g (Some x.val)) xs)))
      (λ e. by_cases (ltb r x.key)
      (λ t. rw (e, t, find_below r x.key xs (omega (arith, ltb-true)) a.1) (omega (arith, sum-put_row f r (g None) (x ∷ xs))))
      (λ t. rw (e, t) (omega (arith, sum-alter f g x.key r xs (omega (arith, ltb-false, eqb-false r x.key e)) a.1))))

  -- a filter keeps the rows rising, and finds what passes
  Rising-keep : (b : ℕ) (t : Bool) (x : Row Val) (xs : Rows Val) → b < x.key → Rising x.key xs → Rising b (keep t x xs)
  Rising-keep b true x xs h a = (h, a)
  Rising-keep b false x xs h a = Rising_less b x.key xs (omega arith) a

  pub Rising-filter : (p : Row Val → Bool) (b : ℕ) (l : Rows Val) → Rising b l → Rising b (filter p l)
  unfolding filter
  Rising-filter p b [] a = tt
  Rising-filter p b (x ∷ xs) a = Rising-keep b (p x) x (filter p xs) a.0 (Rising-filter p x.key xs a.1)

  pub find-filter : (p : Row Val → Bool) (b r : ℕ) (l : Rows Val) → Rising b l → find (filter p l) r ≡ passed p r (find l r)
  unfolding filter find
  find-filter p b r [] a = refl
  find-filter p b r (x ∷ xs) a =
      by_cases (eqb r x.key)
      (λ e. by_cases (p x)
      (λ t. rw (e, t, e, eqb-true r x.key e, t))
      (λ t. rw (e, t, eqb-true r x.key e, t) (find_below x.key x.key (filter p xs) (omega arith) (Rising-filter p x.key xs a.1))))
      (λ e. by_cases (p x)
      (λ t. rw (e, t, e) (find-filter p x.key r xs a.1))
      (λ t. rw (e, t) (find-filter p x.key r xs a.1)))

  -- two rising lists that find the same are the same
  row_eq : (x y : Row Val) → x.key ≡ y.key → x.val ≡ y.val → x ≡ y
  row_eq x y p q = λ i. record { key = p i; val = q i }

  pub find_head : (x : Row Val) (xs : Rows Val) → find (x ∷ xs) x.key ≡ Some x.val
  unfolding find
  find_head x xs = rw (eq-eqb x.key x.key refl)

  no_lower : (x y : Row Val) (xs ys : Rows Val) → x.key < y.key → Rising y.key ys → find (x ∷ xs) x.key ≡ find (y ∷ ys) x.key → ⊥
  no_lower x y xs ys h a e =
      let n = find_below x.key x.key (y ∷ ys) (omega arith) (h, a) in
      let z : ◌≡◌ {A = ℕ} 0 1 = cc (find_head x xs) in
      omega arith

  pub ext_find : (b : ℕ) (l m : Rows Val) → Rising b l → Rising b m → ((r : ℕ) → find l r ≡ find m r) → l ≡ m
  unfolding find
  ext_find b [] [] a a' h = refl
  ext_find b [] (y ∷ ys) a a' h = let e = h y.key in cc (find_head y ys)
  ext_find b (x ∷ xs) [] a a' h = let e = h x.key in cc (find_head x xs)
  ext_find b (x ∷ xs) (y ∷ ys) a a' h =
      by_cases (eqb x.key y.key)
      (λ e. let k = eqb-true x.key y.key e in
      ap₂ ◌∷◌ (row_eq x y k (let f = h x.key in cc (find_head x xs, rw (← k) at (find_head y ys))))
      (ext_find x.key xs ys a.1 (rw k a'.1) (λ r. by_cases (eqb r x.key)
      (λ q. let z = eqb-true r x.key q in find_below r x.key xs (omega arith) a.1 ∙ sym (find_below r y.key ys (omega arith) a'.1))
      (λ q. rw (q, rw k at q) at (h r)))))
      (λ e. by_cases (ltb x.key y.key)
      (λ t. absurd (no_lower x y xs ys (omega (arith, ltb-true)) a'.1 (h x.key)))
      (λ t. absurd (no_lower y x ys xs (omega (arith, ltb-false, eqb-false x.key y.key e)) a.1 (sym (h y.key)))))

  -- two sums over the rows that differ at one key at most
  pub sum-key : (f g : Row Val → ℕ) (b r : ℕ) (l : Rows Val) → ((x : Row Val) → (x.key ≡ r → ⊥) → f x ≡ g x) → Rising b l →
      sum_by f l + count_found (λ k v. g (record { key = k; val = v })) r (find l r) ≡ sum_by g l + count_found (λ k v. f (record { key = k; val = v })) r (find l r)
  unfolding sum_by find
  sum-key f g b r [] h a = refl
  sum-key f g b r (x ∷ xs) h a =
      by_cases (eqb r x.key)
      (λ e. let k = eqb-true r x.key e in
      rw (e, k) (omega (
        arith,
        sum-key f g x.key r xs h a.1,
        ap (count_found (λ k v. g (record { key = k; val = v })) r) (find_below r x.key xs (omega arith) a.1),
        ap (count_found (λ k v. f (record { key = k; val = v })) r) (find_below r x.key xs (omega arith) a.1),
      )))
      (λ e. rw e (omega (arith, h x (λ z. eqb-false r x.key e (sym z)), sum-key f g x.key r xs h a.1)))

  -- the rows behind the first
  pub find_tail : (x : Row Val) (xs : Rows Val) (r : ℕ) (v : Val) → Rising x.key xs → find xs r ≡ Some v → find (x ∷ xs) r ≡ Some v
  unfolding find
  find_tail x xs r v a e =
      by_cases (eqb r x.key)
      (λ t. let z = find_below r x.key xs (let k = eqb-true r x.key t in omega arith) a in cc)
      (λ t. rw t e)

  pub length-alter : (g : Option Val → Option Val) (b r : ℕ) (l : Rows Val) → b < r → Rising b l →
      length (alter g r l) + count_found (λ _ _. 1) r (find l r) ≡ length l + count_found (λ _ _. 1) r (g (find l r))
  length-alter g b r l h a = omega (arith, sum-alter (λ _ _. 1) g b r l h a, sum_const 1 l, sum_const 1 (alter g r l))

  pub passed-true : (p : Row Val → Bool) (r : ℕ) (o : Option Val) (v : Val) → passed p r o ≡ Some v → (o ≡ Some v) × (p (record { key = r; val = v }) ≡ true)
  passed-true p r None v = none-some
  passed-true p r (Some u) v =
      by_cases (p (record { key = r; val = u }))
      (λ t. rw t (λ e. let z : u ≡ v = cc in (e, rw (← z) t)))
      (λ t. rw t none-some)

  pub find-filter-some : (p : Row Val → Bool) (b r : ℕ) (l : Rows Val) (v : Val) → Rising b l → find (filter p l) r ≡ Some v → (find l r ≡ Some v) × (p (record { key = r; val = v }) ≡ true)
  find-filter-some p b r l v a e = passed-true p r (find l r) v (sym (find-filter p b r l a) ∙ e)

  -- a sum over a rising list is 0 where each row found counts 0
  pub sum_zero_find : (f : Row Val → ℕ) (b : ℕ) (l : Rows Val) → Rising b l → ((r : ℕ) (v : Val) → find l r ≡ Some v → f (record { key = r; val = v }) ≡ 0) → sum_by f l ≡ 0
  unfolding sum_by
  sum_zero_find f b [] a h = refl
  sum_zero_find f b (x ∷ xs) a h = omega (arith, h x.key x.val (find_head x xs), sum_zero_find f x.key xs a.1 (λ r v e. h r v (find_tail x xs r v a.1 e)))

  pub count_found_zero : (r : ℕ) (o : Option Val) → count_found (λ _ _. 0) r o ≡ 0
  count_found_zero r None = refl
  count_found_zero r (Some v) = refl

  pub count_found_one : (r : ℕ) (o : Option Val) → count_found (λ _ _. 1) r o ≡ one_if (is_some o)
  count_found_one r None = refl
  count_found_one r (Some v) = refl

  -- a sum over rising rows of what is 0 off one key
  pub sum_at_key : (f : Row Val → ℕ) (b r : ℕ) (l : Rows Val) → ((x : Row Val) → (x.key ≡ r → ⊥) → f x ≡ 0) → Rising b l
      → sum_by f l ≡ count_found (λ k v. f (record { key = k; val = v })) r (find l r)
  sum_at_key f b r l h a = omega (arith, sum-key f (λ _. 0) b r l h a, count_found_zero r (find l r), sum_const 0 l)

  pub length-alter-le : (g : Option Val → Option Val) (b r : ℕ) (l : Rows Val) → b < r → Rising b l → length (alter g r l) ≤ length l + 1
  length-alter-le g b r l h a = omega (arith, length-alter g b r l h a, count_found_one r (g (find l r)), one_if-le (is_some (g (find l r))))

  -- a filter by key: the key passes or not, whatever stands there
  pub find-filter-key : (t : ℕ → Bool) (r : ℕ) (l : Rows Val) → find (filter (λ x. t x.key) l) r ≡ cond (t r) (find l r) None
  unfolding filter find
  find-filter-key t r [] = by_cases (t r) (λ e. rw e) (λ e. rw e)
  find-filter-key t r (x ∷ xs) =
      let ih = find-filter-key t r xs in
      by_cases (eqb r x.key)
      (λ e. let k : t x.key ≡ t r = ap t (sym (eqb-true r x.key e)) in by_cases (t r) (λ u. rw (k, u, e)) (λ u. rw (k, u) (rw u at ih)))
      (λ e. by_cases (t x.key) (λ u. rw (u, e) ih) (λ u. rw (u, e) ih))

  -- ---- merge

  pub Rising-merge : (c : ℕ) (l m : Rows Val) → Rising c l → Rising 0 m → Rising 0 (merge l m)
  unfolding merge
  Rising-merge c [] m a k = k
  Rising-merge c (x ∷ xs) m a k = Rising-merge x.key xs (insert x.key x.val m) a.1 (Rising-alter (λ _. Some x.val) 0 x.key m (omega arith) k)

  pub find-merge : (c r : ℕ) (l m : Rows Val) → Rising c l → Rising 0 m → find (merge l m) r ≡ or_else (find l r) (find m r)
  unfolding merge find
  find-merge c r [] m a k = refl
  find-merge c r (x ∷ xs) m a k =
      let pos : 0 < x.key = omega arith in
      let law = find-alter (λ _. Some x.val) 0 x.key r m pos k in
      let ih = find-merge x.key r xs (insert x.key x.val m) a.1 (Rising-alter (λ _. Some x.val) 0 x.key m pos k) in
      by_cases (eqb r x.key)
      (λ t. rw (ih, find_below r x.key xs (omega (arith, eqb-true r x.key t)) a.1, law, t))
      (λ t. rw (ih, law, t))

  -- rows with no key in common
  pub sum-merge : (f : ℕ → Val → ℕ) (c : ℕ) (l m : Rows Val) → Rising c l → Rising 0 m → ((r : ℕ) (v : Val) → find l r ≡ Some v → find m r ≡ None) →
      sum_by (λ x. f x.key x.val) (merge l m) ≡ sum_by (λ x. f x.key x.val) l + sum_by (λ x. f x.key x.val) m
  unfolding merge sum_by
  sum-merge f c [] m a k h = omega arith
  sum-merge f c (x ∷ xs) m a k h =
      let pos : 0 < x.key = omega arith in
      let n = insert x.key x.val m in
      let apart : (r : ℕ) (v : Val) → find xs r ≡ Some v → find n r ≡ None = λ r v e. find-alter (λ _. Some x.val) 0 x.key r m pos k ∙ by_cases (eqb r x.key)
      (λ t. let z = find_below r x.key xs (omega (arith, eqb-true r x.key t)) a.1 in cc)
      (λ t. rw t (h r v (find_tail x xs r v a.1 e))) in
      omega (
        arith,
        sum-merge f x.key xs n a.1 (Rising-alter (λ _. Some x.val) 0 x.key m pos k) apart,
        sum-alter f (λ _. Some x.val) 0 x.key m pos k,
        ap (count_found f x.key) (h x.key x.val (find_head x xs)),
      )

  pub length-merge-le : (c : ℕ) (l m : Rows Val) → Rising c l → Rising 0 m → length (merge l m) ≤ length l + length m
  unfolding merge
  length-merge-le c [] m a k = omega arith
  length-merge-le c (x ∷ xs) m a k =
      let pos : 0 < x.key = omega arith in
      omega (
        arith,
        length-merge-le x.key xs (insert x.key x.val m) a.1 (Rising-alter (λ _. Some x.val) 0 x.key m pos k),
        length-alter-le (λ _. Some x.val) 0 x.key m pos k,
      )

  pub Each-merge : (P : Row Val → Type 0) (l m : Rows Val) → Each P l → Each P m → Each P (merge l m)
  unfolding merge
  Each-merge P [] m u v = v
  Each-merge P (x ∷ xs) m u v = Each-merge P xs (insert x.key x.val m) u.1 (Each-insert P x.key x.val m u.0 v)

  pub UpTo-merge : (n : ℕ) (l m : Rows Val) → UpTo n l → UpTo n m → UpTo n (merge l m)
  UpTo-merge n = Each-merge (λ x. x.key ≤ n)

  -- rising keys up to n are at most n
  pub length-Rising : (b n : ℕ) (l : Rows Val) → Rising b l → UpTo n l → b ≤ n → b + length l ≤ n
  length-Rising b n [] a u h = omega arith
  length-Rising b n (x ∷ xs) a u h = omega (arith, a.0, length-Rising x.key n xs a.1 u.1 u.0)

  -- ---- a fact of each row, and of each row found

  pub Each-find : (P : ℕ → Val → Type 0) (r : ℕ) (v : Val) (l : Rows Val) → Each (λ x. P x.key x.val) l → find l r ≡ Some v → P r v
  unfolding find
  Each-find P r v [] a = none-some
  Each-find P r v (x ∷ xs) a =
      by_cases (eqb r x.key)
      (λ t. rw t (λ e. let z : x.val ≡ v = cc in rw (eqb-true r x.key t, ← z) a.0))
      (λ t. rw t (Each-find P r v xs a.1))

  pub find-Each : (P : ℕ → Val → Type 0) (b : ℕ) (l : Rows Val) → Rising b l → ((r : ℕ) (v : Val) → find l r ≡ Some v → P r v) → Each (λ x. P x.key x.val) l
  find-Each P b [] a h = tt
  find-Each P b (x ∷ xs) a h = (h x.key x.val (find_head x xs), find-Each P x.key xs a.1 (λ r v e. h r v (find_tail x xs r v a.1 e)))

  -- a row found has its key within the bounds
  pub find_within : (b n r : ℕ) (l : Rows Val) → Rising b l → UpTo n l → is_some (find l r) ≡ true → (b < r) × (r ≤ n)
  unfolding find
  find_within b n r [] a u = false-true
  find_within b n r (x ∷ xs) a u =
      by_cases (eqb r x.key)
      (λ t. let z = eqb-true r x.key t in rw t (λ e. (omega (arith, a.0), omega (arith, u.0))))
      (λ t. rw t (λ e. let w = find_within x.key n r xs a.1 u.1 e in (omega (arith, a.0), w.1)))

  -- a sum over the rows is the sum over the keys of what is found
  pub sum_rows : (f : ℕ → Val → ℕ) (b n : ℕ) (l : Rows Val) → Rising b l → UpTo n l → sum_by (λ x. f x.key x.val) l ≡ sum_to (suc n) (λ r. count_found f r (find l r))
  unfolding find sum_by
  sum_rows f b n [] a u = sym (sum_to_zero (suc n) (λ _. 0) (λ _ _. refl))
  sum_rows f b n (x ∷ xs) a u =
      omega (
        arith,
        sum_rows f x.key n xs a.1 u.1,
        sum_to_but (suc n) (λ r. count_found f r (find (x ∷ xs) r)) (λ r. count_found f r (find xs r)) x.key (omega arith) (λ r _ d. rw (ne_eqb r x.key d)),
        ap (count_found f x.key) (find_head x xs),
        ap (count_found f x.key) (find_below x.key x.key xs (omega arith) a.1),
      )

  -- a row for each key at which one is found
  pub length_found : (b n : ℕ) (l : Rows Val) → Rising b l → UpTo n l → length l ≡ sum_to (suc n) (λ r. one_if (is_some (find l r)))
  length_found b n l a u =
      omega (
        arith,
        sum_const 1 l,
        sum_rows (λ _ _. 1) b n l a u,
        sum_to_ext (suc n) (λ r. count_found (λ _ _. 1) r (find l r)) (λ r. one_if (is_some (find l r))) (λ r _. count_found_one r (find l r)),
      )

  -- ---- a table of rows: the keys k + 1 to k + n

  pub Rising-tab : (n k : ℕ) (f : ℕ → ℕ) (g : ℕ → Val) → ((i : ℕ) → f i ≡ suc (k + i)) → Rising k (tab n (λ i. record { key = f i; val = g i }))
  unfolding tab
  Rising-tab zero k f g h = tt
  Rising-tab (suc n) k f g h = (omega (arith, h 0), Rising-tab n (f 0) (λ i. f (suc i)) (λ i. g (suc i)) (λ i. omega (arith, h 0, h (suc i))))

  pub find-tab : (n k r : ℕ) (f : ℕ → ℕ) (g : ℕ → Val) → ((i : ℕ) → f i ≡ suc (k + i)) → k < r → r ≤ k + n → is_some (find (tab n (λ i. record { key = f i; val = g i })) r) ≡ true
  unfolding tab find
  find-tab zero k r f g h a b = absurd (omega arith)
  find-tab (suc n) k r f g h a b =
      by_cases (eqb r (f 0))
      (λ t. rw t)
      (λ t. rw t (find-tab n (f 0) r (λ i. f (suc i)) (λ i. g (suc i)) (λ i. omega (arith, h 0, h (suc i))) (omega (arith, h 0, eqb-false r (f 0) t)) (omega (arith, h 0))))

-- ---- values mapped

module _ {Val Val' : Type 0} where
  pub Rising-map : (g : Val → Val') (b : ℕ) (l : Rows Val) → Rising b l → Rising b (map (λ x. record { key = x.key; val = g x.val }) l)
  Rising-map g b [] a = tt
  Rising-map g b (x ∷ xs) a = (a.0, Rising-map g x.key xs a.1)

  pub find-map : (g : Val → Val') (r : ℕ) (l : Rows Val) → find (map (λ x. record { key = x.key; val = g x.val }) l) r ≡ option_map g (find l r)
  unfolding find
  find-map g r [] = refl
  find-map g r (x ∷ xs) = by_cases (eqb r x.key) (λ t. rw t) (λ t. rw t (find-map g r xs))
