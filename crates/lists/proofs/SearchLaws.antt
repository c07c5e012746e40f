-- A binary search among rows by rising key: the place that it ends at, and what changes of a row at that place are.
use mathlib.Core.Path.{◌≡◌, refl, sym, ap}
use mathlib.Core.List.{[], ◌∷◌}
use mathlib.Core.Logic.{◌≢◌}
use Rattle.std.specs.Prelude.{Option, None, Some}
use Prim.Native.Nat.{ℕ, zero, suc, ◌+◌, ◌≤◌, ◌<◌}
use native.Mathlib.Nat.{le_of_suc-le-suc, not-suc-le-zero}
use native.Mathlib.Omega.{arith}
use lib.Dec.{eqb, ltb}
use lib.ListN.{length, get_or, set}
use borrow.Author.Tests.{lt-ltb, le-ltb, ltb-true, ltb-false, eqb-true, eqb-false, ne_eqb, eq-eqb}
use Rattle.lists.specs.Tests.{one_if, first_at}
use Rattle.lists.specs.Sums.{sum_by}
use Rattle.lists.specs.Parts.{insert_at, remove_at}
use Rattle.lists.specs.Rows.{Row, Rows, Rising, find, alter, rank}
use Rattle.lists.proofs.Cases.{by_cases}
use Rattle.lists.proofs.RowsLaws.{find_below}

rank-nil : (Val : Type 0) (r : ℕ) → rank {Val = Val} r [] ≡ 0
unfolding rank sum_by
rank-nil Val r = refl

module _ {Val : Type 0} where
  pub rank-cons : (r : ℕ) (x : Row Val) (xs : Rows Val) → rank r (x ∷ xs) ≡ one_if (ltb x.key r) + rank r xs
  unfolding rank sum_by
  rank-cons r x xs = refl

  pub rank-le : (r : ℕ) (l : Rows Val) → rank r l ≤ length l
  rank-le r [] = rw (rank-nil Val r) (omega arith)
  rank-le r (x ∷ xs) = by_cases (ltb x.key r) (λ t. rw (rank-cons, t) (omega (arith, rank-le r xs))) (λ t. rw (rank-cons, t) (omega (arith, rank-le r xs)))

  pub rank_below : (r b : ℕ) (l : Rows Val) → r ≤ b → Rising b l → rank r l ≡ 0
  rank_below r b [] h a = rank-nil Val r
  rank_below r b (x ∷ xs) h a = rw (rank-cons r x xs, le-ltb x.key r (omega (arith, a.0))) (omega (arith, rank_below r x.key xs (omega (arith, a.0)) a.1))

  -- the first row: r is past it, or r is not
  rank_past : (r : ℕ) (x : Row Val) (xs : Rows Val) → x.key < r → rank r (x ∷ xs) ≡ suc (rank r xs)
  rank_past r x xs h = rw (rank-cons r x xs, lt-ltb x.key r h) (omega arith)

  rank_here : (r : ℕ) (x : Row Val) (xs : Rows Val) → r ≤ x.key → Rising x.key xs → rank r (x ∷ xs) ≡ 0
  rank_here r x xs h a = rw (rank-cons r x xs, le-ltb x.key r h) (omega (arith, rank_below r x.key xs h a))

  pub Rising_order : (b : ℕ) (l : Rows Val) (i k : ℕ) (d : Row Val) → Rising b l → i < k → k < length l → (get_or l i d).key < (get_or l k d).key
  Rising_order b [] i k d a h f = absurd (not-suc-le-zero f)
  Rising_order b (x ∷ []) i zero d a h f = elim h [ ]
  Rising_order b (x ∷ []) i (suc k) d a h f = absurd (not-suc-le-zero (le_of_suc-le-suc f))
  Rising_order b (x ∷ y ∷ ys) i zero d a h f = absurd (not-suc-le-zero h)
  Rising_order b (x ∷ y ∷ ys) zero (suc zero) d a h f = a.1.0
  Rising_order b (x ∷ y ∷ ys) zero (suc (suc k)) d a h f =
      let t = Rising_order x.key (y ∷ ys) zero (suc k) d a.1 (omega arith) (le_of_suc-le-suc f) in omega (arith, a.1.0)
  Rising_order b (x ∷ y ∷ ys) (suc i) (suc k) d a h f = Rising_order x.key (y ∷ ys) i k d a.1 (le_of_suc-le-suc h) (le_of_suc-le-suc f)

  -- ---- the search: keys before lo are below r, those from hi on are not
  pub record Between (l : Rows Val) (r : ℕ) (d : Row Val) (lo hi : ℕ) : Type 0 where
    pub rising : Rising 0 l
    pub ordered : lo ≤ hi
    pub inside : hi ≤ length l
    pub below : (i : ℕ) → i < lo → (get_or l i d).key < r
    pub above : (i : ℕ) → hi ≤ i → i < length l → r ≤ (get_or l i d).key

  pub Between_start : {l : Rows Val} (r : ℕ) (d : Row Val) (n : ℕ) → Rising 0 l → length l ≡ n → Between l r d 0 n
  Between_start {l} r d n a e = record {
    rising = a;
    ordered = omega arith;
    inside = omega arith;
    below = λ i h. absurd (not-suc-le-zero h);
    above = λ i h k. absurd (omega arith);
  }

  module _ {l : Rows Val} {r : ℕ} {d : Row Val} {lo hi : ℕ} (s : Between l r d lo hi) (m : ℕ) (here : m < hi) where
    pub Between_up : lo ≤ m → (get_or l m d).key < r → Between l r d (m + 1) hi
    Between_up h k =
        let n = s.inside in
        record {
          rising = s.rising;
          ordered = omega arith;
          inside = n;
          above = s.above;
          below = λ i b. by_cases (eqb i m)
              (λ e. rw (eqb-true i m e) k)
              (λ e. let t = Rising_order 0 l i m d s.rising (omega (arith, eqb-false i m e)) (omega arith) in omega arith);
        }

    pub Between_down : lo ≤ m → r ≤ (get_or l m d).key → Between l r d lo m
    Between_down h k =
        let n = s.inside in
        record {
          rising = s.rising;
          ordered = h;
          inside = omega arith;
          below = s.below;
          above = λ i b c. by_cases (eqb i m)
              (λ e. rw (eqb-true i m e) k)
              (λ e. let t = Rising_order 0 l m i d s.rising (omega (arith, eqb-false i m e)) c in omega arith);
        }

  pub rank_Between_at : (l : Rows Val) (r k : ℕ) (d : Row Val) → k ≤ length l → ((i : ℕ) → i < k → (get_or l i d).key < r) → ((i : ℕ) → k ≤ i → i < length l → r ≤ (get_or l i d).key) → rank r l ≡ k
  rank_Between_at [] r k d h b a = rw (rank-nil Val r) (omega arith)
  rank_Between_at (x ∷ xs) r zero d h b a = rw (rank-cons r x xs, le-ltb x.key r (a 0 (omega arith) (omega arith))) (omega (arith, rank_Between_at xs r zero d (omega arith) (λ i q. absurd (not-suc-le-zero q)) (λ i q p. a (suc i) (omega arith) (omega arith))))
  rank_Between_at (x ∷ xs) r (suc k) d h b a = rw (rank-cons r x xs, lt-ltb x.key r (b 0 (omega arith))) (omega (arith, rank_Between_at xs r k d (omega arith) (λ i q. b (suc i) (omega arith)) (λ i q p. a (suc i) (omega arith) (omega arith))))

  -- where it ends
  pub rank-Between : {l : Rows Val} {r : ℕ} {d : Row Val} {lo hi : ℕ} → Between l r d lo hi → hi ≤ lo → rank r l ≡ lo
  rank-Between {l} {r} {d} {lo} {hi} s h = let o = s.ordered in let n = s.inside in rank_Between_at l r lo d (omega arith) s.below (λ i q. s.above i (omega arith))

  -- ---- what stands at the place
  pub find-rank : (b r : ℕ) (l : Rows Val) (d : Row Val) → Rising b l → rank r l < length l → (get_or l (rank r l) d).key ≡ r → find l r ≡ Some (get_or l (rank r l) d).val
  unfolding find
  find-rank b r [] d a = λ h e. absurd (not-suc-le-zero (rw (rank-nil Val r) at h))
  find-rank b r (x ∷ xs) d a =
      by_cases (ltb x.key r)
      (λ t. let u = ltb-true x.key r t in rw (rank_past r x xs u, ne_eqb r x.key (omega arith)) (λ h e. find-rank x.key r xs d a.1 (le_of_suc-le-suc h) e))
      (λ t. rw (rank_here r x xs (ltb-false x.key r t) a.1) (λ h e. rw (eq-eqb r x.key (sym e))))

  pub find-rank-none : (b r : ℕ) (l : Rows Val) (d : Row Val) → Rising b l → (rank r l < length l → (get_or l (rank r l) d).key ≢ r) → find l r ≡ None
  unfolding find
  find-rank-none b r [] d a = λ h. refl
  find-rank-none b r (x ∷ xs) d a =
      by_cases (ltb x.key r)
      (λ t. let u = ltb-true x.key r t in rw (rank_past r x xs u, ne_eqb r x.key (omega arith)) (λ h. find-rank-none x.key r xs d a.1 (λ f. h (omega arith))))
      (λ t. let u = ltb-false x.key r t in rw (rank_here r x xs u a.1) (λ h.
      let n : x.key ≢ r = h (omega arith) in
      rw (ne_eqb r x.key (λ z. n (sym z))) (find_below r x.key xs u a.1)))

  -- the same of the place at which the key is first met
  pub first_at-rank : (b r : ℕ) (l : Rows Val) (d : Row Val) → Rising b l → rank r l < length l → (get_or l (rank r l) d).key ≡ r → first_at (λ x. eqb r x.key) l ≡ Some (rank r l)
  unfolding first_at
  first_at-rank b r [] d a = λ h e. absurd (not-suc-le-zero (rw (rank-nil Val r) at h))
  first_at-rank b r (x ∷ xs) d a =
      by_cases (ltb x.key r)
      (λ t. let u = ltb-true x.key r t in rw (rank_past r x xs u, ne_eqb r x.key (omega arith)) (λ h e. rw (first_at-rank x.key r xs d a.1 (le_of_suc-le-suc h) e)))
      (λ t. rw (rank_here r x xs (ltb-false x.key r t) a.1) (λ h e. rw (eq-eqb r x.key (sym e))))

  first_at_below : (b r : ℕ) (l : Rows Val) → r ≤ b → Rising b l → first_at (λ x. eqb r x.key) l ≡ None
  unfolding first_at
  first_at_below b r [] h a = refl
  first_at_below b r (x ∷ xs) h a = rw (ne_eqb r x.key (omega (arith, a.0)), first_at_below x.key r xs (omega (arith, a.0)) a.1)

  pub first_at-rank-none : (b r : ℕ) (l : Rows Val) (d : Row Val) → Rising b l → (rank r l < length l → (get_or l (rank r l) d).key ≢ r) → first_at (λ x. eqb r x.key) l ≡ None
  unfolding first_at
  first_at-rank-none b r [] d a = λ h. refl
  first_at-rank-none b r (x ∷ xs) d a =
      by_cases (ltb x.key r)
      (λ t. let u = ltb-true x.key r t in rw (rank_past r x xs u, ne_eqb r x.key (omega arith)) (λ h. rw (first_at-rank-none x.key r xs d a.1 (λ f. h (omega arith)))))
      (λ t. let u = ltb-false x.key r t in rw (rank_here r x xs u a.1) (λ h.
      let n : x.key ≢ r = h (omega arith) in
      rw (ne_eqb r x.key (λ z. n (sym z)), first_at_below x.key r xs u a.1)))

  -- ---- a change of the row at that place
  module _ (f : Option Val → Option Val) (r : ℕ) where
    pub alter-insert_at : (b : ℕ) (l : Rows Val) (v : Val) → Rising b l → find l r ≡ None → f None ≡ Some v → alter f r l ≡ insert_at l (rank r l) (record { key = r; val = v })
    unfolding alter find insert_at
    alter-insert_at b [] v a = λ n e. rw (rank-nil Val r, e)
    alter-insert_at b (x ∷ xs) v a =
        by_cases (eqb r x.key)
        (λ t. rw t (λ n e. cc))
        (λ t. by_cases (ltb r x.key)
        (λ u. let h = ltb-true r x.key u in rw (t, u, rank_here r x xs (omega arith) a.1) (λ n e. rw e))
        (λ u. let h = ltb-false r x.key u in let k = eqb-false r x.key t in
        rw (t, u, rank_past r x xs (omega arith)) (λ n e. ap (λ (y : Rows Val). x ∷ y) (alter-insert_at x.key xs v a.1 n e))))

    pub alter-set : (b : ℕ) (l : Rows Val) (u v : Val) → Rising b l → find l r ≡ Some u → f (Some u) ≡ Some v → alter f r l ≡ set l (rank r l) (record { key = r; val = v })
    unfolding alter find
    alter-set b [] u v a = λ n e. cc
    alter-set b (x ∷ xs) u v a =
        by_cases (eqb r x.key)
        (λ t. let k = eqb-true r x.key t in
        rw (t, rank_here r x xs (omega arith) a.1) (λ n e. let z : x.val ≡ u = cc in rw (z, e)))
        (λ t. by_cases (ltb r x.key)
        (λ w. let h = ltb-true r x.key w in rw (t, find_below r x.key xs (omega arith) a.1) (λ n e. cc))
        (λ w. let h = ltb-false r x.key w in let k = eqb-false r x.key t in
        rw (t, w, rank_past r x xs (omega arith)) (λ n e. ap (λ (y : Rows Val). x ∷ y) (alter-set x.key xs u v a.1 n e))))

    pub alter-remove_at : (b : ℕ) (l : Rows Val) (u : Val) → Rising b l → find l r ≡ Some u → f (Some u) ≡ None → alter f r l ≡ remove_at l (rank r l)
    unfolding alter find remove_at
    alter-remove_at b [] u a = λ n e. cc
    alter-remove_at b (x ∷ xs) u a =
        by_cases (eqb r x.key)
        (λ t. let k = eqb-true r x.key t in
        rw (t, rank_here r x xs (omega arith) a.1) (λ n e. let z : x.val ≡ u = cc in rw (z, e)))
        (λ t. by_cases (ltb r x.key)
        (λ w. let h = ltb-true r x.key w in rw (t, find_below r x.key xs (omega arith) a.1) (λ n e. cc))
        (λ w. let h = ltb-false r x.key w in let k = eqb-false r x.key t in
        rw (t, w, rank_past r x xs (omega arith)) (λ n e. ap (λ (y : Rows Val). x ∷ y) (alter-remove_at x.key xs u a.1 n e))))
