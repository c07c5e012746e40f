-- Edges on cuts that rise: a cut's place among them is the stripe that it ends, so to find an edge is to find its stripe.
use mathlib.Core.Path.{◌≡◌, refl, sym, ap, ap₂, ◌∙◌}
use mathlib.Core.Bool.{Bool, true, false}
use mathlib.Core.List.{List, [], ◌∷◌}
use mathlib.Core.Logic.{◌≢◌}
use Rattle.std.specs.Prelude.{Option, None, Some}
use Prim.Native.Nat.{ℕ, zero, suc, ◌+◌, ◌-◌, ◌≤◌, ◌<◌}
use native.Mathlib.Omega.{arith}
use lib.Dec.{eqb, leb, ltb}
use lib.ListN.{length, get_or}
use borrow.Author.Tests.{ltb-true, eqb-true, eqb-false, eq-eqb, ne_eqb, leb-true, leb-false, le-leb, lt-leb, lt-ltb, le-ltb, ltb-false}
use Rattle.lists.specs.Sums.{sum_by, count}
use Rattle.lists.specs.Tests.{one_if, both, either, Each}
use Rattle.lists.proofs.Cases.{by_cases, none-some, some_injective}
use Rattle.lists.proofs.SumsLaws.{sum-nil, count-cons}
use Rattle.lists.proofs.TestsLaws.{both_intro, both_left_false, both_right_false, either_left}
use Rattle.rules.specs.Limits.{last_metre, max_cuts}
use Rattle.rules.specs.Grid.{stripe, stripe_low}
use Rattle.rules.specs.WellFormed.{RisingCuts}
use Rattle.rules.proofs.TilingLaws.{stripe_most, stripe_low_lem}
use Rattle.sound_clauses.specs.Grid.{cuts_test, low_test, high_test, span_test}
use Rattle.sound_clauses.proofs.GridLaws.{cuts_true}
use Rattle.std.specs.List.{position, position_or_len}
use Rattle.std.proofs.lemmas.List.Quantifiers.{position-Some}
use Rattle.sound_edges.specs.Edges.{passing, extent}

-- ---- cuts that rise

none_below : (cuts : List ℕ) (b x : ℕ) → RisingCuts b cuts → x ≤ b → count x cuts ≡ 0
unfolding sum_by
none_below [] b x r h = refl
none_below (c ∷ cuts) b x r h = omega (arith, ap one_if (ne_eqb x c (omega arith)), none_below cuts c x r.1 (omega arith))

-- none stands twice
once : (cuts : List ℕ) (b x : ℕ) → RisingCuts b cuts → count x cuts ≤ 1
unfolding sum_by
once [] b x r = omega arith
once (c ∷ cuts) b x r =
    by_cases (eqb x c)
    (λ t. omega (arith, ap one_if t, none_below cuts c x r.1 (omega (arith, eqb-true x c t))))
    (λ t. omega (arith, ap one_if t, once cuts c x r.1))

reached : (c x : ℕ) → 0 < x → one_if (leb c x) ≡ one_if (leb c (x - 1)) + one_if (eqb x c)
reached c x h =
    by_cases (eqb x c)
    (λ t. let e = eqb-true x c t in rw (t, le-leb c x (omega arith), lt-leb c (x - 1) (omega arith)))
    (λ t. let e = eqb-false x c t in
    by_cases (leb c x)
    (λ u. rw (t, u, le-leb c (x - 1) (omega (arith, leb-true c x u))))
    (λ u. rw (t, u, lt-leb c (x - 1) (omega (arith, leb-false c x u)))))

-- from one coordinate to the next the stripe is greater by the cuts there
stripe_next : (cuts : List ℕ) (x : ℕ) → 0 < x → stripe cuts x ≡ stripe cuts (x - 1) + count x cuts
unfolding stripe sum_by
stripe_next [] x h = refl
stripe_next (c ∷ cuts) x h = omega (arith, reached c x h, stripe_next cuts x h)

stripe_all : (cuts : List ℕ) (x : ℕ) → Each (λ c. c ≤ x) cuts → stripe cuts x ≡ length cuts
unfolding stripe sum_by
stripe_all [] x e = refl
stripe_all (c ∷ cuts) x e = omega (arith, ap one_if (le-leb c x e.0), stripe_all cuts x e.1)

module _ (cuts : List ℕ) (rise : cuts_test cuts ≡ true) where
  stripe_first : stripe cuts 0 ≡ 0
  unfolding stripe_low
  stripe_first = stripe_low_lem cuts 0 (cuts_true cuts rise).1 (omega arith)

  stripe_cut : (i : ℕ) → i < length cuts → stripe cuts (get_or cuts i 0) ≡ suc i
  unfolding stripe_low
  stripe_cut i h = stripe_low_lem cuts (suc i) (cuts_true cuts rise).1 h

  -- a cut ends one stripe and begins the next
  stripe_begun : (x : ℕ) → 0 < x → 0 < count x cuts → stripe cuts x ≡ stripe cuts (x - 1) + 1
  stripe_begun x h k = omega (arith, stripe_next cuts x h, once cuts 0 x (cuts_true cuts rise).1)

  stripe_ended : (x i : ℕ) → i < length cuts → get_or cuts i 0 ≡ x → 0 < count x cuts → i ≡ stripe cuts (x - 1)
  stripe_ended x i h e k =
      let s : stripe cuts x ≡ suc i = ap (stripe cuts) (sym e) ∙ stripe_cut i h in
      by_cases (eqb x 0)
      (λ t. absurd (omega (arith, s, ap (stripe cuts) (eqb-true x 0 t), stripe_first)))
      (λ t. omega (arith, s, stripe_begun x (omega (arith, eqb-false x 0 t)) k))

-- ---- a cut, sought

counted : (x : ℕ) (xs : List ℕ) (i : ℕ) → i < length xs → get_or xs i 0 ≡ x → 0 < count x xs
counted x [] i h e = absurd (omega arith)
counted x (y ∷ xs) zero h e = omega (arith, count-cons x y xs, ap one_if (eq-eqb x y (sym e)))
counted x (y ∷ xs) (suc i) h e = omega (arith, count-cons x y xs, counted x xs i (omega arith) e)

uncounted : (x : ℕ) (xs : List ℕ) → length xs ≤ position_or_len (λ c. eqb c x) xs → count x xs ≡ 0
uncounted x [] h = sum-nil (λ y. one_if (eqb x y))
uncounted x (y ∷ xs) h =
    by_cases (eqb y x)
    (λ t. absurd (omega (arith, rw t at h)))
    (λ t. omega (arith, count-cons x y xs, ap one_if (ne_eqb x y (λ z. eqb-false y x t (sym z))), uncounted x xs (omega (arith, rw t at h))))

-- the first slot that holds it is the stripe that it ends
pub ended_found : (cuts : List ℕ) (x : ℕ) → cuts_test cuts ≡ true → position (λ c. eqb c x) cuts ≡ passing (ltb 0 (count x cuts)) (stripe cuts (x - 1))
ended_found cuts x rise =
    let at = position_or_len (λ c. eqb c x) cuts in
    by_cases (ltb at (length cuts))
    (λ t. let found = position-Some (λ c. eqb c x) cuts at 0 (rw t) in
    let here = eqb-true (get_or cuts at 0) x found.1 in
    let some = counted x cuts at found.0 here in
    rw (t, lt-ltb 0 (count x cuts) some) (ap Some (stripe_ended cuts rise x at found.0 here some)))
    (λ t. rw (t, le-ltb 0 (count x cuts) (omega (arith, uncounted x cuts (ltb-false at (length cuts) t)))))

-- ---- an edge

-- the test passes where there is a value, and only there
module _ {A : Type 0} where
  pub passing-none : (b : Bool) (a : A) → None ≡ passing b a → b ≡ false
  passing-none true a e = none-some e
  passing-none false a e = refl

  pub passing-some : (b : Bool) (a : A) {x : A} → Some x ≡ passing b a → (b ≡ true) × (x ≡ a)
  passing-some true a e = (refl, some_injective e)
  passing-some false a e = none-some (sym e)

module _ (b : Bool) (s : ℕ) {o : Option ℕ} (said : o ≡ passing b s) where
  means_loose : o ≡ None → b ≡ false
  means_loose f = passing-none b s (sym f ∙ said)

  means_bounds : {at : ℕ} → o ≡ Some at → (b ≡ true) × (at ≡ s)
  means_bounds f = passing-some b s (sym f ∙ said)

module _ (cuts : List ℕ) (x : ℕ) where
  pub low_first : cuts_test cuts ≡ true → x ≡ 0 → Some 0 ≡ passing (low_test cuts x) (stripe cuts x)
  unfolding low_test
  low_first rise e = rw (either_left (ltb 0 (count x cuts)) (eq-eqb x 0 e)) (ap Some (sym (ap (stripe cuts) e ∙ stripe_first cuts rise)))

  module _ {o : Option ℕ} (said : o ≡ passing (ltb 0 (count x cuts)) (stripe cuts (x - 1))) where
    pub low_loose : x ≢ 0 → o ≡ None → None ≡ passing (low_test cuts x) (stripe cuts x)
    unfolding low_test either
    low_loose h f = rw (ne_eqb x 0 h, means_loose (ltb 0 (count x cuts)) (stripe cuts (x - 1)) said f)

    -- there is room for the stripe after it
    pub low_room : {at : ℕ} → cuts_test cuts ≡ true → o ≡ Some at → at ≤ max_cuts
    low_room rise f = omega (arith, (means_bounds (ltb 0 (count x cuts)) (stripe cuts (x - 1)) said f).1, stripe_most cuts (x - 1), (cuts_true cuts rise).0)

    pub low_cut : {at : ℕ} → cuts_test cuts ≡ true → x ≢ 0 → o ≡ Some at → Some (at + 1) ≡ passing (low_test cuts x) (stripe cuts x)
    unfolding low_test either
    low_cut {at} rise h f =
        let b = means_bounds (ltb 0 (count x cuts)) (stripe cuts (x - 1)) said f in
        let s : at + 1 ≡ stripe cuts x = omega (arith, b.1, stripe_begun cuts rise x (omega (arith, h)) (ltb-true 0 (count x cuts) b.0)) in
        rw (ne_eqb x 0 h, b.0) (ap Some s)

  pub high_cut : {o : Option ℕ} → x ≢ last_metre → o ≡ passing (ltb 0 (count (x + 1) cuts)) (stripe cuts (x + 1 - 1))
      → o ≡ passing (high_test cuts x) (stripe cuts x)
  unfolding high_test either
  high_cut h said =
      let s : x + 1 - 1 ≡ x = omega arith in
      rw (ne_eqb x last_metre h) (said ∙ ap (λ (k : ℕ). passing (ltb 0 (count (x + 1) cuts)) (stripe cuts k)) s)

pub high_last : (cuts : List ℕ) (x : ℕ) → cuts_test cuts ≡ true → x ≡ last_metre → Some (length cuts) ≡ passing (high_test cuts x) (stripe cuts x)
unfolding high_test
high_last cuts x rise e =
    let s : length cuts ≡ stripe cuts x = sym (ap (stripe cuts) e ∙ stripe_all cuts last_metre (cuts_true cuts rise).2) in
    rw (either_left (ltb 0 (count (x + 1) cuts)) (eq-eqb x last_metre e)) (ap Some s)

-- ---- the stripes between two edges

module _ (cuts : List ℕ) (low high : ℕ) where
  abbrev between : Bool → Option (ℕ × ℕ)
  between b = passing b (stripe cuts low, stripe cuts high)

  pub span-low : {o : Option ℕ} → o ≡ passing (low_test cuts low) (stripe cuts low) → o ≡ None → None ≡ extent cuts low high
  unfolding span_test
  span-low lowest f = ap between (sym (both_left_false (leb low high) (both_left_false (high_test cuts high) (means_loose (low_test cuts low) (stripe cuts low) lowest f))))

  pub span-high : {p : Option ℕ} → p ≡ passing (high_test cuts high) (stripe cuts high) → p ≡ None → None ≡ extent cuts low high
  unfolding span_test
  span-high highest f =
      ap between (sym (both_left_false (leb low high) (both_right_false (low_test cuts low) (means_loose (high_test cuts high) (stripe cuts high) highest f))))

  pub span_back : high < low → None ≡ extent cuts low high
  unfolding span_test
  span_back h = ap between (sym (both_right_false (both (low_test cuts low) (high_test cuts high)) (lt-leb low high h)))

  pub span_whole : {o p : Option ℕ} {first last : ℕ} → o ≡ passing (low_test cuts low) (stripe cuts low)
      → p ≡ passing (high_test cuts high) (stripe cuts high)
      → o ≡ Some first → p ≡ Some last → low ≤ high → Some (first, last) ≡ extent cuts low high
  unfolding span_test
  span_whole lowest highest f g h =
      let a = means_bounds (low_test cuts low) (stripe cuts low) lowest f in
      let b = means_bounds (high_test cuts high) (stripe cuts high) highest g in
      ap₂ (λ (j k : ℕ). Some (j, k)) a.1 b.1 ∙ ap between (sym (both_intro (both_intro a.0 b.0) (le-leb low high h)))
