-- The cuts of one direction: the least coordinate of a stripe, and where a new cut goes. A coordinate is a cut just if its stripe begins with it.
use mathlib.Core.Bool.{true}
use mathlib.Core.List.{List, [], ◌∷◌}
use mathlib.Core.Logic.{◌≢◌}
use mathlib.Core.Path.{◌≡◌, refl, sym, ap, ◌∙◌}
use Prim.Native.Nat.{ℕ, zero, suc, ◌+◌, ◌-◌, ◌≤◌, ◌<◌}
use native.Mathlib.Omega.{arith}
use lib.Dec.{leb, ltb}
use lib.ListN.{length, get_or, set, take}
use lib.Seq.{get_or-take}
use borrow.Author.Tests.{lt-ltb, le-ltb, lt-leb, le-leb, ltb-true, ltb-false, leb-true, leb-false, eq-eqb}
use Rattle.lists.specs.Parts.{insert_at}
use Rattle.lists.specs.Sort.{sort_in}
use Rattle.lists.specs.Sums.{count}
use Rattle.lists.specs.Tests.{one_if, either}
use Rattle.lists.proofs.Cases.{by_cases}
use Rattle.lists.proofs.ShiftLaws.{Opened, open_moved}
use Rattle.std.specs.List.{copy_within}
use Rattle.lists.proofs.SumsLaws.{sum-cons, count_at, count-cons}
use Rattle.lists.proofs.TestsLaws.{either_cases}
use Rattle.rules.specs.Limits.{max_cuts}
use Rattle.rules.specs.Grid.{stripe, stripe_low, corner_of}
use Rattle.rules.specs.Flush.{add_cut}
use Rattle.rules.specs.WellFormed.{RisingCuts}
use Rattle.rules.proofs.TilingLaws.{stripe_between, stripe_most, stripe_low_lem}
use Rattle.desk.specs.declared.CutList.{CutList}
use Rattle.desk.specs.Layout.{slotted, cut_list_of}
use Rattle.desk.specs.Views.{cuts_in, cuts_by}
use Rattle.boxes.specs.declared.BoxAt.{BoxAt}
use Rattle.boxes.specs.Boxes.{box_in}
use Rattle.desk.proofs.SlotsLaws.{length-insert_at, open_slotted}
use Rattle.directory.specs.Cuts.{WholeCuts}

-- ---- a stripe's least coordinate

module _ (c : CutList) (i : ℕ) where
  pub low_first : i ≡ 0 → 0 ≡ stripe_low (cuts_in c) i
  unfolding stripe_low
  low_first e = ap (λ (j : ℕ). get_or (0 ∷ cuts_in c) j 0) (sym e)

  pub low_cut : i ≢ 0 → i ≤ c.n → get_or c.at (i - 1) 0 ≡ stripe_low (cuts_in c) i
  unfolding stripe_low cuts_in
  low_cut z h =
      let e : suc (i - 1) ≡ i = omega arith in
      sym (get_or-take c.n c.at (i - 1) 0 (omega arith)) ∙ ap (λ (j : ℕ). get_or (0 ∷ take c.n c.at) j 0) e

pub corner_laid : (easts norths : CutList) (m : BoxAt) {x y : ℕ} → x ≡ stripe_low (cuts_in easts) m.east → y ≡ stripe_low (cuts_in norths) m.north → record { east = x; north = y } ≡ corner_of (cuts_by easts norths) (box_in m)
unfolding corner_of
corner_laid easts norths m e f = λ i. record { east = e i; north = f i }

-- ---- the place of a new cut

module _ (l : List ℕ) where
  stripe_there : (i x : ℕ) → i ≤ length l → stripe_low l i ≡ x → 0 < x → 1 ≤ count x l
  unfolding stripe_low
  stripe_there zero x h e g = absurd (omega arith)
  stripe_there (suc i) x h e g = rw (← e) (count_at l i h)

  module _ (rising : RisingCuts 0 l) (x : ℕ) where
    abbrev low : ℕ
    low = stripe_low l (stripe l x)

    low-stripe : stripe l low ≡ stripe l x
    low-stripe = stripe_low_lem l (stripe l x) rising (stripe_most l x)

    -- no cut lies between x and the low end of its stripe
    low-le : low ≤ x
    low-le =
        by_cases (ltb x low)
        (λ t. let h = ltb-true x low t in absurd (omega (arith, low-stripe, stripe_between l x low low h (omega arith), stripe_there (stripe l x) low (stripe_most l x) refl (omega arith))))
        (λ t. ltb-false x low t)

    stripe_away : low ≢ x → count x l ≡ 0
    stripe_away n = omega (arith, low-le, n, low-stripe, stripe_between l low x x (omega (arith, low-le)) (omega arith))

stripe-cons : (c : ℕ) (l : List ℕ) (x : ℕ) → stripe (c ∷ l) x ≡ one_if (leb c x) + stripe l x
unfolding stripe
stripe-cons c l x = sum-cons (λ d. one_if (leb d x)) c l

-- a cut above x
stripe_above : (c : ℕ) (l : List ℕ) (x : ℕ) → RisingCuts c l → x < c → stripe (c ∷ l) x ≡ 0
stripe_above c [] x r h = omega (arith, stripe-cons c [] x, ap one_if (lt-leb c x h), stripe_most [] x)
stripe_above c (d ∷ l) x r h = omega (arith, stripe-cons c (d ∷ l) x, ap one_if (lt-leb c x h), stripe_above d l x r.1 (omega (arith, r.0)))

-- it goes where the next stripe begins
sort_in-stripe : (l : List ℕ) (b x : ℕ) → RisingCuts b l → count x l ≡ 0 → insert_at l (stripe l x) x ≡ sort_in x l
unfolding sort_in insert_at
sort_in-stripe [] b x r n = let z : stripe [] x ≡ 0 = omega (arith, stripe_most [] x) in rw z
sort_in-stripe (c ∷ l) b x r n =
    let q = count-cons x c l in
    by_cases (leb c x)
    (λ t. let h = leb-true c x t in
    let e : x ≢ c = λ z. omega (arith, ap one_if (eq-eqb x c z)) in
    let k : stripe (c ∷ l) x ≡ suc (stripe l x) = omega (arith, stripe-cons c l x, ap one_if t) in
    rw (k, lt-leb x c (omega arith)) (ap (λ (m : List ℕ). c ∷ m) (sort_in-stripe l c x r.1 (omega arith))))
    (λ t. let h = leb-false c x t in rw (stripe_above c l x r.1 h, le-leb x c (omega arith)))

-- ---- the cuts in their slots

whole_cuts : (c : CutList) → WholeCuts c → c.n ≡ length (cuts_in c)
unfolding cut_list_of
whole_cuts c w = ap (λ (x : CutList). x.n) w

Opened_cuts : (l : List ℕ) (a x : ℕ) {n : ℕ} {xs ys : List ℕ} → n ≡ length l → xs ≡ slotted max_cuts 0 l → n < max_cuts → Opened xs n a ys → record { n = n + 1; at = set ys a x } ≡ cut_list_of (insert_at l a x)
unfolding cut_list_of
Opened_cuts l a x {n} {xs} {ys} e s f o =
    let m : n + 1 ≡ length (insert_at l a x) = omega (arith, length-insert_at l a x) in
    let q : set ys a x ≡ slotted max_cuts 0 (insert_at l a x) = open_slotted max_cuts 0 l a x {ys = ys} (omega arith) (rw (s, e) at o) in
    λ j. record { n = m j; at = q j }

pub cut_open : (c : CutList) (a x : ℕ) {ys : List ℕ} → WholeCuts c → length c.at ≡ max_cuts → a ≤ c.n → c.n < max_cuts → ys ≡ copy_within c.at a c.n (a + 1)
    → record { n = c.n + 1; at = set ys a x } ≡ cut_list_of (insert_at (cuts_in c) a x)
unfolding cut_list_of
cut_open c a x {ys} w size h f moved =
    Opened_cuts (cuts_in c) a x {ys = ys} (whole_cuts c w) (ap (λ (y : CutList). y.at) w) f (rw moved (open_moved h (omega (arith, size))))

module _ (c : CutList) (x : ℕ) {i : ℕ} (whole : WholeCuts c) (rising : RisingCuts 0 (cuts_in c)) (above : 0 < x) (place : i ≡ stripe (cuts_in c) x) where
  pub place_inside : i ≤ c.n
  place_inside = omega (arith, whole_cuts c whole, stripe_most (cuts_in c) x)

  module _ {low : ℕ} (least : low ≡ stripe_low (cuts_in c) i) where
    pub cut_there : low ≡ x → c ≡ cut_list_of (add_cut x (cuts_in c))
    unfolding add_cut
    cut_there e =
        let t = lt-ltb 0 (count x (cuts_in c)) (stripe_there (cuts_in c) i x (omega (arith, place, stripe_most (cuts_in c) x)) (sym least ∙ e) above) in
        whole ∙ rw t

    away : low ≢ x → count x (cuts_in c) ≡ 0
    away n = stripe_away (cuts_in c) rising x (λ e. n (least ∙ ap (stripe_low (cuts_in c)) place ∙ e))

    pub cut_room : low ≢ x → either (ltb 0 (count x (cuts_in c))) (ltb (length (cuts_in c)) max_cuts) ≡ true → c.n < max_cuts
    cut_room n v =
        either_cases (ltb 0 (count x (cuts_in c))) (ltb (length (cuts_in c)) max_cuts) v
        (λ t. absurd (omega (arith, ltb-true 0 (count x (cuts_in c)) t, away n)))
        (λ t. omega (arith, ltb-true (length (cuts_in c)) max_cuts t, whole_cuts c whole))

    pub cut_made : {r : CutList} → low ≢ x → r ≡ cut_list_of (insert_at (cuts_in c) i x) → r ≡ cut_list_of (add_cut x (cuts_in c))
    unfolding add_cut
    cut_made n e =
        let t = le-ltb 0 (count x (cuts_in c)) (omega (arith, away n)) in
        e ∙ rw t (ap cut_list_of (ap (λ (k : ℕ). insert_at (cuts_in c) k x) place ∙ sort_in-stripe (cuts_in c) 0 x rising (away n)))
