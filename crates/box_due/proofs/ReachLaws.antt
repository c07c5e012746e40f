-- How far the stripe of a coordinate reaches, cut by cut, in whatever order the cuts stand; and the reports within its reach.
use mathlib.Core.Bool.{Bool}
use mathlib.Core.List.{List, [], ◌∷◌, ◌++◌}
use mathlib.Core.Path.{◌≡◌, refl, sym, ap, ap₂, ◌∙◌}
use Prim.Native.Nat.{ℕ, ◌+◌, ◌-◌, ◌*◌, ◌≤◌, ◌<◌, min, max}
use native.Mathlib.Numerals.{add-one}
use native.Mathlib.Omega.{arith}
use lib.Dec.{leb, ltb}
use lib.ListN.{length, get_or, take}
use lib.Seq.{take-suc, take_all}
use borrow.Author.Tests.{lt-ltb, le-ltb, ltb-true, ltb-false, leb-true, leb-false, le-leb, lt-leb, eq-eqb, ne_eqb}
use Rattle.terms.specs.Terms.{Place}
use Rattle.lists.specs.Rows.{Row}
use Rattle.lists.specs.Sums.{sum_by}
use Rattle.lists.specs.Tests.{one_if, both}
use Rattle.lists.proofs.Cases.{by_cases}
use Rattle.lists.proofs.SumsLaws.{sum_last}
use Rattle.lists.proofs.TestsLaws.{one_if-le}
use Rattle.rules.specs.Limits.{last_metre, full_memory}
use Rattle.rules.specs.Grid.{Span, Rect, inside, Cuts, stripe, box_of}
use Rattle.rules.specs.Flush.{in_box}
use Rattle.rules.specs.Carry.{waiting_in}
use Rattle.rules.specs.Store.{Report as StoreReport}
use Rattle.rules.specs.WellFormed.{InSquare}
use Rattle.desk.specs.declared.CutList.{CutList}
use Rattle.desk.specs.Held.{Waiting, waiting_with}
use Rattle.desk.specs.Layout.{report_fields}
use Rattle.desk.specs.Views.{report_in, cuts_in, cuts_by}
use Rattle.desk.proofs.ReportsLaws.{report_read}
use Rattle.box_due.specs.declared.Reach.{Reach}
use Rattle.box_due.specs.Due.{span_in, bounded_by, Reaches}
use Rattle.waiting.specs.Waiting.{row_of, reports_of}
use Rattle.waiting.proofs.WaitingLaws.{no_row, every_size, length_reports, reports_get}
use Rattle.boxes.proofs.BoxLaws.{Counted, Counted_start, Counted_turn, Counted_end}

-- ---- one cut after the other

stripe_last : (cuts : List ℕ) (c y : ℕ) → stripe (cuts ++ (c ∷ [])) y ≡ stripe cuts y + one_if (leb c y)
unfolding stripe
stripe_last cuts c y = sum_last (λ d. one_if (leb d y)) cuts c

-- within the span the stripe is that of x; below it there are fewer cuts, above it more
pub record Around (cuts : List ℕ) (x : ℕ) (s : Span) : Type 0 where
  pub low : s.low ≤ x
  pub high : x ≤ s.high
  pub same : (y : ℕ) → s.low ≤ y → y ≤ s.high → stripe cuts y ≡ stripe cuts x
  pub below : (y : ℕ) → y < s.low → stripe cuts y < stripe cuts x
  pub above : (y : ℕ) → s.high < y → y ≤ last_metre → stripe cuts x < stripe cuts y

Around_start : (x : ℕ) → x ≤ last_metre → Around [] x (record { low = 0; high = last_metre })
unfolding stripe sum_by
Around_start x h = record { low = omega arith; high = h; same = λ y a b. refl; below = λ y a. absurd (omega arith); above = λ y a b. absurd (omega arith) }

module _ {cuts : List ℕ} {x : ℕ} {s : Span} (r : Around cuts x s) (c : ℕ) where
  abbrev more : List ℕ
  more = cuts ++ (c ∷ [])

  Around_past : c ≤ x → Around more x (record { low = max s.low c; high = s.high })
  Around_past h =
      let past : (y : ℕ) → c ≤ y → stripe more y ≡ stripe cuts y + 1 = λ y b. omega (arith, stripe_last cuts c y, ap one_if (le-leb c y b)) in
      let l = r.low in
      let g = r.high in
      record {
        low = omega arith;
        high = g;
        same = λ y a b. omega (arith, past y (omega arith), past x h, r.same y (omega arith) b);
        below = λ y a. by_cases (ltb y s.low)
            (λ t. omega (arith, stripe_last cuts c y, one_if-le (leb c y), past x h, r.below y (ltb-true y s.low t)))
            (λ t. let n = ltb-false y s.low t in omega (arith, stripe_last cuts c y, ap one_if (lt-leb c y (omega arith)), past x h, r.same y n (omega arith)));
        above = λ y a b. omega (arith, past y (omega arith), past x h, r.above y a b);
      }

  Around_before : x < c → Around more x (record { low = s.low; high = min s.high (c - 1) })
  Around_before h =
      let short : (y : ℕ) → y < c → stripe more y ≡ stripe cuts y = λ y b. omega (arith, stripe_last cuts c y, ap one_if (lt-leb c y b)) in
      let l = r.low in
      let g = r.high in
      record {
        low = l;
        high = omega arith;
        same = λ y a b. omega (arith, short y (omega arith), short x h, r.same y a (omega arith));
        below = λ y a. omega (arith, short y (omega arith), short x h, r.below y a);
        above = λ y a b. by_cases (ltb s.high y)
            (λ t. omega (arith, stripe_last cuts c y, short x h, r.above y (ltb-true s.high y t) b))
            (λ t. let n = ltb-false s.high y t in omega (arith, stripe_last cuts c y, ap one_if (le-leb c y (omega arith)), short x h, r.same y (omega arith) n));
      }

  Around-more : Around more x (bounded_by c x s)
  Around-more = by_cases (ltb x c) (λ t. rw t (Around_before (ltb-true x c t))) (λ t. rw t (Around_past (ltb-false x c t)))

Around-Reaches : {cuts : List ℕ} {x : ℕ} {s : Span} → Around cuts x s → Reaches cuts x s
unfolding both
Around-Reaches {cuts} {x} {s} r = record {
  same = λ y b. by_cases (leb s.low y)
      (λ t. by_cases (leb y s.high)
      (λ u. rw (t, u) (sym (eq-eqb (stripe cuts y) (stripe cuts x) (r.same y (leb-true s.low y t) (leb-true y s.high u)))))
      (λ u. rw (t, u) (sym (ne_eqb (stripe cuts y) (stripe cuts x) (λ z. omega (arith, z, r.above y (leb-false y s.high u) b))))))
      (λ t. rw t (sym (ne_eqb (stripe cuts y) (stripe cuts x) (λ z. omega (arith, z, r.below y (leb-false s.low y t))))));
}

module _ (reach : Reach) (cut x : ℕ) where
  pub bounded_high : {h : ℕ} → x < cut → h ≡ min reach.high (cut - 1) → record { low = reach.low; high = h } ≡ bounded_by cut x (span_in reach)
  bounded_high e f = rw (lt-ltb x cut e) (λ i. record { low = reach.low; high = f i })

  pub bounded_low : {l : ℕ} → cut ≤ x → l ≡ max reach.low cut → record { low = l; high = reach.high } ≡ bounded_by cut x (span_in reach)
  bounded_low e f = rw (le-ltb x cut e) (λ i. record { low = f i; high = reach.high })

-- ---- the cuts of the desk, one after the other

-- how far the stripe of x reaches by the first i cuts
pub record Reached (cuts : CutList) (x i : ℕ) (r : Reach) : Type 0 where
  pub so : Around (take i (cuts_in cuts)) x (span_in r)

pub Reached_start : (cuts : CutList) (x : ℕ) → x ≤ last_metre → Reached cuts x 0 (record { low = 0; high = last_metre })
Reached_start cuts x h = record { so = Around_start x h }

module _ (cuts : CutList) {x i : ℕ} {r : Reach} (c : Reached cuts x i r) where
  pub Reached_turn : {n : Reach} → i < length (take cuts.n cuts.at) → span_in n ≡ bounded_by (get_or (take cuts.n cuts.at) i 0) x (span_in r) → Reached cuts x (i + 1) n
  unfolding cuts_in
  Reached_turn h e = record { so = rw (add-one i, take-suc (take cuts.n cuts.at) i 0 h, e) (Around-more c.so (get_or (take cuts.n cuts.at) i 0)) }

  pub Reached_end : length (take cuts.n cuts.at) ≤ i → Reaches (cuts_in cuts) x (span_in r)
  unfolding cuts_in
  Reached_end h = Around-Reaches (rw (take_all i (take cuts.n cuts.at) h) at c.so)

-- ---- the reports within reach

abbrev area : Reach → Reach → Rect
area east_reach north_reach = record { easts = span_in east_reach; norths = span_in north_reach }

within_box : (cuts : Cuts) (p : Place) {east_reach north_reach : Reach} (x : Row StoreReport) → Reaches cuts.easts p.east (span_in east_reach) → Reaches cuts.norths p.north (span_in north_reach) → InSquare x.val.fix.place
    → inside (area east_reach north_reach) x.val.fix.place ≡ in_box cuts (box_of cuts p) x
unfolding in_box box_of
within_box cuts p x e n h = ap₂ both (e.same x.val.fix.place.east h.0) (n.same x.val.fix.place.north h.1)

-- how many of the first i reports wait in the memory cell that reaches so far, whatever the cuts
pub record Near (east_reach north_reach : Reach) (w : Waiting) (i s : ℕ) : Type 0 where
  pub so : (cuts : Cuts) (p : Place) → Reaches cuts.easts p.east (span_in east_reach) → Reaches cuts.norths p.north (span_in north_reach) → Counted (λ x. one_if (in_box cuts (box_of cuts p) x)) (reports_of w) i s

pub Near_start : (east_reach north_reach : Reach) (w : Waiting) → Near east_reach north_reach w 0 0
Near_start east_reach north_reach w = record { so = λ cuts p e n. Counted_start _ _ }

module _ {n : ℕ} {ws : List ℕ} (size : length ws ≡ report_fields * full_memory) (fits : n ≤ full_memory) {east_reach north_reach : Reach} {i s : ℕ} (c : Near east_reach north_reach (waiting_with n ws) i s) where
  -- the place of slot i, in its two columns
  abbrev there : Place
  there = record { east = get_or ws (full_memory + i) 0; north = get_or ws (2 * full_memory + i) 0 }

  abbrev its : Row StoreReport
  its = row_of (report_in full_memory ws i)

  its_row : i < n → its ≡ get_or (reports_of (waiting_with n ws)) i no_row
  its_row h = ap row_of (report_read ws i (omega arith) size) ∙ sym (reports_get (waiting_with n ws) (every_size ws size) fits i h)

  pub Near_turn : {t : ℕ} {b : Bool} → i < n → b ≡ inside (area east_reach north_reach) there → InSquare there → t ≡ one_if b → Near east_reach north_reach (waiting_with n ws) (i + 1) (s + t)
  Near_turn {t} {b} h e q f = record {
    so = λ cuts p u v. rw f (Counted_turn no_row (one_if b) (c.so cuts p u v) (rw (length_reports (waiting_with n ws) (every_size ws size) fits) h)
        (ap one_if (e ∙ within_box cuts p its u v q ∙ ap (in_box cuts (box_of cuts p)) (its_row h))) (one_if-le b));
  }

  pub Near_end : (easts norths : CutList) (p : Place) → Reaches (cuts_in easts) p.east (span_in east_reach) → Reaches (cuts_in norths) p.north (span_in north_reach) → n ≤ i
      → s ≡ waiting_in (cuts_by easts norths) (reports_of (waiting_with n ws)) (box_of (cuts_by easts norths) p)
  unfolding waiting_in
  Near_end easts norths p u v h = Counted_end (c.so (cuts_by easts norths) p u v) (rw (length_reports (waiting_with n ws) (every_size ws size) fits) h)
