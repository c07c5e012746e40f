-- Places, spans and rectangles: what the tests of them say, and a rectangle in two parts, cut or joined.
use mathlib.Core.Path.{◌≡◌, refl, sym, ap, ap₂, ◌∙◌, subst}
use mathlib.Core.Bool.{true, false}
use Prim.Native.Nat.{ℕ, ◌+◌, ◌-◌, ◌≤◌, ◌<◌, min, max}
use native.Mathlib.Omega.{arith}
use lib.Dec.{eqb, leb, ltb}
use borrow.Author.Tests.{le-leb, lt-leb, ltb-true, ltb-false, leb-true, leb-false, eqb-true, eq-eqb}
use Rattle.terms.specs.Terms.{Place}
use Rattle.lists.specs.Tests.{one_if, both}
use Rattle.lists.proofs.Cases.{by_cases}
use Rattle.lists.proofs.TestsLaws.{both_left, both_right, both_intro, both_comm, one_if_parts}
use Rattle.rules.specs.Grid.{Axis, eastward, northward, along, across, Span, within, same_span, Rect, span_of, with_span, inside, same_place}
use Rattle.rules.specs.Cut.{Cut, through}
use Rattle.rules.specs.Flush.{low_edges, high_edges, below, Side, lower, upper, beside, hull, joined_edges}

-- ---- places

pub same_place_refl : (p : Place) → same_place p p ≡ true
same_place_refl p = both_intro (eq-eqb p.east p.east refl) (eq-eqb p.north p.north refl)

pub same_place-true : (p q : Place) → same_place p q ≡ true → p ≡ q
same_place-true p q e =
    let east = eqb-true p.east q.east (both_left (eqb p.east q.east) (eqb p.north q.north) e) in
    let north = eqb-true p.north q.north (both_right (eqb p.east q.east) (eqb p.north q.north) e) in
    λ i. record { east = east i; north = north i }

-- ---- one coordinate

pub within-true : (s : Span) (x : ℕ) → s.low ≤ x → x ≤ s.high → within s x ≡ true
within-true s x h k = both_intro (le-leb s.low x h) (le-leb x s.high k)

pub within-low : (s : Span) (x : ℕ) → within s x ≡ true → s.low ≤ x
within-low s x t = leb-true s.low x (both_left (leb s.low x) (leb x s.high) t)

pub within-high : (s : Span) (x : ℕ) → within s x ≡ true → x ≤ s.high
within-high s x t = leb-true x s.high (both_right (leb s.low x) (leb x s.high) t)

pub within_before : (s : Span) (x : ℕ) → x < s.low → within s x ≡ false
unfolding both
within_before s x h = rw (lt-leb s.low x h)

pub within_after : (s : Span) (x : ℕ) → s.high < x → within s x ≡ false
within_after s x h = by_cases (within s x) (λ t. absurd (omega (arith, within-high s x t))) (λ t. t)

-- a span in two parts, the second above the first without a gap
pub span_parts : (s a b : Span) (x : ℕ) → s.low ≡ a.low → a.high + 1 ≡ b.low → s.high ≡ b.high → a.low ≤ a.high → b.low ≤ b.high
    → one_if (within s x) ≡ one_if (within a x) + one_if (within b x)
span_parts s a b x l m h o q =
    by_cases (ltb x a.low)
    (λ t. let g = ltb-true x a.low t in
    omega (arith, ap one_if (within_before s x (omega arith)), ap one_if (within_before a x g), ap one_if (within_before b x (omega arith))))
    (λ t. let g = ltb-false x a.low t in
    by_cases (leb x a.high)
    (λ u. let k = leb-true x a.high u in
    omega (arith, ap one_if (within-true s x (omega arith) (omega arith)), ap one_if (within-true a x g k), ap one_if (within_before b x (omega arith))))
    (λ u. let k = leb-false x a.high u in
    by_cases (leb x b.high)
    (λ v. let j = leb-true x b.high v in
    omega (arith, ap one_if (within-true s x (omega arith) (omega arith)), ap one_if (within_after a x k), ap one_if (within-true b x (omega arith) j)))
    (λ v. let j = leb-false x b.high v in
    omega (arith, ap one_if (within_after s x (omega arith)), ap one_if (within_after a x k), ap one_if (within_after b x j)))))

-- ---- a rectangle by its two directions

pub inside-along : (axis : Axis) (r : Rect) (p : Place) → inside r p ≡ true → within (span_of axis r) (along axis p) ≡ true
inside-along eastward r p t = both_left (within r.easts p.east) (within r.norths p.north) t
inside-along northward r p t = both_right (within r.easts p.east) (within r.norths p.north) t

-- either direction may be named first
pub inside_axis : (axis : Axis) (r : Rect) (p : Place)
    → inside r p ≡ both (within (span_of axis r) (along axis p)) (within (span_of (across axis) r) (along (across axis) p))
inside_axis eastward r p = refl
inside_axis northward r p = both_comm (within r.easts p.east) (within r.norths p.north)

-- cut in one direction, alike in the other
pub rect_parts : (axis : Axis) (r a b : Rect) (p : Place)
    → one_if (within (span_of axis r) (along axis p)) ≡ one_if (within (span_of axis a) (along axis p)) + one_if (within (span_of axis b) (along axis p))
    → span_of (across axis) a ≡ span_of (across axis) r → span_of (across axis) b ≡ span_of (across axis) r
    → one_if (inside r p) ≡ one_if (inside a p) + one_if (inside b p)
rect_parts axis r a b p e f g =
    let s = within (span_of (across axis) r) (along (across axis) p) in
    let x = along axis p in
    rw (inside_axis axis r p, inside_axis axis a p, inside_axis axis b p, f, g)
    (one_if_parts (within (span_of axis r) x) (within (span_of axis a) x) (within (span_of axis b) x) s e)

pub span_same : (axis : Axis) (s : Span) (r : Rect) → span_of axis (with_span axis s r) ≡ s
span_same eastward s r = refl
span_same northward s r = refl

pub span_across : (axis : Axis) (s : Span) (r : Rect) → span_of (across axis) (with_span axis s r) ≡ span_of (across axis) r
span_across eastward s r = refl
span_across northward s r = refl

pub inside_span : (axis : Axis) (s : Span) (r : Rect) (p : Place) → inside r p ≡ true → within s (along axis p) ≡ true → inside (with_span axis s r) p ≡ true
inside_span eastward s r p t h = both_intro h (inside-along northward r p t)
inside_span northward s r p t h = both_intro (inside-along eastward r p t) h

-- ---- a rectangle cut in two

pub through-low : (s : Span) (c : ℕ) → through s c ≡ true → s.low < c
through-low s c t = ltb-true s.low c (both_left (ltb s.low c) (leb c s.high) t)

pub through-high : (s : Span) (c : ℕ) → through s c ≡ true → c ≤ s.high
through-high s c t = leb-true c s.high (both_right (ltb s.low c) (leb c s.high) t)

abbrev pub low_span : Span → ℕ → Span
low_span s c = record { low = s.low; high = c - 1 }

abbrev pub high_span : Span → ℕ → Span
high_span s c = record { low = c; high = s.high }

-- each place of the rectangle lies on one side
pub inside_cut : (c : Cut) (r : Rect) (p : Place) → through (span_of c.axis r) c.at ≡ true → one_if (inside r p) ≡ one_if (inside (low_edges c r) p) + one_if (inside (high_edges c r) p)
inside_cut c r p t =
    let axis = c.axis in
    let s = span_of axis r in
    let k = through-low s c.at t in
    let j = through-high s c.at t in
    let low = low_span s c.at in
    let high = high_span s c.at in
    rect_parts axis r (low_edges c r) (high_edges c r) p
    (rw (span_same axis low r, span_same axis high r) (span_parts s low high (along axis p) refl (omega arith) refl (omega arith) (omega arith)))
    (span_across axis low r)
    (span_across axis high r)

-- a place of the rectangle lies on the side that its coordinate tells
pub inside_low : (c : Cut) (r : Rect) (p : Place) → inside r p ≡ true → ltb (along c.axis p) c.at ≡ true → inside (low_edges c r) p ≡ true
inside_low c r p t h =
    let axis = c.axis in
    let s = span_of axis r in
    let x = along axis p in
    let k = ltb-true x c.at h in
    inside_span axis (low_span s c.at) r p t (within-true (low_span s c.at) x (within-low s x (inside-along axis r p t)) (omega arith))

pub inside_high : (c : Cut) (r : Rect) (p : Place) → inside r p ≡ true → ltb (along c.axis p) c.at ≡ false → inside (high_edges c r) p ≡ true
inside_high c r p t h =
    let axis = c.axis in
    let s = span_of axis r in
    let x = along axis p in
    inside_span axis (high_span s c.at) r p t (within-true (high_span s c.at) x (ltb-false x c.at h) (within-high s x (inside-along axis r p t)))

-- ---- two rectangles joined

span_eq : (s t : Span) → same_span s t ≡ true → s ≡ t
span_eq s t e =
    let low = eqb-true s.low t.low (both_left (eqb s.low t.low) (eqb s.high t.high) e) in
    let high = eqb-true s.high t.high (both_right (eqb s.low t.low) (eqb s.high t.high) e) in
    λ i. record { low = low i; high = high i }

pub hull_left : (s t : Span) (x : ℕ) → within s x ≡ true → within (hull s t) x ≡ true
hull_left s t x h = within-true (hull s t) x (omega (arith, within-low s x h)) (omega (arith, within-high s x h))

pub hull_right : (s t : Span) (x : ℕ) → within t x ≡ true → within (hull s t) x ≡ true
hull_right s t x h = within-true (hull s t) x (omega (arith, within-low t x h)) (omega (arith, within-high t x h))

pub hull_same : (s t : Span) → s ≡ t → hull s t ≡ s
hull_same s t e =
    let low : min s.low t.low ≡ s.low = omega (arith, ap (λ (u : Span). u.low) e) in
    let high : max s.high t.high ≡ s.high = omega (arith, ap (λ (u : Span). u.high) e) in
    λ i. record { low = low i; high = high i }

hull_comm : (s t : Span) → hull s t ≡ hull t s
hull_comm s t =
    let low : min s.low t.low ≡ min t.low s.low = omega arith in
    let high : max s.high t.high ≡ max t.high s.high = omega arith in
    λ i. record { low = low i; high = high i }

-- either rectangle may be named first
pub joined_comm : (r s : Rect) → joined_edges r s ≡ joined_edges s r
joined_comm r s = ap₂ (λ (e n : Span). record { easts = e; norths = n }) (hull_comm r.easts s.easts) (hull_comm r.norths s.norths)

pub hull_touch : (s t : Span) (x : ℕ) → s.low ≤ s.high → t.low ≤ t.high → s.high + 1 ≡ t.low → one_if (within (hull s t) x) ≡ one_if (within s x) + one_if (within t x)
hull_touch s t x h k m = span_parts (hull s t) s t x (omega arith) m (omega arith) h k

-- the direction in which two rectangles touch, and the other, in which they are alike
pub below_spans : (axis : Axis) (r s : Rect) → below axis r s ≡ true → ((span_of axis r).high + 1 ≡ (span_of axis s).low) × (span_of (across axis) r ≡ span_of (across axis) s)
unfolding below
below_spans axis r s e =
    let t = eqb ((span_of axis r).high + 1) (span_of axis s).low in
    let u = same_span (span_of (across axis) r) (span_of (across axis) s) in
    (eqb-true ((span_of axis r).high + 1) (span_of axis s).low (both_left t u e), span_eq (span_of (across axis) r) (span_of (across axis) s) (both_right t u e))

pub joined_span : (axis : Axis) (r s : Rect) → span_of axis (joined_edges r s) ≡ hull (span_of axis r) (span_of axis s)
joined_span eastward r s = refl
joined_span northward r s = refl

-- spans without a gap hold what lies from end to end
hull_cases : {P : Type 0} (s t : Span) (x : ℕ) → s.high + 1 ≡ t.low → within (hull s t) x ≡ true → (within s x ≡ true → P) → (within t x ≡ true → P) → P
hull_cases s t x z i f g =
    let l = within-low (hull s t) x i in
    let u = within-high (hull s t) x i in
    by_cases (leb x s.high)
    (λ v. let y = leb-true x s.high v in f (within-true s x (omega arith) (omega arith)))
    (λ v. let y = leb-false x s.high v in g (within-true t x (omega arith) (omega arith)))

pub inside_joined_left : (r s : Rect) (p : Place) → inside r p ≡ true → inside (joined_edges r s) p ≡ true
inside_joined_left r s p h =
    both_intro (hull_left r.easts s.easts p.east (inside-along eastward r p h)) (hull_left r.norths s.norths p.north (inside-along northward r p h))

pub inside_joined_right : (r s : Rect) (p : Place) → inside s p ≡ true → inside (joined_edges r s) p ≡ true
inside_joined_right r s p h =
    both_intro (hull_right r.easts s.easts p.east (inside-along eastward s p h)) (hull_right r.norths s.norths p.north (inside-along northward s p h))

-- a place of the two together lies in one of them
inside-below_cases : {P : Type 0} (axis : Axis) (r s : Rect) (p : Place) → below axis r s ≡ true → inside (joined_edges r s) p ≡ true → (inside r p ≡ true → P) → (inside s p ≡ true → P) → P
inside-below_cases axis r s p b i f g =
    let q = below_spans axis r s b in
    let here = ap (λ (t : Span). within t (along axis p)) (sym (joined_span axis r s)) ∙ inside-along axis (joined_edges r s) p i in
    let whole = joined_span (across axis) r s ∙ hull_same (span_of (across axis) r) (span_of (across axis) s) q.1 in
    let there = ap (λ (t : Span). within t (along (across axis) p)) (sym whole) ∙ inside-along (across axis) (joined_edges r s) p i in
    hull_cases (span_of axis r) (span_of axis s) (along axis p) q.0 here
    (λ w. f (inside_axis axis r p ∙ both_intro w there))
    (λ w. g (inside_axis axis s p ∙ both_intro w (ap (λ (t : Span). within t (along (across axis) p)) (sym q.1) ∙ there)))

pub inside_joined_cases : {P : Type 0} (side : Side) (r s : Rect) (p : Place) → beside side r s ≡ true → inside (joined_edges r s) p ≡ true → (inside r p ≡ true → P) → (inside s p ≡ true → P) → P
inside_joined_cases (lower axis) r s p b i f g = inside-below_cases axis s r p b (subst (λ (t : Rect). inside t p ≡ true) (joined_comm r s) i) g f
inside_joined_cases (upper axis) r s p b i f g = inside-below_cases axis r s p b i f g

pub inside_joined_le : (side : Side) (r s : Rect) (p : Place) → beside side r s ≡ true → one_if (inside (joined_edges r s) p) ≤ one_if (inside r p) + one_if (inside s p)
inside_joined_le side r s p b =
    by_cases (inside (joined_edges r s) p)
    (λ t. inside_joined_cases side r s p b t (λ w. omega (arith, ap one_if t, ap one_if w)) (λ w. omega (arith, ap one_if t, ap one_if w)))
    (λ t. omega (arith, ap one_if t))
