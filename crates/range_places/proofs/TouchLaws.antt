-- A range touches a cell exactly if some place of the cell lies in it: for a coordinate, then for both.
use mathlib.Core.Path.{◌≡◌}
use mathlib.Core.Bool.{true}
use Prim.Native.Nat.{ℕ, ◌≤◌}
use native.Mathlib.Omega.{arith}
use lib.Dec.{eqb, ltb}
use borrow.Author.Tests.{leb-true, le-leb, ltb-true, ltb-false, lt-ltb}
use Rattle.terms.specs.Terms.{Place}
use Rattle.lists.specs.Tests.{both}
use Rattle.lists.proofs.Cases.{by_cases}
use Rattle.lists.proofs.TestsLaws.{both_left, both_right, both_intro, either_cases, either_left, either_right}
use Rattle.rules.specs.Limits.{last_metre}
use Rattle.rules.specs.Grid.{Span, within, takes_in, Rect, inside, covers}
use Rattle.range_places.specs.Places.{meets, touches}

-- ---- a coordinate

-- a range that takes in a coordinate takes in what lies from its low edge up to it
below_taken : (s : Span) (x y : ℕ) → takes_in s x ≡ true → s.low ≤ y → y ≤ x → takes_in s y ≡ true
below_taken s x y h k l =
    both_intro (le-leb s.low y k)
    (either_cases (ltb x s.high) (eqb s.high last_metre) (both_right _ _ h)
    (λ t. either_left (eqb s.high last_metre) (lt-ltb y s.high (let u = ltb-true x s.high t in omega arith)))
    (λ t. either_right (ltb y s.high) t))

pub taken_meets : (s t : Span) (x : ℕ) → takes_in s x ≡ true → within t x ≡ true → meets s t ≡ true
taken_meets s t x h k =
    let low = leb-true s.low x (both_left _ _ h) in
    let cell = leb-true t.low x (both_left _ _ k) in
    let high = leb-true x t.high (both_right _ _ k) in
    by_cases (ltb t.low s.low)
    (λ u. let v = ltb-true t.low s.low u in
    either_right (takes_in s t.low)
    (both_intro (both_intro (le-leb t.low s.low (omega arith)) (le-leb s.low t.high (omega arith))) (below_taken s x s.low h (omega arith) low)))
    (λ u. let v = ltb-false t.low s.low u in either_left _ (below_taken s x t.low h (omega arith) cell))

-- the coordinate in common; a cell's low edge is not above its high one
pub meets_taken : (s t : Span) → t.low ≤ t.high → meets s t ≡ true → (x : ℕ) × (takes_in s x ≡ true) × (within t x ≡ true)
meets_taken s t fits h =
    either_cases (takes_in s t.low) (both (within t s.low) (takes_in s s.low)) h
    (λ u. (t.low, u, both_intro (le-leb t.low t.low (omega arith)) (le-leb t.low t.high fits)))
    (λ u. (s.low, both_right _ _ u, both_left _ _ u))

-- ---- a place

pub covered_touches : (a b : Rect) (p : Place) → covers a p ≡ true → inside b p ≡ true → touches a b ≡ true
unfolding touches
covered_touches a b p h k =
    both_intro (taken_meets a.easts b.easts p.east (both_left _ _ h) (both_left _ _ k))
    (taken_meets a.norths b.norths p.north (both_right _ _ h) (both_right _ _ k))

pub touches_covered : (a b : Rect) → b.easts.low ≤ b.easts.high → b.norths.low ≤ b.norths.high → touches a b ≡ true
    → (p : Place) × (covers a p ≡ true) × (inside b p ≡ true)
unfolding touches
touches_covered a b wide high h =
    let e = meets_taken a.easts b.easts wide (both_left _ _ h) in
    let n = meets_taken a.norths b.norths high (both_right _ _ h) in
    (record { east = e.0; north = n.0 }, both_intro e.1 n.1, both_intro e.2 n.2)
