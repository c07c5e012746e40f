-- Counts of squares that share a line add up: a coordinate lies in the one part or in the other, so a place does, so a list is parted.
use mathlib.Core.Path.{◌≡◌, refl}
use mathlib.Core.Bool.{Bool, true, false, not}
use mathlib.Core.List.{List, [], ◌∷◌}
use Rattle.std.specs.Prelude.{Option, None, Some}
use Prim.Native.Nat.{ℕ, ◌+◌, ◌≤◌, ◌<◌}
use native.Mathlib.Omega.{arith}
use lib.Dec.{eqb, ltb}
use borrow.Author.Tests.{eqb-true, ltb-true, ltb-false, lt-ltb, le-leb, lt-leb, ne_eqb}
use Rattle.terms.specs.Terms.{Place, Fix}
use Rattle.lists.specs.Rows.{Row, Rows, Rising}
use Rattle.lists.specs.Sums.{sum_by, keep}
use Rattle.lists.specs.Tests.{one_if, both, either}
use Rattle.lists.proofs.TestsLaws.{both-true}
use Rattle.lists.proofs.Cases.{by_cases}
use Rattle.rules.specs.Limits.{last_metre}
use Rattle.rules.specs.Grid.{Axis, eastward, northward, takes_in, Rect, covers}
use Rattle.rules.specs.Carry.{too_old, listed, list_if, list_of}
use Rattle.rules.specs.Squares.{low_part, high_part, CutAt, AddUp, times_in, NotTwice}
use Rattle.rules.proofs.LinkLaws.{Rising-list_of}

-- ---- a coordinate

pub takes_parted : (low c high x : ℕ) → low ≤ c → c ≤ high → c < last_metre
    → one_if (takes_in (record { low = low; high = high }) x)
    ≡ one_if (takes_in (record { low = low; high = c }) x) + one_if (takes_in (record { low = c; high = high }) x)
unfolding both either
takes_parted low c high x h k l =
    by_cases (ltb x c)
    (λ t. let u = ltb-true x c t in rw (t, lt-ltb x high (omega arith), lt-leb c x u) (omega arith))
    (λ t. let u = ltb-false x c t in rw (t, ne_eqb c last_metre (omega arith), le-leb c x u, le-leb low x (omega arith)) (omega arith))

-- ---- a place

-- of two tests, the one parted, or the other
parted_left : (a a₁ a₂ b : Bool) → one_if a ≡ one_if a₁ + one_if a₂ → one_if (both a b) ≡ one_if (both a₁ b) + one_if (both a₂ b)
unfolding both
parted_left true true true b e = absurd (omega (arith, e))
parted_left true true false b e = omega arith
parted_left true false true b e = omega arith
parted_left true false false b e = absurd (omega (arith, e))
parted_left false true a₂ b e = absurd (omega (arith, e))
parted_left false false true b e = absurd (omega (arith, e))
parted_left false false false b e = omega arith

parted_right : (a b b₁ b₂ : Bool) → one_if b ≡ one_if b₁ + one_if b₂ → one_if (both a b) ≡ one_if (both a b₁) + one_if (both a b₂)
unfolding both
parted_right true b b₁ b₂ e = e
parted_right false b b₁ b₂ e = omega arith

covers_parted : (axis : Axis) (r : Rect) (c : ℕ) → CutAt axis r c → (p : Place)
    → one_if (covers r p) ≡ one_if (covers (low_part axis c r) p) + one_if (covers (high_part axis c r) p)
covers_parted eastward r c k p = parted_left _ _ _ _ (takes_parted r.easts.low c r.easts.high p.east k.above k.below k.not_last)
covers_parted northward r c k p = parted_right _ _ _ _ (takes_parted r.norths.low c r.norths.high p.north k.above k.below k.not_last)

-- ---- a list

keep_parted : {A : Type 0} (f : A → ℕ) (x : A) (l l₁ l₂ : List A) (a a₁ a₂ : Bool) → one_if a ≡ one_if a₁ + one_if a₂
    → sum_by f l ≡ sum_by f l₁ + sum_by f l₂ → sum_by f (keep a x l) ≡ sum_by f (keep a₁ x l₁) + sum_by f (keep a₂ x l₂)
unfolding sum_by
keep_parted f x l l₁ l₂ true true true e h = absurd (omega (arith, e))
keep_parted f x l l₁ l₂ true true false e h = omega (arith, h)
keep_parted f x l l₁ l₂ true false true e h = omega (arith, h)
keep_parted f x l l₁ l₂ true false false e h = absurd (omega (arith, e))
keep_parted f x l l₁ l₂ false true a₂ e h = absurd (omega (arith, e))
keep_parted f x l l₁ l₂ false false true e h = absurd (omega (arith, e))
keep_parted f x l l₁ l₂ false false false e h = h

-- a further test that is the same for all three
both_parted : (b a a₁ a₂ : Bool) → one_if a ≡ one_if a₁ + one_if a₂ → one_if (both a b) ≡ one_if (both a₁ b) + one_if (both a₂ b)
both_parted true a a₁ a₂ e = rw (both-true a, both-true a₁, both-true a₂) e
both_parted false a a₁ a₂ e = rw (both-false a, both-false a₁, both-false a₂) refl
  where
    both-false : (c : Bool) → both c false ≡ false
    both-false true = unfold both in refl
    both-false false = unfold both in refl

module _ (minute : ℕ) (axis : Axis) (r : Rect) (c : ℕ) (k : CutAt axis r c) (f : Row Place → ℕ) where
  row_parted : (radio : ℕ) (o : Option Fix) (l l₁ l₂ : Rows Place) → sum_by f l ≡ sum_by f l₁ + sum_by f l₂
      → sum_by f (list_if r minute radio o l) ≡ sum_by f (list_if (low_part axis c r) minute radio o l₁) + sum_by f (list_if (high_part axis c r) minute radio o l₂)
  row_parted radio None l l₁ l₂ h = h
  row_parted radio (Some g) l l₁ l₂ h =
      keep_parted f (record { key = radio; val = g.place }) l l₁ l₂ (listed r minute g) (listed (low_part axis c r) minute g) (listed (high_part axis c r) minute g)
      (both_parted (not (too_old minute g)) _ _ _ (covers_parted axis r c k g.place)) h

pub add_up : AddUp
unfolding list_of
add_up minute latest [] axis r c k f = unfold sum_by in refl
add_up minute latest (x ∷ xs) axis r c k f = row_parted minute axis r c k f x.key (latest x.key) _ _ _ (add_up minute latest xs axis r c k f)

-- ---- no radio twice

times_above : (b radio : ℕ) (l : Rows Place) → Rising b l → radio ≤ b → times_in radio l ≡ 0
unfolding sum_by
times_above b radio [] a h = refl
times_above b radio (x ∷ xs) a h =
    let u = a.0 in
    let e : eqb radio x.key ≡ false = ne_eqb radio x.key (omega arith) in
    rw e (omega (arith, times_above x.key radio xs a.1 (omega arith)))

times_once : (b radio : ℕ) (l : Rows Place) → Rising b l → times_in radio l ≤ 1
unfolding sum_by
times_once b radio [] a = omega arith
times_once b radio (x ∷ xs) a =
    by_cases (eqb radio x.key)
    (λ t. let u = eqb-true radio x.key t in rw t (omega (arith, times_above x.key radio xs a.1 (omega arith))))
    (λ t. rw t (omega (arith, times_once x.key radio xs a.1)))

pub not_twice : NotTwice
not_twice minute latest on a axis r c k radio =
    let e = add_up minute latest on axis r c k (λ x. one_if (eqb radio x.key)) in
    let once = times_once 0 radio (list_of r minute latest on) (Rising-list_of r minute latest 0 on a) in
    omega (arith, e, once)
