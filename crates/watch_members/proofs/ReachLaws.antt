-- Two edges take in what lies at most so far above the low one: the distance of a coordinate below it goes round the end of 16 bits, past every other.
use Rattle.std.proofs.Common.{◌≡◌, ℕ, ◌-◌, ◌<◌, ◌≤◌, Bool, true, false, not, ◌&&◌, eqb, ltb, leb, ◌≢◌, sym, refl, ◌∙◌, arith, ltb-true, lt-ltb, eq-eqb, eqb-true, le-leb, leb-false, leb-true}
use borrow.Author.Tests.{lt-leb}
use Rattle.terms.specs.Terms.{Place}
use Rattle.lists.specs.Tests.{both, either}
use Rattle.lists.proofs.Cases.{by_cases, false-true}
use Rattle.lists.proofs.TestsLaws.{both_tell}
use Rattle.rules.specs.Limits.{last_metre}
use Rattle.rules.specs.Grid.{Span, Rect, takes_in, covers}
use Rattle.watch_members.specs.Members.{voids, Reaches}

pub reach_last : (low high : ℕ) → high ≡ last_metre → low ≤ high → Reaches (record { low = low; high = high }) (high - low)
unfolding both either
reach_last low high e h x d small told =
    by_cases (leb d (high - low))
    (λ t. let k = leb-true d (high - low) t in rw (t, le-leb low x (omega arith), eq-eqb high last_metre e) (by_cases (ltb x high) (λ u. rw u) (λ u. rw u)))
    (λ t. let k = leb-false d (high - low) t in rw (t, lt-leb low x (omega arith)))

pub reach_inner : (low high : ℕ) → high < last_metre → low < high → Reaches (record { low = low; high = high }) (high - low - 1)
unfolding both either
reach_inner low high e h x d small told =
    by_cases (leb d (high - low - 1))
    (λ t. let k = leb-true d (high - low - 1) t in rw (t, le-leb low x (omega arith), lt-ltb x high (omega arith)))
    (λ t. let k = leb-false d (high - low - 1) t in
    by_cases (leb low x)
    (λ u. let j = leb-true low x u in
    rw (t, u) (by_cases (ltb x high) (λ v. let z = ltb-true x high v in absurd (omega arith)) (λ v. rw v (by_cases (eqb high last_metre) (λ w. let z = eqb-true high last_metre w in absurd (omega arith)) (λ w. rw w)))))
    (λ u. rw (t, u)))

-- ---- edges that take in nothing

pub void_told : (low high : ℕ) → (leb high low && not (eqb high last_metre)) ≡ voids (record { low = low; high = high })
void_told low high = both_tell _ _ refl refl

pub void_order : (low high : ℕ) → voids (record { low = low; high = high }) ≡ false → high ≢ last_metre → low < high
unfolding both
void_order low high e n =
    by_cases (leb high low)
    (λ t. by_cases (eqb high last_metre) (λ u. absurd (n (eqb-true high last_metre u))) (λ u. false-true (sym (rw (t, u) at e))))
    (λ t. leb-false high low t)

pub void_takes : (s : Span) → voids s ≡ true → (x : ℕ) → takes_in s x ≡ false
unfolding both either
void_takes s e x =
    by_cases (leb s.low x)
    (λ t. let j = leb-true s.low x t in
    by_cases (eqb s.high last_metre)
    (λ u. by_cases (leb s.high s.low) (λ v. false-true (rw (v, u) at e)) (λ v. false-true (rw v at e)))
    (λ u. by_cases (leb s.high s.low)
    (λ v. let k = leb-true s.high s.low v in rw (t, u) (by_cases (ltb x s.high) (λ w. let z = ltb-true x s.high w in absurd (omega arith)) (λ w. rw w)))
    (λ v. false-true (rw v at e))))
    (λ t. rw t)

pub void_across : (rect : Rect) {r : Bool} → r ≡ voids rect.easts → r ≡ true → (p : Place) → covers rect p ≡ false
unfolding both
void_across rect e t p = rw (void_takes rect.easts (sym e ∙ t) p.east)

pub void_up : (rect : Rect) {r : Bool} → r ≡ voids rect.norths → r ≡ true → (p : Place) → covers rect p ≡ false
unfolding both
void_up rect e t p = rw (void_takes rect.norths (sym e ∙ t) p.north) (by_cases (takes_in rect.easts p.east) (λ u. rw u) (λ u. rw u))

-- ---- both directions

pub reached_both : (rect : Rect) (p : Place) {a b : Bool} → a ≡ takes_in rect.easts p.east → b ≡ takes_in rect.norths p.north → (a && b) ≡ covers rect p
reached_both rect p e f = both_tell _ _ e f
