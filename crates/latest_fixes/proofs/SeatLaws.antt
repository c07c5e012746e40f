-- The loop that writes where each radio on stands: those passed stand where they say. The radios rise, so no later one writes over an earlier.
use mathlib.Core.List.{List, map}
use mathlib.Core.Path.{◌≡◌, sym, ap, ◌∙◌}
use Prim.Native.Nat.{ℕ, suc, ◌+◌, ◌-◌, ◌≤◌, ◌<◌}
use native.Mathlib.Omega.{arith}
use native.Mathlib.Numerals.{add-one}
use lib.Dec.{eqb}
use lib.ListN.{length, get_or, set, length-set, length-map, get_or-map}
use lib.Seq.{get_or-set_same, get_or-set_other}
use borrow.Author.Tests.{eqb-true, eqb-false, eq-eqb, ne_eqb}
use Rattle.std.specs.Prelude.{None, Some}
use Rattle.terms.specs.Terms.{max_radio, max_on}
use Rattle.lists.specs.Rows.{Rising, UpTo}
use Rattle.lists.proofs.TestsLaws.{Each-get_or}
use Rattle.lists.proofs.Cases.{by_cases}
use Rattle.lists.proofs.SearchLaws.{Rising_order}
use Rattle.desk.specs.Views.{radio_row}
use Rattle.memo_index.specs.Index.{table_size, Blank}
use Rattle.latest_fixes.specs.Fixes.{SeatsOf, seated, seat_in}

-- ---- radios that rise differ

module _ (radios : List ℕ) where
  key_at : (i : ℕ) → (get_or (map radio_row radios) i (radio_row 0)).key ≡ get_or radios i 0
  key_at i = ap (λ x. x.key) (get_or-map radio_row radios i 0)

  below : Rising 0 (map radio_row radios) → (i j : ℕ) → i < length radios → j < i → get_or radios j 0 < get_or radios i 0
  below rising i j h k =
      let less = Rising_order 0 (map radio_row radios) j i (radio_row 0) rising k (omega (arith, length-map radios radio_row)) in
      omega (arith, key_at i, key_at j)

-- ---- the loop

-- the first i stand where they say
pub record Seating (radios : List ℕ) (i : ℕ) (seats : List ℕ) : Type 0 where
  pub size : length seats ≡ table_size
  pub place : (q : ℕ) → get_or seats q 0 ≤ i
  pub own : (j : ℕ) → j < i → (r : ℕ) → eqb (get_or seats r 0) (suc j) ≡ eqb (get_or radios j 0) r

pub Seating_start : (radios : List ℕ) {seats : List ℕ} → Blank seats → Seating radios 0 seats
Seating_start radios z = record { size = z.size; place = λ q. omega (arith, z.zeros q); own = λ j h r. absurd (omega arith) }

pub Seating_end : {radios seats : List ℕ} {i : ℕ} → Seating radios i seats → i ≤ length radios → length radios ≤ i → length radios ≤ max_on → SeatsOf radios seats
Seating_end s g h few = record { places = record { place = λ q. let p = s.place q in omega arith }; own = λ j k. s.own j (omega arith) }

module _ (radios : List ℕ) (i : ℕ) (rising : Rising 0 (map radio_row radios)) (more : i < length radios) {seats : List ℕ} (s : Seating radios i seats)
    {k v : ℕ} (at : k ≡ get_or radios i 0) (inside : k < table_size) (told : v ≡ i + 1) where
  seat_same : (q : ℕ) → q ≡ k → get_or (set seats k v) q 0 ≡ suc i
  seat_same q e = ap (λ (j : ℕ). get_or (set seats k v) j 0) e ∙ get_or-set_same seats k v 0 (omega (arith, s.size)) ∙ told ∙ add-one i

  -- a radio passed before stands below this one
  same_own : (j : ℕ) → j < i + 1 → (r : ℕ) → r ≡ k → eqb (get_or (set seats k v) r 0) (suc j) ≡ eqb (get_or radios j 0) r
  same_own j h r e =
      by_cases (eqb j i)
      (λ t. let z = eqb-true j i t in
      eq-eqb (get_or (set seats k v) r 0) (suc j) (seat_same r e ∙ ap suc (sym z)) ∙ sym (eq-eqb (get_or radios j 0) r (ap (λ (x : ℕ). get_or radios x 0) z ∙ sym at ∙ sym e)))
      (λ t. let z = eqb-false j i t in
      let less = below radios rising i j more (omega (arith, z)) in
      ne_eqb (get_or (set seats k v) r 0) (suc j) (λ y. absurd (omega (arith, z, seat_same r e))) ∙ sym (ne_eqb (get_or radios j 0) r (λ y. absurd (omega arith))))

  other_own : (j : ℕ) → j < i + 1 → (r : ℕ) → (r ≡ k → ⊥) → eqb (get_or (set seats k v) r 0) (suc j) ≡ eqb (get_or radios j 0) r
  other_own j h r n =
      ap (λ (x : ℕ). eqb x (suc j)) (get_or-set_other seats k r v 0 n)
      ∙ by_cases (eqb j i)
      (λ t. let z = eqb-true j i t in
      ne_eqb (get_or seats r 0) (suc j) (λ y. absurd (omega (arith, s.place r))) ∙ sym (ne_eqb (get_or radios j 0) r (λ y. n (sym y ∙ ap (λ (x : ℕ). get_or radios x 0) z ∙ sym at))))
      (λ t. let z = eqb-false j i t in s.own j (omega (arith, z)) r)

  pub Seating_turn : Seating radios (i + 1) (set seats k v)
  Seating_turn = record {
    size = length-set seats k v ∙ s.size;
    place = λ q. by_cases (eqb q k)
        (λ t. omega (arith, seat_same q (eqb-true q k t)))
        (λ t. omega (arith, get_or-set_other seats k q v 0 (eqb-false q k t), s.place q));
    own = λ j h r. by_cases (eqb r k) (λ t. same_own j h r (eqb-true r k t)) (λ t. other_own j h r (eqb-false r k t));
  }

-- a radio on is one of those that may be
pub radio_small : (radios : List ℕ) (i : ℕ) → i < length radios → UpTo max_radio (map radio_row radios) → get_or radios i 0 ≤ max_radio
radio_small radios i h u = omega (arith, key_at radios i, Each-get_or (λ x. x.key ≤ max_radio) (map radio_row radios) i (radio_row 0) u (omega (arith, length-map radios radio_row)))

-- ---- where a radio stands

pub seat_none : (seats : List ℕ) (r : ℕ) → get_or seats r 0 ≡ 0 → None ≡ seat_in seats r
seat_none seats r e = rw e

pub seat_some : (seats : List ℕ) (r : ℕ) → (get_or seats r 0 ≡ 0 → ⊥) → Some (get_or seats r 0 - 1) ≡ seat_in seats r
seat_some seats r n = let e : get_or seats r 0 ≡ suc (get_or seats r 0 - 1) = omega (arith, n) in sym (ap seated e)
