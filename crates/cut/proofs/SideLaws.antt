-- One cut: how many entries lie on its low side, and what it leaves on each.
use mathlib.Core.List.{List, [], ◌∷◌, ◌++◌, map, map-append}
use mathlib.Core.Path.{◌≡◌, refl, ap, ◌∙◌}
use Prim.Native.Nat.{ℕ, ◌+◌, ◌-◌, ◌≤◌, ◌<◌}
use native.Mathlib.Omega.{arith}
use native.Mathlib.Numerals.{add-one}
use lib.Dec.{leb, ltb}
use lib.ListN.{length, get_or, set, take}
use lib.Seq.{take-suc, take-suc-set}
use Rattle.std.proofs.Math.Seq.{take-length}
use borrow.Author.Tests.{lt-ltb, le-ltb, le-leb, lt-leb}
use Rattle.terms.specs.Terms.{Fix, page_entries}
use Rattle.lists.specs.Rows.{Row}
use Rattle.lists.specs.Sums.{sum_by}
use Rattle.lists.specs.Tests.{one_if, both}
use Rattle.lists.proofs.SumsLaws.{sum_last}
use Rattle.entries.specs.declared.Entry.{Entry}
use Rattle.entries.specs.Entries.{no_entry, place_of, row_of, rows_of}
use Rattle.rules.specs.Limits.{last_metre}
use Rattle.rules.specs.Grid.{Axis, along, span_of}
use Rattle.rules.specs.Cut.{through}
use Rattle.desk.specs.declared.Slot.{Slot}
use Rattle.desk.specs.Views.{edges_of}
use Rattle.cut.specs.Choice.{coordinates, below}

-- ---- a column laid out

pub column_start : (axis : Axis) → [] ≡ coordinates axis []
unfolding coordinates
column_start axis = refl

coordinates_snoc : (axis : Axis) (es : List Entry) (e : Entry) → coordinates axis (rows_of (es ++ (e ∷ []))) ≡ coordinates axis (rows_of es) ++ (along axis (place_of e) ∷ [])
unfolding coordinates
coordinates_snoc axis es e = ap (map (λ (x : Row Fix). along axis x.val.place)) (map-append row_of es (e ∷ [])) ∙ map-append (λ (x : Row Fix). along axis x.val.place) (rows_of es) (row_of e ∷ [])

pub column_turn : (axis : Axis) (es : List Entry) (i : ℕ) (column : List ℕ) {x : ℕ} → i < length es → i < length column
    → take i column ≡ coordinates axis (rows_of (take i es)) → x ≡ along axis (place_of (get_or es i no_entry))
    → take (i + 1) (set column i x) ≡ coordinates axis (rows_of (take (i + 1) es))
column_turn axis es i column {x} h g e f =
    rw (add-one, take-suc-set column i x g, take-suc es i no_entry h, coordinates_snoc axis (take i es) (get_or es i no_entry), e, f)

-- ---- how many lie below a coordinate

pub one_low : (x at : ℕ) → x < at → 1 ≡ one_if (ltb x at)
one_low x at h = rw (lt-ltb x at h)

pub one_high : (x at : ℕ) → at ≤ x → 0 ≡ one_if (ltb x at)
one_high x at h = rw (le-ltb x at h)

pub low_start : (at : ℕ) (xs : List ℕ) → 0 ≡ below at (take 0 xs)
unfolding below sum_by
low_start at xs = refl

module _ (xs : List ℕ) {i : ℕ} where
  pub low_turn : (at : ℕ) {low b : ℕ} → i < length xs → low ≡ below at (take i xs) → b ≡ one_if (ltb (get_or xs i 0) at) → low + b ≡ below at (take (i + 1) xs)
  unfolding below
  low_turn at {low} {b} h e f =
      rw (add-one, take-suc xs i 0 h, sum_last (λ x. one_if (ltb x at)) (take i xs) (get_or xs i 0)) (omega arith)

  pub all_turn : i < length xs → i ≡ below (last_metre + 1) (take i xs) → get_or xs i 0 ≤ last_metre → i + 1 ≡ below (last_metre + 1) (take (i + 1) xs)
  all_turn h e f = low_turn (last_metre + 1) h e (one_low (get_or xs i 0) (last_metre + 1) (omega arith))

  pub low_end : (at : ℕ) {low : ℕ} → i ≤ length xs → length xs ≤ i → low ≡ below at (take i xs) → low ≡ below at xs
  low_end at h g e = let z : i ≡ length xs = omega arith in e ∙ ap (λ (k : ℕ). below at (take k xs)) z ∙ ap (below at) (take-length xs)

  pub all_end : i ≤ length xs → length xs ≤ i → i ≡ below (last_metre + 1) (take i xs) → below (last_metre + 1) xs ≡ length xs
  all_end h g e = let z = low_end (last_metre + 1) h g e in omega arith

-- ---- the two sides

module _ (n low : ℕ) where
  pub fits_low : low ≤ page_entries → leb (n - low) page_entries ≡ both (leb low page_entries) (leb (n - low) page_entries)
  unfolding both
  fits_low h = rw (le-leb low page_entries h)

  pub fits_not : page_entries < low → leb low page_entries ≡ both (leb low page_entries) (leb (n - low) page_entries)
  unfolding both
  fits_not h = rw (lt-leb low page_entries h)

module _ (d : Slot) (axis : Axis) (at : ℕ) {low : ℕ} (e : low ≡ (span_of axis (edges_of d)).low) where
  pub crosses_low : {high : ℕ} → low < at → high ≡ (span_of axis (edges_of d)).high → leb at high ≡ through (span_of axis (edges_of d)) at
  unfolding both
  crosses_low h f = rw (← e, ← f, lt-ltb low at h)

  pub crosses_not : at ≤ low → ltb low at ≡ through (span_of axis (edges_of d)) at
  unfolding both
  crosses_not h = rw (← e, le-ltb low at h)
