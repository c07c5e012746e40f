-- Who is on, in the desk's slots, as rows: the same laws as of the waiting reports.
use mathlib.Core.Bool.{true, false}
use mathlib.Core.List.{List, [], ◌∷◌, map}
use Rattle.std.specs.Prelude.{None, Some, Result, IfOk, IfErr}
use Rattle.std.specs.List.{copy_within}
use Rattle.std.specs.List.Sorted.{IsSearchInRange, IsBinarySearchResult}
use Rattle.std.specs.Ordering.{nat_cmp}
use mathlib.Core.Path.{◌≡◌, refl, sym, ap, ◌∙◌}
use Prim.Native.Nat.{ℕ, ◌+◌, ◌-◌, ◌≤◌, ◌<◌}
use native.Mathlib.Omega.{arith}
use lib.ListN.{length, get_or, set, take, length-map}
use lib.Seq.{set-get_or}
use Rattle.terms.specs.Terms.{max_on}
use Rattle.lists.specs.Rows.{Row, Rows, Rising, find, alter, insert, IsAt, IsGapFor}
use Rattle.lists.specs.Tests.{is_some}
use Rattle.lists.proofs.AlterLaws.{find_at, alter_at, alter_at_none, alter_gap, alter_gap_none}
use Rattle.lists.proofs.KeyedLaws.{searched}
use Rattle.lists.proofs.ShiftLaws.{open_moved, close_moved}
use Rattle.desk.specs.Held.{On, on_with}
use Rattle.desk.specs.Layout.{on_of}
use Rattle.desk.specs.Views.{radio_row, radios_of}
use Rattle.desk.proofs.SlotsLaws.{length-slotted, Slots, Slots_open, Slots_close}
use Rattle.desk.proofs.UniqueLaws.{take_on}
use Rattle.waiting.specs.On.{WholeOn}

-- ---- the same rows, as the desk's array and as a list

abbrev pub no_radio : Row (Unit {0})
no_radio = record { key = 0; val = tt }

rows_radios : (l : Rows (Unit {0})) → map radio_row (map (λ x. x.key) l) ≡ l
rows_radios [] = refl
rows_radios (x ∷ xs) = ap (λ (r : Rows (Unit {0})). x ∷ r) (rows_radios xs)

-- what is laid out is read back
pub radios_on_of : (l : Rows (Unit {0})) → radios_of (on_of l) ≡ l
unfolding radios_of
radios_on_of l = ap (map radio_row) (take_on l) ∙ rows_radios l

pub radios_laid : {o : On} {l : Rows (Unit {0})} → o ≡ on_of l → radios_of o ≡ l
radios_laid {o} {l} e = ap radios_of e ∙ radios_on_of l

pub WholeOn_laid : (o : On) (l : Rows (Unit {0})) → o ≡ on_of l → WholeOn o
WholeOn_laid o l e = e ∙ ap on_of (sym (radios_laid e))

pub count_on_laid : (o : On) (l : Rows (Unit {0})) → o ≡ on_of l → o.n ≡ length l
unfolding on_of
count_on_laid o l e = ap (λ (x : On). x.n) e

abbrev InSlots : Rows (Unit {0}) → ℕ → List ℕ → Type 0
InSlots = Slots max_on 0 (λ x. x.key)

in_Slots : (o : On) → WholeOn o → InSlots (radios_of o) o.n o.radios
unfolding on_of
in_Slots o e = record { count = ap (λ (x : On). x.n) e; list = ap (λ (x : On). x.radios) e }

-- the array has room for as many radios as may be on
pub on_size : {n : ℕ} {xs : List ℕ} → WholeOn (on_with n xs) → n ≤ max_on → length xs ≡ max_on
on_size {n} {xs} e h =
    let l = radios_of (on_with n xs) in
    let s = in_Slots (on_with n xs) e in
    ap length s.list ∙ length-slotted max_on 0 (map (λ x. x.key) l) (rw (length-map l (λ x. x.key), ← s.count) h)

laid_Slots : {l : Rows (Unit {0})} {n : ℕ} {xs : List ℕ} → InSlots l n xs → on_with n xs ≡ on_of l
unfolding on_of
laid_Slots s = let a = s.count in let b = s.list in λ i. record { n = a i; radios = b i }

-- ---- where a radio stands

pub on_searched : (n : ℕ) (xs : List ℕ) → Rising 0 (radios_of (on_with n xs)) → (r : ℕ) (o : Result ℕ ℕ) → IsSearchInRange o (length (take n xs)) → IsBinarySearchResult (λ x. nat_cmp x r) (take n xs) o
    → record { found : IfOk o (IsAt (radios_of (on_with n xs)) r); absent : IfErr o (IsGapFor (radios_of (on_with n xs)) r) }
unfolding radios_of
on_searched n xs rising r o bound said = searched radio_row 0 (take n xs) rising r o bound said

module _ {n : ℕ} {xs : List ℕ} {r k : ℕ} (whole : WholeOn (on_with n xs)) (rising : Rising 0 (radios_of (on_with n xs))) where
  -- the radio is on
  module _ (at : IsAt (radios_of (on_with n xs)) r k) where
    pub on_inside : k < n
    on_inside = let e = count_on_laid (on_with n xs) (radios_of (on_with n xs)) whole in let i = at.inside in omega arith

    -- so there is one to take away
    pub one_on : 1 ≤ n
    one_on = let h = on_inside in omega arith

    pub is_on_at : true ≡ is_some (find (radios_of (on_with n xs)) r)
    is_on_at = rw (find_at (radios_of (on_with n xs)) rising r at no_radio)

    pub sign_on_at : on_with n xs ≡ on_of (insert r tt (radios_of (on_with n xs)))
    sign_on_at =
        let l = radios_of (on_with n xs) in
        let q : get_or l k no_radio ≡ radio_row r = let h = at.here no_radio in λ i. record { key = h i; val = tt } in
        whole ∙ ap on_of (sym (alter_at (λ _. Some tt) l rising r no_radio tt at refl ∙ ap (set l k) (sym q) ∙ set-get_or l k no_radio))

    pub sign_off_at : {ys : List ℕ} → n ≤ max_on → ys ≡ copy_within xs (k + 1) n k → on_with (n - 1) (set ys (n - 1) 0) ≡ on_of (alter (λ _. None) r (radios_of (on_with n xs)))
    sign_off_at f moved =
        let size = on_size whole f in
        let inside = on_inside in
        rw moved (laid_Slots (Slots_close (in_Slots (on_with n xs) whole) k f inside (close_moved inside (omega (arith, size))))
        ∙ ap on_of (sym (alter_at_none (λ _. None) (radios_of (on_with n xs)) rising r no_radio at refl)))

  -- it is not
  module _ (gap : IsGapFor (radios_of (on_with n xs)) r k) where
    pub gap_inside : k ≤ n
    gap_inside = let e = count_on_laid (on_with n xs) (radios_of (on_with n xs)) whole in let i = gap.inside in omega arith

    pub is_on_gap : false ≡ is_some (find (radios_of (on_with n xs)) r)
    is_on_gap = rw gap.absent

    pub sign_on_gap : {ys : List ℕ} → n < max_on → ys ≡ copy_within xs k n (k + 1) → on_with (n + 1) (set ys k r) ≡ on_of (insert r tt (radios_of (on_with n xs)))
    sign_on_gap f moved =
        let size = on_size whole (omega arith) in
        rw moved (laid_Slots (Slots_open (in_Slots (on_with n xs) whole) k (radio_row r) f (open_moved gap_inside (omega (arith, size))))
        ∙ ap on_of (sym (alter_gap (λ _. Some tt) (radios_of (on_with n xs)) rising r tt gap refl)))

    pub sign_off_gap : on_with n xs ≡ on_of (alter (λ _. None) r (radios_of (on_with n xs)))
    sign_off_gap = whole ∙ ap on_of (sym (alter_gap_none (λ _. None) (radios_of (on_with n xs)) rising r gap refl))
