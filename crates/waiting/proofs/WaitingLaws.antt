-- The desk's waiting reports as rows: what stores and loops in their slots do to them, and what a search of them answers.
use mathlib.Core.Bool.{Bool, true, false, not}
use mathlib.Core.List.{List, [], ◌∷◌, ◌++◌, map, map-id}
use Rattle.std.specs.Prelude.{Option, None, Some, Result, IfOk, IfErr}
use Rattle.std.specs.List.Sorted.{IsSearchInRange, IsBinarySearchResult}
use Rattle.std.specs.Ordering.{nat_cmp}
use mathlib.Core.Path.{◌≡◌, refl, sym, ap, ◌∙◌}
use Prim.Native.Nat.{ℕ, zero, suc, ◌+◌, ◌-◌, ◌*◌, ◌≤◌, ◌<◌}
use native.Mathlib.Numerals.{add-one}
use native.Mathlib.Omega.{arith}
use lib.Dec.{eqb}
use lib.ListN.{length, get_or, set, take, length-map, length-take}
use lib.Seq.{take-suc, get_or-take, ext_get_or}
use Rattle.terms.specs.Terms.{Fix, fix_at}
use Rattle.lists.specs.Parts.{insert_at, remove_at}
use Rattle.lists.specs.Rows.{Row, Rows, Rising, find, alter, IsAt, IsGapFor}
use Rattle.lists.specs.Words.{low_half}
use Rattle.lists.proofs.WordsLaws.{wide_halves, low_wide, high_wide}
use Rattle.lists.specs.Tests.{one_if}
use Rattle.lists.proofs.AlterLaws.{find_at, alter_at, alter_at_none, alter_gap, alter_gap_none}
use Rattle.lists.proofs.Cases.{none-some, some_injective}
use Rattle.lists.proofs.FoundLaws.{searched_rows}
use Rattle.lists.proofs.ShiftLaws.{Opened, Closed, open_turn, close_turn}
use Rattle.rules.specs.Limits.{full_memory}
use Rattle.rules.specs.Carry.{was_new}
use Rattle.rules.specs.Store.{Report as StoreReport}
use Rattle.desk.specs.declared.Report.{Report}
use Rattle.desk.specs.Held.{Waiting, waiting_with}
use Rattle.desk.specs.Layout.{slotted, report_of, no_report, report_fields, waiting_of}
use Rattle.desk.specs.Views.{every_report}
use Rattle.desk.proofs.ReportsLaws.{length_every, length-report_words, reports_of_words, waiting_is, report_read}
use Rattle.desk.proofs.SlotsLaws.{get_or_mapped, length-slotted, Slots, Slots_get, Slots-set, Slots_open, Slots_close}
use Rattle.desk.proofs.UniqueLaws.{take_waiting}
use Rattle.waiting.specs.Waiting.{GoodReport, row_of, reports_of, WholeWaiting, laid_report}

-- ---- the same rows, as the desk's array and as a list

abbrev pub no_row : Row StoreReport
no_row = record { key = 0; val = record { fix = fix_at 0 0 0; new = false } }

-- a mark of 0 or 1 is that of its row
mark_of : (n : ℕ) → n ≤ 1 → one_if (not (eqb n 0)) ≡ n
mark_of zero h = refl
mark_of (suc zero) h = refl
mark_of (suc (suc n)) h = absurd (omega arith)

pub report_row_lem : (w : Report) → GoodReport w → report_of (row_of w) ≡ w
report_row_lem w h =
    let e = mark_of w.new h.0 in
    let l = low_wide w.low w.high h.1 in
    let u = high_wide w.low w.high h.1 in
    λ i. record { radio = w.radio; east = w.east; north = w.north; new = e i; low = l i; high = u i }

not_zero : (b : Bool) → not (eqb (one_if b) 0) ≡ b
not_zero true = refl
not_zero false = refl

pub row_report : (x : Row StoreReport) → row_of (report_of x) ≡ x
row_report x =
    let e = not_zero x.val.new in
    let m = wide_halves x.val.fix.minute in
    λ i. record { key = x.key; val = record { fix = record { place = x.val.fix.place; minute = m i }; new = e i } }

rows_reports : (l : Rows StoreReport) → map row_of (map report_of l) ≡ l
rows_reports [] = refl
rows_reports (x ∷ xs) = λ i. row_report x i ∷ rows_reports xs i

-- what is laid out is read back
pub reports_waiting_of : (l : Rows StoreReport) → reports_of (waiting_of l) ≡ l
unfolding reports_of
reports_waiting_of l = ap (map row_of) (take_waiting l) ∙ rows_reports l

pub reports_laid : {w : Waiting} {l : Rows StoreReport} → w ≡ waiting_of l → reports_of w ≡ l
reports_laid {w} {l} e = ap reports_of e ∙ reports_waiting_of l

pub whole_laid : (w : Waiting) (l : Rows StoreReport) → w ≡ waiting_of l → WholeWaiting w
whole_laid w l e = e ∙ ap waiting_of (sym (reports_laid e))

pub count_laid : (w : Waiting) (l : Rows StoreReport) → w ≡ waiting_of l → w.n ≡ length l
unfolding waiting_of
count_laid w l e = ap (λ (x : Waiting). x.n) e

module _ (w : Waiting) (size : length (every_report w.words) ≡ full_memory) (fits : w.n ≤ full_memory) where
  pub length_reports : length (reports_of w) ≡ w.n
  unfolding reports_of
  length_reports = simp (length-map, length-take) (omega arith)

  pub reports_get : (i : ℕ) → i < w.n → get_or (reports_of w) i no_row ≡ row_of (get_or (every_report w.words) i no_report)
  unfolding reports_of
  reports_get i h = get_or_mapped row_of (take w.n (every_report w.words)) i no_report no_row (rw length-take (omega arith)) ∙ ap row_of (get_or-take w.n (every_report w.words) i no_report h)

  pub reports_next : (i : ℕ) → i < w.n → take (i + 1) (reports_of w) ≡ take i (reports_of w) ++ (row_of (get_or (every_report w.words) i no_report) ∷ [])
  reports_next i h =
      rw (add-one i) (take-suc (reports_of w) i no_row (rw length_reports h) ∙ ap (λ (x : Row StoreReport). take i (reports_of w) ++ (x ∷ [])) (reports_get i h))

abbrev pub InSlots : Rows StoreReport → ℕ → List Report → Type 0
InSlots = Slots full_memory no_report report_of

pub in_Slots : (w : Waiting) → WholeWaiting w → InSlots (reports_of w) w.n (every_report w.words)
unfolding waiting_of
in_Slots w e = record { count = ap (λ (x : Waiting). x.n) e; list = ap (λ (x : Waiting). every_report x.words) e ∙ reports_of_words _ }

-- the array has room for as many reports as may wait
pub whole_size : (w : Waiting) → WholeWaiting w → w.n ≤ full_memory → length w.words ≡ report_fields * full_memory
unfolding waiting_of
whole_size w e h =
    let l = map report_of (reports_of w) in
    let n : length l ≤ full_memory = rw (length-map (reports_of w) report_of, ← count_laid w (reports_of w) e) h in
    ap (λ (x : Waiting). length x.words) e ∙ length-report_words (slotted full_memory no_report l) ∙ ap (λ (k : ℕ). report_fields * k) (length-slotted full_memory no_report l n)

-- the same of an array that is lent
pub lent_size : {n : ℕ} {ws : List ℕ} → WholeWaiting (waiting_with n ws) → n ≤ full_memory → length ws ≡ report_fields * full_memory
lent_size {n} {ws} = whole_size (waiting_with n ws)

pub every_size : (ws : List ℕ) → length ws ≡ report_fields * full_memory → length (every_report ws) ≡ full_memory
every_size ws h = length_every ws full_memory h

pub laid_Slots : {l : Rows StoreReport} {n : ℕ} {ws : List ℕ} {xs : List Report} → InSlots l n xs → every_report ws ≡ xs → length ws ≡ report_fields * full_memory → waiting_with n ws ≡ waiting_of l
laid_Slots {l} {n} {ws} s e h = waiting_is ws n l h s.count (e ∙ s.list)

-- ---- stores and loops

module _ {n : ℕ} {ws : List ℕ} (whole : WholeWaiting (waiting_with n ws)) {vs : List ℕ} (size : length vs ≡ report_fields * full_memory) where
  laid_set : (i : ℕ) (x : Row StoreReport) → i < n → every_report vs ≡ set (every_report ws) i (report_of x) → waiting_with n vs ≡ waiting_of (set (reports_of (waiting_with n ws)) i x)
  laid_set i x h wrote = laid_Slots (Slots-set (in_Slots (waiting_with n ws) whole) i x h) wrote size

  pub laid_open : (a : ℕ) (e : Report) {i : ℕ} {ys : List Report} → GoodReport e → n < full_memory → Opened (every_report ws) (n) i ys → a ≤ i → i ≤ a → every_report vs ≡ set ys a e
      → waiting_with (n + 1) vs ≡ waiting_of (insert_at (reports_of (waiting_with n ws)) a (row_of e))
  laid_open a e {i} {ys} m f o g h wrote =
      let z : i ≡ a = omega arith in
      laid_Slots (rw (report_row_lem e m) at (Slots_open (in_Slots (waiting_with n ws) whole) a (row_of e) {ys = ys} f (rw z at o))) wrote size

  pub laid_close : (a : ℕ) {i : ℕ} {ys : List Report} → n ≤ full_memory → a < n → Closed (every_report ws) a i ys → i ≤ n - 1 → n - 1 ≤ i → every_report vs ≡ set ys (n - 1) no_report
      → waiting_with (n - 1) vs ≡ waiting_of (remove_at (reports_of (waiting_with n ws)) a)
  laid_close a {i} {ys} f b c g h wrote =
      let z : i ≡ n - 1 = omega arith in
      laid_Slots (Slots_close (in_Slots (waiting_with n ws) whole) a {ys = ys} f b (rw z at c)) wrote size

-- a report moved one place up, and one place down
pub open_report : {xs : List Report} {n i : ℕ} (vs us : List ℕ) {r : Report} → Opened xs n i (every_report vs) → 0 < i
    → r ≡ get_or (every_report vs) (i - 1) no_report → every_report us ≡ set (every_report vs) (i - 1 + 1) r → Opened xs n (i - 1) (every_report us)
open_report {i = i} vs us o h e f = let q : i - 1 + 1 ≡ i = omega arith in rw (f, e, q) (open_turn no_report o h)

pub close_report : {xs : List Report} {a i : ℕ} (vs us : List ℕ) {r : Report} → Closed xs a i (every_report vs) → i + 1 < length xs
    → r ≡ get_or (every_report vs) (i + 1) no_report → every_report us ≡ set (every_report vs) i r → Closed xs a (i + 1) (every_report us)
close_report vs us o h e f = rw (f, e) (close_turn no_report o h)

-- ---- where a radio stands

one_if-le : (b : Bool) → one_if b ≤ 1
one_if-le true = omega arith
one_if-le false = omega arith

low_narrow : (minute : ℕ) → low_half minute < 65536
low_narrow minute = omega arith

-- what is laid out is a report
pub laid_Good : (x : Row StoreReport) {y : Report} → y ≡ report_of x → GoodReport y
laid_Good x e = rw e (one_if-le x.val.new, low_narrow x.val.fix.minute)

module _ (n : ℕ) (ws : List ℕ) (fits : n ≤ full_memory) (whole : WholeWaiting (waiting_with n ws)) where
  -- the radios are the array's first column
  radio_at : (i : ℕ) → i < n → get_or ws i 0 ≡ (get_or (reports_of (waiting_with n ws)) i no_row).key
  radio_at i h =
      ap (λ (x : Report). x.radio) (report_read ws i (omega arith) (lent_size whole fits))
      ∙ ap (λ (x : Row StoreReport). x.key) (sym (reports_get (waiting_with n ws) (every_size ws (lent_size whole fits)) fits i h))

  radios_column : map (λ (x : ℕ). x) (take n ws) ≡ map (λ (x : Row StoreReport). x.key) (reports_of (waiting_with n ws))
  radios_column =
      let size = lent_size whole fits in
      let long = length_reports (waiting_with n ws) (every_size ws size) fits in
      let used : length (take n ws) ≡ n = simp length-take (omega arith) in
      let rows = reports_of (waiting_with n ws) in
      map-id (take n ws)
      ∙ ext_get_or 0 (take n ws) (map (λ (x : Row StoreReport). x.key) rows) (used ∙ sym long ∙ sym (length-map rows (λ x. x.key)))
      (λ i h. get_or-take n ws i 0 (omega arith) ∙ radio_at i (omega arith) ∙ sym (get_or_mapped (λ (x : Row StoreReport). x.key) rows i no_row 0 (omega arith)))

  pub report_searched : Rising 0 (reports_of (waiting_with n ws)) → (r : ℕ) (o : Result ℕ ℕ) → IsSearchInRange o (length (take n ws)) → IsBinarySearchResult (λ x. nat_cmp x r) (take n ws) o
      → IfOk o (IsAt (reports_of (waiting_with n ws)) r) × IfErr o (IsGapFor (reports_of (waiting_with n ws)) r)
  report_searched rising r o bound said = searched_rows (λ (x : ℕ). x) (take n ws) (reports_of (waiting_with n ws)) radios_column rising r o bound said

module _ {n : ℕ} {ws : List ℕ} {r k : ℕ} (whole : WholeWaiting (waiting_with n ws)) (rising : Rising 0 (reports_of (waiting_with n ws))) where
  -- a report of it waits
  module _ (at : IsAt (reports_of (waiting_with n ws)) r k) where
    abbrev val : StoreReport
    val = (get_or (reports_of (waiting_with n ws)) k no_row).val

    pub at_waits : k < n
    at_waits = let e = count_laid (waiting_with n ws) (reports_of (waiting_with n ws)) whole in let i = at.inside in omega arith

    -- so there is one to take away
    pub one_waits : 1 ≤ n
    one_waits = let h = at_waits in omega arith

    held : get_or (every_report ws) k no_report ≡ report_of (record { key = r; val = val })
    held = Slots_get (in_Slots (waiting_with n ws) whole) k no_row at_waits ∙ ap (λ (q : ℕ). report_of (record { key = q; val = val })) (at.here no_row)

    pub report_found : {x : Report} → x ≡ get_or (every_report ws) k no_report → Some x ≡ laid_report r (find (reports_of (waiting_with n ws)) r)
    report_found e = rw (find_at (reports_of (waiting_with n ws)) rising r at no_row) (ap Some (e ∙ held))

    pub discard_at : {v : Waiting} → v ≡ waiting_of (remove_at (reports_of (waiting_with n ws)) k) → v ≡ waiting_of (alter (λ _. None) r (reports_of (waiting_with n ws)))
    discard_at e = e ∙ ap waiting_of (sym (alter_at_none (λ _. None) (reports_of (waiting_with n ws)) rising r no_row at refl))

    -- another in its place
    pub put_at : (f : Option StoreReport → Option StoreReport) (v : StoreReport) {vs : List ℕ} {y : Report} → length vs ≡ report_fields * full_memory → f (Some val) ≡ Some v
        → y ≡ report_of (record { key = r; val = v }) → every_report vs ≡ set (every_report ws) k y → waiting_with n vs ≡ waiting_of (alter f r (reports_of (waiting_with n ws)))
    put_at f v {vs} size e laid wrote =
        laid_set whole size k (record { key = r; val = v }) at_waits (wrote ∙ ap (set (every_report ws) k) laid)
        ∙ ap waiting_of (sym (alter_at f (reports_of (waiting_with n ws)) rising r no_row v at e))

    -- the mark is kept
    pub keep_at : (fix : Fix) {x : Report} {vs : List ℕ} {y : Report} → x ≡ get_or (every_report ws) k no_report → length vs ≡ report_fields * full_memory
        → y ≡ report_of (record { key = r; val = record { fix = fix; new = not (eqb x.new 0) } }) → every_report vs ≡ set (every_report ws) k y
        → waiting_with n vs ≡ waiting_of (alter (λ w. Some (record { fix = fix; new = was_new w })) r (reports_of (waiting_with n ws)))
    keep_at fix {x} read size laid wrote =
        let mark : not (eqb x.new 0) ≡ val.new = ap (λ (w : Report). not (eqb w.new 0)) (read ∙ held) ∙ not_zero val.new in
        put_at (λ w. Some (record { fix = fix; new = was_new w })) (record { fix = fix; new = val.new }) size refl
        (laid ∙ ap (λ (b : Bool). report_of (record { key = r; val = record { fix = fix; new = b } })) mark) wrote

  -- none does
  module _ (gap : IsGapFor (reports_of (waiting_with n ws)) r k) where
    pub gap_waits : k ≤ n
    gap_waits = let e = count_laid (waiting_with n ws) (reports_of (waiting_with n ws)) whole in let i = gap.inside in omega arith

    pub report_missing : None ≡ laid_report r (find (reports_of (waiting_with n ws)) r)
    report_missing = rw gap.absent

    pub discard_none : waiting_with n ws ≡ waiting_of (alter (λ _. None) r (reports_of (waiting_with n ws)))
    discard_none = whole ∙ ap waiting_of (sym (alter_gap_none (λ _. None) (reports_of (waiting_with n ws)) rising r gap refl))

    -- one at its rising place
    pub put_gap : (f : Option StoreReport → Option StoreReport) (v : StoreReport) {w : Waiting} {y : Report} → f None ≡ Some v → y ≡ report_of (record { key = r; val = v })
        → w ≡ waiting_of (insert_at (reports_of (waiting_with n ws)) k (row_of y)) → w ≡ waiting_of (alter f r (reports_of (waiting_with n ws)))
    put_gap f v e laid said =
        said ∙ ap (λ (x : Row StoreReport). waiting_of (insert_at (reports_of (waiting_with n ws)) k x)) (ap row_of laid ∙ row_report (record { key = r; val = v }))
        ∙ ap waiting_of (sym (alter_gap f (reports_of (waiting_with n ws)) rising r v gap e))

-- ---- the mark of what is found

mark_some : (r : ℕ) (o : Option StoreReport) {e : Report} → Some e ≡ laid_report r o → e.new ≡ one_if (was_new o)
mark_some r None t = none-some (sym t)
mark_some r (Some v) t = ap (λ (x : Report). x.new) (some_injective t)

mark_none : (r : ℕ) (o : Option StoreReport) → None ≡ laid_report r o → 0 ≡ one_if (was_new o)
mark_none r None t = refl
mark_none r (Some v) t = none-some t

module _ (w : Waiting) (r : ℕ) {o : Option Report} (told : o ≡ laid_report r (find (reports_of w) r)) where
  pub mark_found : {e : Report} → o ≡ Some e → e.new ≡ one_if (was_new (find (reports_of w) r))
  mark_found h = mark_some r (find (reports_of w) r) (sym h ∙ told)

  pub mark_missing : o ≡ None → 0 ≡ one_if (was_new (find (reports_of w) r))
  mark_missing h = mark_none r (find (reports_of w) r) (sym h ∙ told)
