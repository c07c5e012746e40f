-- The fixes: what a store in them does, and what the loops that lay rows over them keep.
use mathlib.Core.Path.{◌≡◌, refl, sym, ap, ◌∙◌, fun_ext}
use mathlib.Core.Bool.{Bool, true, false}
use mathlib.Core.List.{List, [], ◌∷◌, ◌++◌}
use mathlib.Core.Logic.{◌≢◌}
use Rattle.std.specs.Prelude.{Option, None, Some}
use Prim.Native.Nat.{ℕ, zero, suc, ◌+◌, ◌*◌, ◌≤◌, ◌<◌}
use native.Mathlib.Omega.{arith}
use native.Mathlib.Numerals.{add-one}
use lib.Dec.{eqb}
use lib.ListN.{length, get_or, set, take}
use lib.Seq.{get_or-set_same, get_or-set_other, take-suc, take-length}
use borrow.Author.Tests.{eqb-true, eqb-false, ne_eqb}
use Rattle.terms.specs.Terms.{Fix, fix_at, max_radio, max_on}
use Rattle.terms.specs.Values.{fix_of}
use Rattle.terms.specs.declared.Fix.{Fix as HeldFix}
use Rattle.lists.specs.Rows.{Row, Rows, UpTo}
use Rattle.lists.specs.Words.{wide}
use Rattle.lists.proofs.Cases.{by_cases}
use Rattle.lists.proofs.SlotsLaws.{mapped_turn, mapped_end, Each_mapped}
use Rattle.entries.specs.declared.Entry.{Entry}
use Rattle.entries.specs.Entries.{row_of}
use Rattle.page.specs.Buffer.{entries_from}
use Rattle.rules.specs.Limits.{full_memory}
use Rattle.rules.specs.Store.{Line, Report as StoreReport}
use Rattle.rules.specs.Sweep.{stale}
use Rattle.desk.specs.declared.Slot.{Slot}
use Rattle.desk.specs.declared.Report.{Report}
use Rattle.desk.specs.Held.{Waiting}
use Rattle.desk.specs.Layout.{report_fields, no_slot, no_report}
use Rattle.desk.specs.Views.{every_report}
use Rattle.desk.proofs.ReportsLaws.{length_every}
use Rattle.waiting.specs.Waiting.{reports_of, row_of as report_row}
use Rattle.range_places.specs.Places.{over}
use Rattle.latest_fixes.specs.Fixes.{Seats, Fixes, seat_in, seated, fixes_in, retold, entries_told, slot_told, reports_told, fixes_of, no_fix}
use Rattle.range_places.specs.Told.{over-append}
use Rattle.latest_fixes.specs.Told.{Told}

-- ---- a store

seat_zero : {n : ℕ} → seated n ≡ None → n ≡ 0
seat_zero {n = zero} e = refl
seat_zero {n = suc i} e = let z : ◌≡◌ {A = ℕ} 0 1 = cc in absurd (omega arith)

seat_suc : {n i : ℕ} → seated n ≡ Some i → n ≡ suc i
seat_suc {n = zero} e = let z : ◌≡◌ {A = ℕ} 0 1 = cc in absurd (omega arith)
seat_suc {n = suc j} {i = i} e = let z : j ≡ i = cc in ap suc z

module _ (seats : List ℕ) (r : ℕ) where
  -- a radio that is not on stands nowhere
  pub hold_unseated : (fixes : List HeldFix) (v : Fix) {o : Option ℕ} → o ≡ seat_in seats r → o ≡ None → fixes_in fixes ≡ retold seats r v (fixes_in fixes)
  hold_unseated fixes v said none =
      let z = seat_zero (sym said ∙ none) in
      fun_ext (λ i. rw (ne_eqb (get_or seats r 0) (suc i) (λ y. absurd (omega arith))))

  module _ (fixes : List HeldFix) (fix : HeldFix) {o : Option ℕ} {at : ℕ} (said : o ≡ seat_in seats r) (some : o ≡ Some at) where
    seat_is : get_or seats r 0 ≡ suc at
    seat_is = seat_suc (sym said ∙ some)

    pub hold_within : Seats seats → at < max_on
    hold_within s = omega (arith, seat_is, s.place r)

    pub hold_seated : at < length fixes → fixes_in (set fixes at fix) ≡ retold seats r (fix_of fix) (fixes_in fixes)
    unfolding fixes_in
    hold_seated inside = fun_ext (λ i. by_cases (eqb (get_or seats r 0) (suc i))
        (λ t. let z : i ≡ at = omega (arith, eqb-true (get_or seats r 0) (suc i) t, seat_is) in
        rw (t, z, get_or-set_same fixes at fix no_fix inside))
        (λ t. let n : i ≢ at = λ y. eqb-false (get_or seats r 0) (suc i) t (seat_is ∙ ap suc (sym y)) in
        rw (t, get_or-set_other fixes at i fix no_fix n)))

-- ---- one over the other

module _ {A : Type 0} (step : A → Fixes → Fixes) where
  over_last : (l : List A) (x : A) (f : Fixes) → over step (l ++ (x ∷ [])) f ≡ step x (over step l f)
  over_last l x f = over-append step l (x ∷ []) f ∙ unfold over in refl

  over_none : (f : Fixes) → f ≡ over step [] f
  unfolding over
  over_none f = refl

-- ---- an entry

module _ (seats : List ℕ) (old : Row Fix → Bool) (e : Entry) {r : Bool} (told : r ≡ old (row_of e)) (fixes : List HeldFix) where
  pub entry_stale : r ≡ true → Told seats old fixes (row_of e ∷ []) fixes
  unfolding entries_told over
  entry_stale t = rw (← told, t)

  pub entry_held : (fixes' : List HeldFix) → r ≡ false → fixes_in fixes' ≡ retold seats e.radio (fix_at e.east e.north e.minute) (fixes_in fixes) → Told seats old fixes (row_of e ∷ []) fixes'
  unfolding entries_told over
  entry_held fixes' t h = rw (← told, t) h

-- ---- the cells of the directory

module _ (seats : List ℕ) (old : Row Fix → Bool) (b : List ℕ) (cells : List Slot) where
  pub cells_start : (f : Fixes) → f ≡ over (slot_told seats old b) [] f
  cells_start f = over_none (slot_told seats old b) f

  pub cells_turn : (f : Fixes) (fixes fixes' : List HeldFix) {i : ℕ} → i < length cells → fixes_in fixes ≡ over (slot_told seats old b) (take i cells) f
      → Told seats old fixes (entries_from b (get_or cells i no_slot).first) fixes' → fixes_in fixes' ≡ over (slot_told seats old b) (take (i + 1) cells) f
  unfolding slot_told
  cells_turn f fixes fixes' {i} h e t =
      rw (add-one, take-suc cells i no_slot h, over_last (slot_told seats old b) (take i cells) (get_or cells i no_slot) f, ← e) t

  pub cells_end : (f g : Fixes) {i : ℕ} → i ≤ length cells → length cells ≤ i → g ≡ over (slot_told seats old b) (take i cells) f → g ≡ over (slot_told seats old b) cells f
  cells_end f g h k e = let z : _ ≡ length cells = omega arith in e ∙ ap (λ (n : ℕ). over (slot_told seats old b) (take n cells) f) z ∙ ap (λ (l : List Slot). over (slot_told seats old b) l f) (take-length cells)

-- ---- the waiting reports

module _ (seats : List ℕ) (w : Waiting) (f : Fixes) where
  pub reports_start : f ≡ reports_told seats (take 0 (reports_of w)) f
  unfolding reports_told
  reports_start = over_none _ f

  module _ (size : length w.words ≡ report_fields * full_memory) (few : w.n ≤ full_memory) (i : ℕ) (more : i < w.n) {report : Report} (read : report ≡ get_or (every_report w.words) i no_report) where
    amid : w.n ≤ length (every_report w.words)
    amid = let l = length_every w.words full_memory size in omega arith

    pub reports_radios : UpTo max_radio (reports_of w) → report.radio ≤ max_radio
    unfolding reports_of
    reports_radios e = rw read (Each_mapped (every_report w.words) w.n i no_report amid more (λ x. x.key ≤ max_radio) report_row e)

    pub reports_turn : (fixes fixes' : List HeldFix) {minute : ℕ} → minute ≡ wide report.low report.high → fixes_in fixes ≡ reports_told seats (take i (reports_of w)) f
        → fixes_in fixes' ≡ retold seats report.radio (fix_at report.east report.north minute) (fixes_in fixes)
        → fixes_in fixes' ≡ reports_told seats (take (i + 1) (reports_of w)) f
    unfolding reports_of reports_told
    reports_turn fixes fixes' late e h =
        rw (mapped_turn (every_report w.words) w.n i no_report amid more report_row, over_last (λ x. retold seats x.key x.val.fix) _ (report_row (get_or (every_report w.words) i no_report)) f, ← e, ← read)
        (h ∙ ap (λ (m : ℕ). retold seats report.radio (fix_at report.east report.north m) (fixes_in fixes)) late)

  pub reports_end : (i : ℕ) (g : Fixes) → w.n ≤ i → g ≡ reports_told seats (take i (reports_of w)) f → g ≡ reports_told seats (reports_of w) f
  unfolding reports_of reports_told
  reports_end i g k h = h ∙ ap (λ l. over (λ x. retold seats x.key x.val.fix) l f) (mapped_end (every_report w.words) w.n i k report_row)

-- ---- all of them

pub all_held : (b seats : List ℕ) (slots : List Slot) (memo : Rows Line) (reports : Rows StoreReport) (f g h : Fixes) {old : Row Fix → Bool} → old ≡ stale memo
    → g ≡ over (slot_told seats old b) slots f → h ≡ reports_told seats reports g → h ≡ fixes_of b seats slots memo reports f
unfolding fixes_of
all_held b seats slots memo reports f g h told e k = k ∙ ap (reports_told seats reports) (e ∙ ap (λ (x : Row Fix → Bool). over (slot_told seats x b) slots f) told)
