-- The columns of a sound ledger: what the call asks of it, and that the rows of the radios on are those of the store that it holds.
use mathlib.Core.Path.{◌≡◌, refl, sym, ap, ap₂, ◌∙◌, subst}
use mathlib.Core.Bool.{true}
use mathlib.Core.List.{List, [], ◌∷◌, map}
use Rattle.std.specs.Prelude.{Some}
use Prim.Native.Nat.{ℕ, zero, suc, ◌≤◌, ◌<◌}
use native.Mathlib.Omega.{arith}
use native.Mathlib.Nat.{not-suc-le-zero, le_of_suc-le-suc}
use lib.Dec.{eqb}
use lib.ListN.{length, get_or, take, length-take}
use lib.Seq.{get_or-take}
use borrow.Author.Tests.{eq-eqb}
use Rattle.terms.specs.Terms.{max_radio, max_on}
use Rattle.lists.specs.Parts.{tab}
use Rattle.lists.specs.Rows.{Rows, Rising, UpTo, find}
use Rattle.lists.specs.Tests.{is_some, Each}
use Rattle.lists.proofs.Cases.{by_cases}
use Rattle.lists.proofs.PartsLaws.{tab_ext}
use Rattle.rules.specs.Store.{Report, Line, Cell}
use Rattle.rules.specs.Sweep.{stale}
use Rattle.rules.specs.Carry.{is_on, latest}
use Rattle.rules.specs.Everyone.{rows_of, everyone}
use Rattle.desk.specs.declared.Slot.{Slot}
use Rattle.desk.specs.Held.{Ledger, ledger_grid, ledger_waiting, ledger_memo, ledger_on}
use Rattle.desk.specs.Layout.{slot_of}
use Rattle.desk.specs.Sound.{SoundLedger}
use Rattle.desk.specs.Views.{slots_in, radio_row, radios_of}
use Rattle.memo.specs.Memo.{lines_of}
use Rattle.memo.proofs.MemoLaws.{lines_are}
use Rattle.waiting.specs.Waiting.{reports_of}
use Rattle.waiting.proofs.WaitingLaws.{reports_laid}
use Rattle.waiting.proofs.OnLaws.{radios_laid}
use Rattle.range_places.specs.Places.{over, Readable}
use Rattle.terms.specs.declared.Fix.{Fix as HeldFix}
use Rattle.range.proofs.StoreLaws.{Read, cells-Read, slots_Laid, cells_are, waiting_is, memo_is, on_is, range_asks}
use Rattle.latest_fixes.specs.Fixes.{SeatsOf, Fixes, fixes_in, entries_told, slot_told, report_told, reports_told, fixes_of, rows_in, FixesOn}
use Rattle.latest_fixes.proofs.LatestLaws.{cell_told, latest_told, row_with, rows_told}

-- ---- cells in the directory

module _ (seats : List ℕ) (memo : Rows Line) (b : List ℕ) where
  slot_cell : (c : Cell) (f : Fixes) → Read b c → slot_told seats (stale memo) b (slot_of c) f ≡ cell_told seats memo c f
  unfolding slot_told entries_told
  slot_cell c f e = rw e

  slots_cells : (cells : List Cell) (f : Fixes) → Each (Read b) cells → over (slot_told seats (stale memo) b) (map slot_of cells) f ≡ over (cell_told seats memo) cells f
  unfolding over
  slots_cells [] f e = refl
  slots_cells (c ∷ cs) f e = ap (over (slot_told seats (stale memo) b) (map slot_of cs)) (slot_cell c f e.0) ∙ slots_cells cs (cell_told seats memo c f) e.1

-- ---- numbers as rows

found_at : (l : List ℕ) (i : ℕ) → i < length l → is_some (find (map radio_row l) (get_or l i 0)) ≡ true
unfolding find
found_at [] i h = absurd (not-suc-le-zero h)
found_at (x ∷ l) zero h = rw (eq-eqb x x refl)
found_at (x ∷ l) (suc i) h = by_cases (eqb (get_or l i 0) x) (λ t. rw t) (λ t. rw t (found_at l i (le_of_suc-le-suc h)))

-- ---- of a sound ledger

module _ (ledger : Ledger) (b : List ℕ) (s : SoundLedger ledger b) where
  abbrev n : ℕ
  n = ledger.parts.on

  pub readable : Readable b (ledger_grid ledger).cells (ledger_waiting ledger) (ledger_memo ledger)
  readable = (range_asks s.store b ledger s.well s.laid s.held).0

  size_on : length ledger.on ≡ max_on
  size_on = (range_asks s.store b ledger s.well s.laid s.held).1

  pub few_on : n ≤ max_on
  few_on = (range_asks s.store b ledger s.well s.laid s.held).2

  pub small_on : UpTo max_radio (radios_of (ledger_on ledger))
  small_on = (range_asks s.store b ledger s.well s.laid s.held).3

  rows_on : radios_of (ledger_on ledger) ≡ s.store.on
  rows_on = radios_laid (on_is s.store b ledger s.well s.laid s.held)

  pub Rising_on : Rising 0 (radios_of (ledger_on ledger))
  Rising_on = subst (λ (l : Rows (Unit {0})). Rising 0 l) (sym rows_on) s.well.rising_on

  -- ---- what is laid over the fixes is what the store has

  fixes_are : (seats : List ℕ) (f : Fixes) → fixes_of b seats (slots_in (ledger_grid ledger).cells) (lines_of (ledger_memo ledger)) (reports_of (ledger_waiting ledger)) f
      ≡ over (report_told seats) s.store.waiting (over (cell_told seats s.store.memo) s.store.cells f)
  unfolding fixes_of reports_told
  fixes_are seats f =
      ap₂ (λ (x : Rows Report) (g : Fixes). over (report_told seats) x g) (reports_laid (waiting_is s.store b ledger s.well s.laid s.held))
      (ap₂ (λ (m : Rows Line) (x : List Slot). over (slot_told seats (stale m) b) x f) (lines_are s.store.memo (memo_is s.store b ledger s.well s.laid s.held))
      (slots_Laid (ledger_grid ledger).cells s.store.cells (cells_are s.store b ledger s.well s.laid s.held))
      ∙ slots_cells seats s.store.memo b s.store.cells f (cells-Read s.store b s.well s.laid))

  -- ---- a row for each radio on

  abbrev pub used : List ℕ
  used = take n ledger.on

  pub length-used : length used ≡ n
  length-used = let z = size_on in let f = few_on in rw length-take (omega arith)

  on-used : map radio_row used ≡ s.store.on
  on-used = unfold radios_of in rows_on

  -- they rise, and are radios
  pub used_rise : Rising 0 (map radio_row used)
  used_rise = unfold radios_of in Rising_on

  pub used_small : UpTo max_radio (map radio_row used)
  used_small = unfold radios_of in small_on

  pub used_few : length used ≤ max_on
  used_few = omega (arith, length-used, few_on)

  is_on_lem : (i : ℕ) → i < length used → is_on s.store (get_or used i 0) ≡ true
  unfolding is_on
  is_on_lem i h = ap (λ (l : Rows (Unit {0})). is_some (find l (get_or used i 0))) (sym on-used) ∙ found_at used i h

  module _ {seats : List ℕ} (own : SeatsOf used seats) (fixes : List HeldFix) (f : Fixes)
      (told : fixes_in fixes ≡ over (report_told seats) s.store.waiting (over (cell_told seats s.store.memo) s.store.cells f)) where
    latest_at : (i : ℕ) → i < length used → latest s.store (get_or used i 0) ≡ Some (fixes_in fixes i)
    latest_at i h =
        latest_told seats i (get_or used i 0) (λ q. own.own i h q) s.store s.well (is_on_lem i h) f
        ∙ ap (λ (g : Fixes). Some (g i)) (sym told)

    rows_are : rows_in n ledger.on fixes ≡ everyone s.store
    unfolding everyone fixes_in
    rows_are =
        tab_ext n (λ i. row_with (get_or ledger.on i 0) (fixes_in fixes i)) (λ i. row_with (get_or used i 0) (fixes_in fixes i))
        (λ i h. ap (λ (r : ℕ). row_with r (fixes_in fixes i)) (sym (get_or-take n ledger.on i 0 h)))
        ∙ ap (λ (m : ℕ). tab m (λ i. row_with (get_or used i 0) (fixes_in fixes i))) (sym length-used)
        ∙ rows_told (latest s.store) (fixes_in fixes) used latest_at
        ∙ ap (rows_of (latest s.store)) on-used

  -- the fixes after the entries and the waiting reports
  pub fixes_found : (f : Fixes) {seats : List ℕ} {fixes : List HeldFix} → SeatsOf used seats
      → fixes_in fixes ≡ fixes_of b seats (slots_in (ledger_grid ledger).cells) (lines_of (ledger_memo ledger)) (reports_of (ledger_waiting ledger)) f
      → FixesOn s.store n ledger.on fixes
  fixes_found f {seats} {fixes} own h = record { rows = rows_are own fixes f (h ∙ fixes_are seats f) }
