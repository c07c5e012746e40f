-- The whole test: what each call asks, from what desk and pages have shown, and that the verdict is the test of the entries.
use mathlib.Core.Path.{◌≡◌, refl, sym, ap, ap₂, ◌∙◌}
use mathlib.Core.Bool.{Bool, true, false}
use mathlib.Core.List.{List, map}
use Prim.Native.Nat.{ℕ, ◌≤◌}
use native.Mathlib.Omega.{arith}
use lib.ListN.{length, take}
use Rattle.terms.specs.Terms.{Fix, max_radio, max_on}
use Rattle.lists.specs.Rows.{Row, Rows, Rising, UpTo}
use Rattle.lists.specs.Sums.{concat}
use Rattle.lists.specs.Tests.{both, all}
use Rattle.rules.specs.Limits.{max_cells, full_memory}
use Rattle.rules.specs.Store.{Report as StoreReport, Line as StoreLine}
use Rattle.rules.specs.Sweep.{stale}
use Rattle.desk.specs.Held.{Ledger, ledger_grid, ledger_waiting, ledger_memo, ledger_on}
use Rattle.desk.specs.Layout.{line_slots}
use Rattle.desk.specs.Views.{radios_of}
use Rattle.memo.specs.Memo.{lines_of}
use Rattle.memo_index.specs.Index.{Blank, Named}
use Rattle.sound_clauses.specs.Radios.{on_at, present_test, unmarked_test, lines_test}
use Rattle.sound_clauses.specs.Round.{stale_count, stale_counts, bound_test}
use Rattle.lists.proofs.SlotsLaws.{stops, goes}
use Rattle.waiting.specs.Waiting.{reports_of}
use Rattle.sound_balance.specs.Tables.{added, written, mark_new, belongs_by, missed_off, one_off, all_settled}
use Rattle.sound_entries.specs.Entries.{rows_read, weigh, stale_sum}
use Rattle.sound_radios.specs.Entries.{entries_test}
use Rattle.sound_radios.proofs.KnownLaws.{Known}
use Rattle.sound_radios.proofs.TestLaws.{belong_unmarked, Balance_counts, settled_tests}
use Rattle.desk.specs.declared.Line.{Line}

stops_two : (a b c : Bool) → both a b ≡ false → false ≡ both a (both b c)
unfolding both
stops_two true b c e = sym (ap (λ (x : Bool). both x c) e)
stops_two false b c e = refl

goes_two : (a b c : Bool) → both a b ≡ true → c ≡ both a (both b c)
unfolding both
goes_two true b c e = sym (ap (λ (x : Bool). both x c) e)
goes_two false true c e = cc
goes_two false false c e = cc

module _ {b : List ℕ} {d : Ledger} (k : Known b d) where
  -- ---- what the calls ask

  pub on_asks : ((ledger_on d).n ≤ max_on) × UpTo max_radio (radios_of (ledger_on d))
  on_asks = (k.few_on, k.radios)

  pub lines_asks : {z : List ℕ} → Blank z → ((ledger_memo d).n ≤ line_slots) × Rising 0 (lines_of (ledger_memo d)) × UpTo max_radio (lines_of (ledger_memo d)) × Blank z
  lines_asks z = (k.few_lines, k.rise, k.lines, z)

  pub new_asks : ((ledger_waiting d).n ≤ full_memory) × Rising 0 (reports_of (ledger_waiting d)) × UpTo max_radio (reports_of (ledger_waiting d))
  new_asks = (k.few_waiting, k.reports_rise, k.reports)

  pub cells_asks : {words : List Line} {lines : List ℕ} → Named words lines
      → ((ledger_grid d).cells.n ≤ max_cells) × Named words lines × UpTo max_radio (concat (rows_read b (ledger_grid d).cells))
  cells_asks n = (k.few_cells, n, k.entries)

  pub bound_asks : ((ledger_grid d).cells.n ≤ max_cells) × ((ledger_waiting d).n ≤ full_memory)
  bound_asks = (k.few_cells, k.few_waiting)

  -- ---- the verdict

  abbrev lines : Rows StoreLine
  lines = lines_of (ledger_memo d)

  abbrev waits : Rows StoreReport
  waits = reports_of (ledger_waiting d)

  abbrev heard : Rows (Unit {0})
  heard = radios_of (ledger_on d)

  abbrev rows : List (Rows Fix)
  rows = rows_read b (ledger_grid d).cells

  module _ {z t₁ t₂ : List ℕ} {so : Bool} (blank : Blank z) (all_on : t₁ ≡ written one_off z (radios_of (ledger_on d)))
      (all_missed : t₂ ≡ added missed_off t₁ (lines_of (ledger_memo d))) (belong : so ≡ all (belongs_by t₂) (reports_of (ledger_waiting d))) where
    due : t₂ ≡ added missed_off (written one_off z heard) lines
    due = all_missed ∙ ap (λ (t : List ℕ). added missed_off t lines) all_on

    unmarked : so ≡ unmarked_test waits heard
    unfolding on_at
    unmarked = belong ∙ ap (λ (t : List ℕ). all (belongs_by t) waits) due ∙ belong_unmarked lines k.rise k.lines blank heard k.radios_rise k.radios k.on_once waits

    pub radios_off : so ≡ false → false ≡ entries_test (lines_of (ledger_memo d)) (reports_of (ledger_waiting d)) (radios_of (ledger_on d)) d.parts.tally (rows_read b (ledger_grid d).cells)
    unfolding entries_test
    radios_off f = stops _ unmarked f

    module _ (passed : so ≡ true) {t₃ t₄ : List ℕ} {old : Row Fix → Bool} (counts : List ℕ) {settled : Bool} (as_memo : old ≡ stale (lines_of (ledger_memo d)))
        (all_new : t₃ ≡ added mark_new t₂ (reports_of (ledger_waiting d))) (all_found : t₄ ≡ added (weigh old) t₃ (concat (rows_read b (ledger_grid d).cells)))
        (all_stale : take (ledger_grid d).cells.n counts ≡ map (stale_sum old) (rows_read b (ledger_grid d).cells))
        (said : settled ≡ all_settled t₄) where
      balance : t₄ ≡ added (weigh (stale lines)) (added mark_new (added missed_off (written one_off z heard) lines) waits) (concat rows)
      balance =
          all_found
          ∙ ap₂ (λ (o : Row Fix → Bool) (t : List ℕ). added (weigh o) t (concat rows)) as_memo (all_new ∙ ap (λ (t : List ℕ). added mark_new t waits) due)

      tests : all_settled t₄ ≡ both (present_test lines (concat rows) waits heard) (lines_test lines (concat rows))
      unfolding on_at
      tests =
          settled_tests lines (concat rows) waits heard k.once (omega (arith, k.waits, k.few_waiting)) k.on_once t₄
          (Balance_counts lines k.rise k.lines blank heard k.radios_rise k.radios k.on_once (concat rows) waits k.entries k.reports balance)
          k.rise k.lines k.missed

      counted : take (ledger_grid d).cells.n counts ≡ stale_counts lines rows
      unfolding stale_sum stale_count
      counted = all_stale ∙ ap (λ (old : Row Fix → Bool). map (stale_sum old) rows) as_memo

      pub radios_fail : settled ≡ false → false ≡ entries_test (lines_of (ledger_memo d)) (reports_of (ledger_waiting d)) (radios_of (ledger_on d)) d.parts.tally (rows_read b (ledger_grid d).cells)
      unfolding entries_test
      radios_fail t =
          goes unmarked passed
          (stops_two (present_test lines (concat rows) waits heard) (lines_test lines (concat rows)) (bound_test (stale_counts lines rows) (length waits) d.parts.tally) (sym tests ∙ sym said ∙ t))

      pub radios_bound : settled ≡ true → {r : Bool} → r ≡ bound_test (take (ledger_grid d).cells.n counts) (ledger_waiting d).n d.parts.tally
          → r ≡ entries_test (lines_of (ledger_memo d)) (reports_of (ledger_waiting d)) (radios_of (ledger_on d)) d.parts.tally (rows_read b (ledger_grid d).cells)
      unfolding entries_test
      radios_bound t {r} e =
          goes unmarked passed
          (e ∙ ap₂ (λ (l : List ℕ) (n : ℕ). bound_test l n d.parts.tally) counted (sym k.waits)
          ∙ goes_two (present_test lines (concat rows) waits heard) (lines_test lines (concat rows)) (bound_test (stale_counts lines rows) (length waits) d.parts.tally) (sym tests ∙ sym said ∙ t))
