-- The test of soundness as far as it looks at the desk alone (01, "A sound store"). The desk may be in any condition, with a count beyond its slots or
-- anything in the slots that are not used.
use Rattle.std.specs.Prelude.{Bool, true, List, [], ◌∷◌, map, ◌≡◌, ℕ, ◌*◌, leb, length}
use Rattle.terms.specs.Terms.{max_on}
use Rattle.lists.specs.Rows.{Rows}
use Rattle.lists.specs.Tests.{both, all}
use Rattle.rules.specs.Limits.{max_cells, max_cuts, full_memory}
use Rattle.rules.specs.Grid.{Rect, Cuts}
use Rattle.rules.specs.Store.{Store, Report as StoreReport, Line as StoreLine}
use Rattle.desk.specs.declared.CutList.{CutList}
use Rattle.desk.specs.Held.{On, Waiting, ledger_grid, ledger_waiting, ledger_memo, ledger_on, Ledger}
use Rattle.desk.specs.Layout.{report_fields, line_slots}
use Rattle.desk.specs.Views.{cuts_by, radios_of, slots_in}
use Rattle.memo.specs.Memo.{lines_of}
use Rattle.sound_clauses.specs.Grid.{cuts_test, edges_test, tile_test}
use Rattle.sound_clauses.specs.Cells.{numbers_of, edges_of, numbers_test, round_test}
use Rattle.sound_clauses.specs.Radios.{on_test, memo_test, lasts_test}
use Rattle.sound_clauses.specs.Round.{tally_test}
use Rattle.sound_clauses.specs.Waiting.{waiting_test, places_test, dated_test, few_test}
use Rattle.sound_grid.specs.Sound.{grid_sound}
use Rattle.waiting.specs.Waiting.{reports_of}
use Rattle.sound_rows.specs.Sound.{on_sound, waiting_sound, missed_test, memo_sound}
use Rattle.sound_desk.specs.Views.{cell_of}

-- ---- waiting reports against cuts

unfoldable pub few_sound : CutList → CutList → Waiting → Bool
few_sound easts norths w = few_test (cuts_by easts norths) (reports_of w)

-- ---- the desk

unfoldable pub radios_sound : ℕ → CutList → CutList → Waiting → On → Bool
radios_sound highest easts norths w on = both (waiting_sound highest w) (both (on_sound on) (few_sound easts norths w))

unfoldable pub desk_sound : Ledger → Bool
desk_sound d =
    both (grid_sound (ledger_grid d).easts (ledger_grid d).norths (ledger_grid d).cells)
    (both (radios_sound d.parts.highest (ledger_grid d).easts (ledger_grid d).norths (ledger_waiting d) (ledger_on d)) (both (memo_sound (ledger_memo d)) (tally_test d.parts.tally)))

-- ---- what it says

-- the store that a desk shows: of each chain its first page, and no entries
abbrev pub shown : Ledger → Store
shown d = record {
  cuts = cuts_by (ledger_grid d).easts (ledger_grid d).norths;
  cells = map cell_of (slots_in (ledger_grid d).cells);
  free = (ledger_grid d).free ∷ [];
  waiting = reports_of (ledger_waiting d);
  memo = lines_of (ledger_memo d);
  on = radios_of (ledger_on d);
  tally = d.parts.tally;
  highest = d.parts.highest;
}

-- the mirror's tests that look neither at chains nor at entries, by what they look at
pub record Tests (cuts : Cuts) (numbers : List ℕ) (rects : List Rect) (waits : Rows StoreReport)
    (lines : Rows StoreLine) (heard : Rows (Unit {0})) (c highest : ℕ) : Type 0 where
  pub few : leb (length numbers) max_cells ≡ true
  pub on : on_test heard ≡ true
  pub easts : cuts_test cuts.easts ≡ true
  pub norths : cuts_test cuts.norths ≡ true
  pub numbered : numbers_test numbers ≡ true
  pub edges : all (edges_test cuts) rects ≡ true
  pub tile : tile_test cuts rects ≡ true
  pub memo : memo_test lines ≡ true
  pub missed : missed_test lines ≡ true
  pub lasts : lasts_test lines ≡ true
  pub waiting : waiting_test waits ≡ true
  pub places : places_test waits ≡ true
  pub dated : dated_test highest waits ≡ true
  pub boxed : few_test cuts waits ≡ true
  pub round : round_test numbers ≡ true
  pub tallied : tally_test c ≡ true

abbrev pub DeskTests : Store → Type 0
DeskTests s = Tests s.cuts (numbers_of s.cells) (edges_of s.cells) s.waiting s.memo s.on s.tally s.highest

-- each array has its slots: a value of the type always does
pub record Shaped (d : Ledger) : Type 0 where
  pub easts : length (ledger_grid d).easts.at ≡ max_cuts
  pub norths : length (ledger_grid d).norths.at ≡ max_cuts
  pub cells : length d.cells ≡ max_cells
  pub waiting : length d.waiting ≡ report_fields * full_memory
  pub memo : length d.memo ≡ line_slots
  pub on : length d.on ≡ max_on
