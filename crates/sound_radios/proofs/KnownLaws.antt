-- What the tests of desk and pages have shown: that each part fits the tables, and that lines rise and have a missed count.
use mathlib.Core.Path.{◌≡◌, sym, ap}
use mathlib.Core.Bool.{true}
use mathlib.Core.List.{List, map}
use Prim.Native.Nat.{ℕ, ◌≤◌, ◌<◌}
use native.Mathlib.Omega.{arith}
use lib.Dec.{ltb}
use lib.ListN.{length, take, length-take, length-map}
use borrow.Author.Tests.{ltb-true}
use Rattle.terms.specs.Terms.{max_radio, max_on}
use Rattle.lists.specs.Rows.{Rising, UpTo}
use Rattle.lists.specs.Sums.{concat}
use Rattle.lists.specs.Tests.{Each}
use Rattle.lists.proofs.TestsLaws.{all-Each}
use Rattle.rules.specs.Limits.{max_cells, full_memory}
use Rattle.desk.specs.Held.{Ledger, ledger_grid, ledger_waiting, ledger_memo, ledger_on}
use Rattle.desk.specs.Layout.{line_slots, directory_of, grid_of, waiting_of, memo_of, on_of, ledger_of}
use Rattle.desk.specs.Views.{every_report, radios_of, slots_in}
use Rattle.memo.specs.Memo.{lines_of}
use Rattle.sound_clauses.proofs.RadiosLaws.{on_true, memo_true}
use Rattle.sound_clauses.proofs.WaitingLaws.{waiting_true}
use Rattle.sound_pages.specs.PagesSound.{PagesSound}
use Rattle.waiting.specs.Waiting.{reports_of}
use Rattle.waiting.proofs.WaitingLaws.{every_size}
use Rattle.sound_rows.specs.Sound.{missed_test}
use Rattle.sound_desk.specs.Views.{cell_of}
use Rattle.sound_desk.specs.Sound.{desk_sound, Shaped}
use Rattle.sound_desk.proofs.DeskLaws.{desk_shown, desk_tested}
use Rattle.sound_entries.specs.Entries.{rows_read}
use Rattle.sound_radios.specs.Entries.{keyed}
use Rattle.sound_radios.proofs.ReadLaws.{one_row, radios_read, once_read}

pub record Known (b : List ℕ) (d : Ledger) : Type 0 where
  pub few_cells : (ledger_grid d).cells.n ≤ max_cells
  pub few_lines : (ledger_memo d).n ≤ line_slots
  pub few_on : (ledger_on d).n ≤ max_on
  pub few_waiting : (ledger_waiting d).n ≤ full_memory
  pub waits : length (reports_of (ledger_waiting d)) ≡ (ledger_waiting d).n
  pub rise : Rising 0 (lines_of (ledger_memo d))
  pub lines : UpTo max_radio (lines_of (ledger_memo d))
  pub missed : Each (λ l. 0 < l.val.missed) (lines_of (ledger_memo d))
  pub reports_rise : Rising 0 (reports_of (ledger_waiting d))
  pub reports : UpTo max_radio (reports_of (ledger_waiting d))
  pub radios : UpTo max_radio (radios_of (ledger_on d))
  pub radios_rise : Rising 0 (radios_of (ledger_on d))
  pub on_once : (q : ℕ) → keyed q (radios_of (ledger_on d)) ≤ 1
  pub entries : UpTo max_radio (concat (rows_read b (ledger_grid d).cells))
  pub once : (q : ℕ) → keyed q (concat (rows_read b (ledger_grid d).cells)) ≤ max_cells

-- a count that is the length of what it counts lies within the slots
within : {A B : Type 0} (f : A → B) (n size : ℕ) (xs : List A) → length xs ≡ size → n ≡ length (map f (take n xs)) → n ≤ size
within f n size xs l e = omega (arith, length-map (take n xs) f, length-take n xs)

module _ (b : List ℕ) (d : Ledger) (shape : Shaped d) (sound : desk_sound d ≡ true) (sheets : PagesSound d.parts.highest b (ledger_grid d).cells (ledger_grid d).free) where
  counts : ((ledger_grid d).cells.n ≡ length (map cell_of (slots_in (ledger_grid d).cells))) × ((ledger_memo d).n ≡ length (lines_of (ledger_memo d))) × ((ledger_on d).n ≡ length (radios_of (ledger_on d))) × ((ledger_waiting d).n ≡ length (reports_of (ledger_waiting d)))
  unfolding ledger_of grid_of directory_of memo_of on_of waiting_of
  counts =
      let e = desk_shown d shape sound in
      (ap (λ (x : Ledger). (ledger_grid x).cells.n) e, ap (λ (x : Ledger). (ledger_memo x).n) e, ap (λ (x : Ledger). (ledger_on x).n) e, ap (λ (x : Ledger). (ledger_waiting x).n) e)

  pub known : Known b d
  unfolding slots_in lines_of radios_of reports_of missed_test
  known =
      let t = desk_tested d shape sound in
      let m = memo_true (lines_of (ledger_memo d)) t.memo in
      let o = on_true (radios_of (ledger_on d)) t.on in
      let w = waiting_true (reports_of (ledger_waiting d)) t.waiting in
      record {
        few_cells = within cell_of (ledger_grid d).cells.n max_cells d.cells shape.cells counts.0;
        few_lines = within _ (ledger_memo d).n line_slots d.memo shape.memo counts.1;
        few_on = within _ (ledger_on d).n max_on d.on shape.on counts.2;
        few_waiting = within _ (ledger_waiting d).n full_memory (every_report d.waiting) (every_size d.waiting shape.waiting) counts.3;
        waits = sym counts.3;
        rise = m.0;
        lines = m.1;
        missed = all-Each (λ l. ltb 0 l.val.missed) (λ l. 0 < l.val.missed) (lines_of (ledger_memo d)) (λ l e. ltb-true 0 l.val.missed e) t.missed;
        reports_rise = w.1;
        reports = w.2;
        radios = o.2;
        radios_rise = o.1;
        on_once = λ q. one_row q (radios_of (ledger_on d)) o.1;
        entries = radios_read sheets;
        once = once_read sheets (within cell_of (ledger_grid d).cells.n max_cells d.cells shape.cells counts.0);
      }
