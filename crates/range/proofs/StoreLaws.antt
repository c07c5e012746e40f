-- A range on the desk and pages of a well-formed store: what the call asks, and that it is answered as the rules answer.
use mathlib.Core.Path.{◌≡◌, refl, sym, ap, ap₂, ◌∙◌, subst}
use mathlib.Core.List.{List, [], ◌∷◌, map}
use Prim.Native.Nat.{ℕ, ◌*◌, ◌≤◌}
use native.Mathlib.Omega.{arith}
use lib.Dec.{ltb}
use lib.ListN.{length, length-map}
use Rattle.terms.specs.Terms.{Place, Fix, max_radio, max_on, no_page}
use Rattle.lists.specs.Chains.{chain_head}
use Rattle.lists.specs.Rows.{Rows, Rising, UpTo}
use Rattle.lists.specs.Tests.{Each}
use Rattle.lists.proofs.Cases.{by_cases}
use Rattle.lists.proofs.TestsLaws.{Each_map, Each_zip, Each_over_map}
use Rattle.rules.specs.Grid.{Rect}
use Rattle.rules.specs.Store.{Line, Report, Cell, Store}
use Rattle.rules.specs.Sweep.{stale}
use Rattle.rules.specs.Carry.{list_bytes, found, Outcome, answered}
use Rattle.rules.specs.Told.{Told, told_list}
use Rattle.rules.specs.WellFormed.{WellFormed, GoodCell}
use Rattle.desk.specs.declared.Slot.{Slot}
use Rattle.desk.specs.Held.{Directory, On, ledger_grid, ledger_waiting, ledger_memo, ledger_on, Ledger}
use Rattle.desk.specs.Layout.{slot_of, directory_of, grid_of, waiting_of, memo_of, on_of, ledger_of, Laid}
use Rattle.desk.specs.Views.{slots_in, radios_of}
use Rattle.desk.proofs.UniqueLaws.{take_slots}
use Rattle.memo.specs.Memo.{lines_of}
use Rattle.memo.proofs.MemoLaws.{lines_are, count_is, well_memo}
use Rattle.waiting.specs.Waiting.{reports_of}
use Rattle.waiting.proofs.WaitingLaws.{reports_laid, count_laid}
use Rattle.waiting.proofs.OnLaws.{radios_laid, count_on_laid}
use Rattle.desk.proofs.SlotsLaws.{length-slotted}
use Rattle.page.specs.Buffer.{entries_on, entries_from}
use Rattle.sweep.proofs.CellLaws.{Sweepable, well_sweep}
use Rattle.range_places.specs.Places.{Sought, sought, Places, no_places, over, reports_over, slot_over, places_of, Readable}
use Rattle.range.specs.Range.{list_held, found_in}
use Rattle.range.proofs.LatestLaws.{cell_over, table_of, found_table}

-- ---- cells in the directory

-- the pages that a slot leads to have the cell's entries
abbrev pub Read : List ℕ → Cell → Type 0
Read b c = entries_from b (chain_head no_page c.chain) ≡ c.entries

pub cells-Read : (s : Store) (b : List ℕ) → WellFormed s → Laid s b → Each (Read b) s.cells
unfolding entries_from
cells-Read s b w l = Each_map (Sweepable b s.memo) (Read b) s.cells (λ c k. ap (entries_on b) k.read ∙ k.entries) (well_sweep s b w l)

module _ (memo : Rows Line) (b : List ℕ) (look : Sought) where
  slot_cell : (c : Cell) (f : Places) → Read b c → slot_over (stale memo) b look (slot_of c) f ≡ cell_over look memo c f
  unfolding slot_over
  slot_cell c f e = rw e

  pub cells_over : (cells : List Cell) (f : Places) → Each (Read b) cells → over (slot_over (stale memo) b look) (map slot_of cells) f ≡ over (cell_over look memo) cells f
  unfolding over
  cells_over [] f e = refl
  cells_over (c ∷ cs) f e = ap (over (slot_over (stale memo) b look) (map slot_of cs)) (slot_cell c f e.0) ∙ cells_over cs (cell_over look memo c f) e.1

pub slots_Laid : (d : Directory) (cells : List Cell) → d ≡ directory_of cells → slots_in d ≡ map slot_of cells
unfolding slots_in
slots_Laid d cells e = ap (λ (x : Directory). slots_in x) e ∙ take_slots cells

count_slots : (d : Directory) (cells : List Cell) → d ≡ directory_of cells → d.n ≡ length cells
unfolding directory_of
count_slots d cells e = ap (λ (x : Directory). x.n) e

-- ---- the answer

abbrev outcome : Store → Told → Outcome
outcome s t = record { number = t.number; count = t.count; buffer = t.buffer; store = s }

told_answered : (s : Store) (l : Rows Place) (buffer : List ℕ) → outcome s (told_list l buffer) ≡ answered l s buffer
unfolding told_list answered
told_answered s l buffer = by_cases (ltb (length buffer) (list_bytes * length l)) (λ t. rw t) (λ t. rw t)

-- ---- the call

module _ (s : Store) (b : List ℕ) (desk : Ledger) (w : WellFormed s) (l : Laid s b) (held : desk ≡ ledger_of s) where
  pub cells_are : (ledger_grid desk).cells ≡ directory_of s.cells
  unfolding ledger_of grid_of
  cells_are = ap (λ (d : Ledger). (ledger_grid d).cells) held

  pub waiting_is : ledger_waiting desk ≡ waiting_of s.waiting
  unfolding ledger_of
  waiting_is = ap (λ (d : Ledger). ledger_waiting d) held

  pub memo_is : ledger_memo desk ≡ memo_of s.memo
  unfolding ledger_of
  memo_is = ap (λ (d : Ledger). ledger_memo d) held

  pub on_is : ledger_on desk ≡ on_of s.on
  unfolding ledger_of
  on_is = ap (λ (d : Ledger). ledger_on d) held

  radios_Read : Each (λ x. UpTo max_radio (entries_from b x.first)) (slots_in (ledger_grid desk).cells)
  radios_Read =
      subst (λ (x : List Slot). Each (λ y. UpTo max_radio (entries_from b y.first)) x) (sym (slots_Laid (ledger_grid desk).cells s.cells cells_are))
      (Each_over_map _ slot_of s.cells (Each_zip (GoodCell s.cuts) (Read b) _ s.cells (λ c g e. subst (λ (x : Rows Fix). UpTo max_radio x) (sym e) g.radios) w.cells (cells-Read s b w l)))

  slots_on : length desk.on ≡ max_on
  unfolding on_of
  slots_on =
      let keys : List ℕ = map (λ x. x.key) s.on in
      ap (λ (o : On). length o.radios) on_is ∙ length-slotted max_on 0 keys (omega (arith, w.few_on, length-map s.on (λ x. x.key)))

  pub range_asks : Readable b (ledger_grid desk).cells (ledger_waiting desk) (ledger_memo desk) × (length desk.on ≡ max_on) × ((ledger_on desk).n ≤ max_on) × UpTo max_radio (radios_of (ledger_on desk))
  range_asks = (
    record {
      few_cells = omega (arith, count_slots (ledger_grid desk).cells s.cells cells_are, w.few_cells);
      few_waiting = omega (arith, count_laid (ledger_waiting desk) s.waiting waiting_is, w.few_wait);
      few_lines = omega (arith, count_is s.memo memo_is, well_memo s w);
      entry_radios = radios_Read;
      report_radios = subst (λ (x : Rows Report). UpTo max_radio x) (sym (reports_laid waiting_is)) w.waiting_radios;
      line_radios = subst (λ (x : Rows Line). UpTo max_radio x) (sym (lines_are s.memo memo_is)) w.memo_radios;
      lines_rise = subst (λ (x : Rows Line). Rising 0 x) (sym (lines_are s.memo memo_is)) w.memo_rises;
    },
    slots_on,
    omega (arith, count_on_laid (ledger_on desk) s.on on_is, w.few_on),
    subst (λ (x : Rows (Unit {0})). UpTo max_radio x) (sym (radios_laid on_is)) w.radios_on,
  )

  pub places_are : (look : Sought) → places_of b look (slots_in (ledger_grid desk).cells) (lines_of (ledger_memo desk)) (reports_of (ledger_waiting desk)) ≡ table_of look s
  unfolding places_of
  places_are look =
      ap₂ (λ (x : Rows Report) (f : Places). reports_over look x f) (reports_laid waiting_is)
      (ap₂ (λ (m : Rows Line) (x : List Slot). over (slot_over (stale m) b look) x no_places) (lines_are s.memo memo_is) (slots_Laid (ledger_grid desk).cells s.cells cells_are)
      ∙ cells_over s.memo b look s.cells no_places (cells-Read s b w l))

  pub found_is : (rect : Rect) (minute : ℕ) → found_in b (sought rect minute) (ledger_grid desk).cells (ledger_waiting desk) (ledger_memo desk) (ledger_on desk) ≡ found s rect minute
  unfolding found_in
  found_is rect minute =
      ap₂ (λ (f : Places) (x : Rows (Unit {0})). list_held f x) (places_are (sought rect minute)) (radios_laid on_is) ∙ found_table s w rect minute

  pub range_gives : (rect : Rect) (minute : ℕ) (buffer : List ℕ) {number count : ℕ} {after : List ℕ}
      → record { number = number; count = count; buffer = after } ≡ told_list (found_in b (sought rect minute) (ledger_grid desk).cells (ledger_waiting desk) (ledger_memo desk) (ledger_on desk)) buffer
      → record { number = number; count = count; buffer = after; store = s } ≡ answered (found s rect minute) s buffer
  range_gives rect minute buffer e = ap (outcome s) (e ∙ ap (λ (l : Rows Place). told_list l buffer) (found_is rect minute)) ∙ told_answered s (found s rect minute) buffer
