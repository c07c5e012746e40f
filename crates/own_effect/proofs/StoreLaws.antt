-- The desk of a well-formed store: what each record's own effect asks of its parts holds, and what it gives are the parts of the store after it.
use mathlib.Core.Bool.{true, cond}
use mathlib.Core.List.{List}
use Rattle.std.specs.Prelude.{None, Some}
use mathlib.Core.Path.{◌≡◌, sym, ap, ◌∙◌, subst}
use Prim.Native.Nat.{ℕ, ◌≤◌, ◌<◌}
use native.Mathlib.Omega.{arith}
use Rattle.terms.specs.Terms.{Fix, max_on}
use Rattle.lists.specs.Rows.{Rows, Rising, find, alter, insert}
use Rattle.rules.specs.Limits.{max_cells, full_memory}
use Rattle.rules.specs.Store.{Report as StoreReport, Line as StoreLine, Store, with_waiting, with_memo, with_on, missed_of, with_highest}
use Rattle.rules.specs.Flush.{raised}
use Rattle.rules.specs.Carry.{on_count, was_new, signed_on, reported, signed_off}
use Rattle.rules.specs.WellFormed.{WellFormed}
use Rattle.rules.proofs.WellLaws.{well_Core}
use Rattle.rules.proofs.BooksLaws.{missed_few}
use Rattle.desk.specs.Held.{Memo, On, Waiting, ledger_grid, ledger_waiting, ledger_memo, ledger_on, Ledger}
use Rattle.desk.specs.Layout.{grid_of, waiting_of, memo_of, on_of, ledger_holding, ledger_of, store_leaves, Laid}
use Rattle.desk.specs.Views.{radios_of}
use Rattle.memo.specs.Memo.{lines_of, RoomyMemo, MissFits}
use Rattle.memo.proofs.MemoLaws.{lines_are, Whole_is, count_is, Rising_is, well_memo}
use Rattle.waiting.specs.Waiting.{reports_of, WholeWaiting, GoodWaiting, RoomyWaiting}
use Rattle.waiting.specs.On.{WholeOn, GoodOn, RoomyOn}
use Rattle.waiting.proofs.WaitingLaws.{reports_laid, whole_laid, count_laid}
use Rattle.waiting.proofs.OnLaws.{radios_laid, WholeOn_laid, count_on_laid}

-- ---- room in the memo

pub well_missed : (s : Store) → WellFormed s → (r : ℕ) → missed_of (find s.memo r) ≤ max_cells
well_missed s w r = omega (arith, missed_few (well_Core s w).books r, w.few_cells)

-- ---- the desk's parts

-- the store with other rows
abbrev with_rows : Store → Rows StoreReport → Rows StoreLine → Rows (Unit {0}) → Store
with_rows s l m o = with_waiting l (with_memo m (with_on o s))

module _ (s : Store) (d : Ledger) (held : d ≡ ledger_of s) where
  pub waiting_held : ledger_waiting d ≡ waiting_of s.waiting
  unfolding ledger_of
  waiting_held = ap ledger_waiting held

  pub memo_held : ledger_memo d ≡ memo_of s.memo
  unfolding ledger_of
  memo_held = ap ledger_memo held

  pub on_held : ledger_on d ≡ on_of s.on
  unfolding ledger_of
  on_held = ap ledger_on held

  -- ---- what is asked

  module _ (w : WellFormed s) where
    waiting_few : d.parts.waiting < full_memory
    waiting_few = omega (arith, count_laid (ledger_waiting d) s.waiting waiting_held, w.few_wait)

    waiting_whole : WholeWaiting (ledger_waiting d)
    waiting_whole = whole_laid (ledger_waiting d) s.waiting waiting_held

    waiting_rises : Rising 0 (reports_of (ledger_waiting d))
    waiting_rises = subst (Rising 0) (sym (reports_laid waiting_held)) w.waiting_rises

    on_whole : WholeOn (ledger_on d)
    on_whole = WholeOn_laid (ledger_on d) s.on on_held

    on_rises : Rising 0 (radios_of (ledger_on d))
    on_rises = subst (Rising 0) (sym (radios_laid on_held)) w.rising_on

    pub report_asks : RoomyWaiting (ledger_waiting d)
    report_asks = (waiting_few, waiting_whole, waiting_rises)

    pub on_asks : on_count s < max_on → RoomyWaiting (ledger_waiting d) × RoomyOn (ledger_on d)
    unfolding on_count
    on_asks room = (report_asks, (omega (arith, count_on_laid (ledger_on d) s.on on_held), on_whole, on_rises))

    pub off_asks : (r : ℕ) → GoodWaiting (ledger_waiting d) × RoomyMemo (ledger_memo d) × MissFits r (ledger_memo d) × GoodOn (ledger_on d)
    off_asks r = (
      ((let h = waiting_few in omega arith), waiting_whole, waiting_rises),
      (Whole_is s.memo memo_held, omega (arith, count_is s.memo memo_held, well_memo s w), Rising_is s.memo memo_held w.memo_rises),
      rw (lines_are s.memo memo_held) (let h = well_missed s w r in omega arith),
      (omega (arith, count_on_laid (ledger_on d) s.on on_held, w.few_on), on_whole, on_rises),
    )

  -- ---- what is given

  -- the desk with other parts
  abbrev with_parts : Waiting → Memo → On → ℕ → Ledger
  with_parts waiting memo on minute = ledger_holding (ledger_grid d) waiting memo on d.parts.tally minute

  given : (l : Rows StoreReport) (m : Rows StoreLine) (o : Rows (Unit {0})) (minute : ℕ) → with_parts (waiting_of l) (memo_of m) (on_of o) minute ≡ ledger_of (with_rows (with_highest minute s) l m o)
  unfolding ledger_of grid_of
  given l m o minute = ap (λ (x : Ledger). ledger_holding (ledger_grid x) (waiting_of l) (memo_of m) (on_of o) x.parts.tally minute) held

  module _ (r : ℕ) where
    module _ (f : Fix) where
      pub on_gives : {waiting : Waiting} {on : On}
          → (waiting ≡ waiting_of (insert r (record { fix = f; new = true }) (reports_of (ledger_waiting d)))) × (on ≡ on_of (insert r tt (radios_of (ledger_on d))))
          → ledger_holding (ledger_grid d) waiting (ledger_memo d) on d.parts.tally f.minute ≡ ledger_of (signed_on r f (with_highest f.minute s))
      unfolding signed_on
      on_gives said =
          (λ i. with_parts (said.0 i) (memo_held i) (said.1 i) f.minute)
          ∙ rw (reports_laid waiting_held, radios_laid on_held) (given (insert r (record { fix = f; new = true }) s.waiting) s.memo (insert r tt s.on) f.minute)

      pub report_gives : {waiting : Waiting} → waiting ≡ waiting_of (alter (λ x. Some (record { fix = f; new = was_new x })) r (reports_of (ledger_waiting d)))
          → ledger_holding (ledger_grid d) waiting (ledger_memo d) (ledger_on d) d.parts.tally f.minute ≡ ledger_of (reported r f (with_highest f.minute s))
      unfolding reported
      report_gives said =
          (λ i. with_parts (said i) (memo_held i) (on_held i) f.minute)
          ∙ rw (reports_laid waiting_held) (given (alter (λ x. Some (record { fix = f; new = was_new x })) r s.waiting) s.memo s.on f.minute)

    pub off_gives : (minute : ℕ) {waiting : Waiting} {memo : Memo} {on : On}
        → (waiting ≡ waiting_of (alter (λ _. None) r (reports_of (ledger_waiting d)))) × (memo ≡ memo_of (cond (was_new (find (reports_of (ledger_waiting d)) r)) (lines_of (ledger_memo d)) (alter (raised None) r (lines_of (ledger_memo d))))) × (on ≡ on_of (alter (λ _. None) r (radios_of (ledger_on d))))
        → ledger_holding (ledger_grid d) waiting memo on d.parts.tally minute ≡ ledger_of (signed_off r (with_highest minute s))
    unfolding signed_off
    off_gives minute said =
        (λ i. with_parts (said.0 i) (said.1 i) (said.2 i) minute)
        ∙ rw (reports_laid waiting_held, radios_laid on_held, lines_are s.memo memo_held)
        (given (alter (λ _. None) r s.waiting) (cond (was_new (find s.waiting r)) s.memo (alter (raised None) r s.memo)) (alter (λ _. None) r s.on) minute)

-- ---- the pages, which no record's own effect changes

module _ (s : Store) (b : List ℕ) (laid : Laid s b) where
  rows_Laid : (l : Rows StoreReport) (m : Rows StoreLine) (o : Rows (Unit {0})) (minute : ℕ) → Laid (with_rows (with_highest minute s) l m o) b
  unfolding store_leaves
  rows_Laid l m o minute = record { size = laid.size; leaf = laid.leaf }

  pub on_Laid : (r : ℕ) (f : Fix) → Laid (signed_on r f (with_highest f.minute s)) b
  unfolding signed_on
  on_Laid r f = rows_Laid _ _ _ _

  pub report_Laid : (r : ℕ) (f : Fix) → Laid (reported r f (with_highest f.minute s)) b
  unfolding reported
  report_Laid r f = rows_Laid _ _ _ _

  pub off_Laid : (r minute : ℕ) → Laid (signed_off r (with_highest minute s)) b
  unfolding signed_off
  off_Laid r minute = rows_Laid _ _ _ _
