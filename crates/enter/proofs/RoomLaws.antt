-- A store in the middle of a call has room for the reports of a memory cell, and what they leave is the flush of it: the swept cell has no stale entry, so it ends with one entry
-- for each radio on at most; each line counts a stale entry, and what is stale and waits is bounded together.
use mathlib.Core.Bool.{Bool, true, not}
use mathlib.Core.List.{List, ◌++◌}
use Rattle.std.specs.Prelude.{Some}
use mathlib.Core.Path.{◌≡◌, ap, ◌∙◌}
use Prim.Native.Nat.{ℕ, ◌+◌, ◌≤◌, ◌<◌}
use native.Mathlib.Omega.{arith}
use lib.ListN.{length}
use Rattle.terms.specs.Terms.{max_on}
use Rattle.lists.specs.Rows.{Row, Rows, find}
use Rattle.lists.specs.Sums.{filter}
use Rattle.lists.specs.Tests.{one_if}
use Rattle.lists.specs.Among.{Among}
use Rattle.lists.proofs.AmongLaws.{sum-Among}
use Rattle.lists.proofs.RowsLaws.{Rising-filter}
use Rattle.lists.proofs.SumsLaws.{sum-cons, sum-le, length-sum, length_middle, length-filter-not}
use Rattle.lists.proofs.TestsLaws.{Each_every, one_if-le}
use Rattle.rules.specs.Limits.{full_memory, sweep_every}
use Rattle.rules.specs.Grid.{inside, Cuts, Box, corner_of}
use Rattle.rules.specs.Store.{Report, Line, Cell, Store, missed_of}
use Rattle.rules.specs.Sweep.{stale, swept_memo, swept}
use Rattle.rules.specs.Flush.{Work, enter_each, in_box, flushed_into, cell_of_box}
use Rattle.rules.specs.WellFormed.{stale_in}
use Rattle.rules.specs.Parts.{Bounded, Core}
use Rattle.rules.specs.Midway.{MidCall}
use Rattle.rules.proofs.BooksLaws.{Clean-swept, stale_sweep_sum, memo_total, entries_total, missed_few}
use Rattle.rules.proofs.RoundLaws.{Bounded_total}
use Rattle.rules.proofs.TilingLaws.{cell_at_split, some_cell}
use Rattle.rules.proofs.FlushLaws.{Books-before, Books-swept, Books_flushed, Clean_flushed, waiting_flushed}
use Rattle.desk.specs.declared.CutList.{CutList}
use Rattle.desk.specs.Held.{Waiting}
use Rattle.desk.specs.Layout.{line_slots, cut_list_of, waiting_of, memo_of}
use Rattle.desk.specs.Views.{cuts_by}
use Rattle.memo.specs.Memo.{most_missed}
use Rattle.memo.proofs.MemoLaws.{lines_are, Whole_is}
use Rattle.boxes.specs.declared.BoxAt.{BoxAt}
use Rattle.boxes.specs.Boxes.{box_in}
use Rattle.waiting.specs.Waiting.{reports_of}
use Rattle.desk.proofs.UniqueLaws.{cuts_Laid}
use Rattle.waiting.proofs.WaitingLaws.{reports_laid, count_laid}
use Rattle.enter.specs.Enter.{Held, work_of, Room, Enterable, Entered}

-- ---- counts

stale_size : (memo : Rows Line) (c : Cell) → stale_in memo c ≤ length c.entries
unfolding stale_in
stale_size memo c = omega (arith, sum-le (λ e. one_if (stale memo e)) (λ _. 1) c.entries (λ e. one_if-le (stale memo e)), length-sum c.entries)

-- ---- d swept, before the reports go in

module _ (m : Box) (s : Store) (d : Cell) (k : Core s) (a : Among s.cells d) (home : inside d.edges (corner_of s.cuts m) ≡ true) where
  abbrev rest : List Cell
  rest = a.before ++ a.after

  abbrev lines : Rows Line
  lines = swept_memo s.memo d.entries

  abbrev reports : Rows Report
  reports = filter (in_box s.cuts m) s.waiting

  abbrev work : Work
  work = record { entries = (swept s.memo d).entries; memo = lines }

  few_enter : length (flushed_into m s d).cell.entries ≤ max_on
  few_enter =
      let f = flushed_into m s d in
      omega (
        arith,
        entries_total s.on k.signed (Books_flushed m s d k a home),
        sum-cons (λ c. length c.entries) f.cell rest,
        sum-cons (stale_in f.store.memo) f.cell rest,
        Clean_flushed m s d k a home,
        sum-le (stale_in f.store.memo) (λ c. length c.entries) rest (stale_size f.store.memo),
        k.signed.few_on,
      )

  few_missed : (r : ℕ) → missed_of (find lines r) < most_missed
  few_missed r = omega (arith, missed_few (Books-swept m s d k a home) r, length_middle a.before d a.after, ap length a.split, k.tiling.few_cells)

  module _ (c : ℕ) (bounded : Bounded s.memo s.cells (length s.waiting) c) (late : c ≤ sweep_every) where
    few_lines : length lines + length reports ≤ line_slots
    few_lines =
        omega (
          arith,
          memo_total (Books-swept m s d k a home),
          sum-cons (stale_in lines) (swept s.memo d) rest,
          Clean-swept d rest (Books-before m s d k a home),
          stale_sweep_sum d rest (Books-before m s d k a home) 0,
          sum-Among (stale_in s.memo) a,
          waiting_flushed m s d k a home,
          Bounded_total s.memo s.cells (length s.waiting) c bounded (some_cell k.tiling),
        )

    room : Room work reports
    unfolding flushed_into swept
    room = record {
      rows_rise = (Books-swept m s d k a home).cells_rowed.0.rising;
      lines_rise = (Books-swept m s d k a home).memo_rises;
      reports_rise = Rising-filter (in_box s.cuts m) 0 s.waiting k.waits.waiting_rises;
      entries_fit = few_enter;
      lines_fit = few_lines;
      misses_fit = Each_every _ reports (λ w. few_missed w.key);
    }

-- ---- the reports of m, apart from the others

module _ (s : Store) (m : Box) (easts norths : CutList) (waiting : Waiting) (east_laid : easts ≡ cut_list_of s.cuts.easts) (north_laid : norths ≡ cut_list_of s.cuts.norths)
    (waits : waiting ≡ waiting_of s.waiting) where
  the_cuts : cuts_by easts norths ≡ s.cuts
  the_cuts = λ i. record { easts = cuts_Laid east_laid i; norths = cuts_Laid north_laid i }

  by_store : (q : Cuts → Row Report → Bool) → filter (q (cuts_by easts norths)) (reports_of waiting) ≡ filter (q s.cuts) s.waiting
  by_store q = rw (reports_laid waits) (ap (λ (x : Cuts). filter (q x) s.waiting) the_cuts)

  -- those that have gone, and those that still wait, in the words of the store
  pub gone_are : {taken : Waiting} → taken ≡ waiting_of (filter (in_box (cuts_by easts norths) m) (reports_of waiting)) → taken ≡ waiting_of (filter (in_box s.cuts m) s.waiting)
  gone_are e = e ∙ ap waiting_of (by_store (λ x w. in_box x m w))

  pub left_are : {left : Waiting} → left ≡ waiting_of (filter (λ w. not (in_box (cuts_by easts norths) m w)) (reports_of waiting)) → left ≡ waiting_of (filter (λ w. not (in_box s.cuts m w)) s.waiting)
  left_are e = e ∙ ap waiting_of (by_store (λ x w. not (in_box x m w)))

-- ---- the call: what it asks, and what it gives

-- the reports are those of m in the store, and the sweep of d has left `from`
module _ (s : Store) (d : Cell) (m : BoxAt) (taken : Waiting) (from : Held) (these : taken ≡ waiting_of (filter (in_box s.cuts (box_in m)) s.waiting))
    (rows : from.table ≡ (swept s.memo d).entries) (held : from.memo ≡ memo_of (swept_memo s.memo d.entries)) where
  the_work : work_of from ≡ record { entries = (swept s.memo d).entries; memo = swept_memo s.memo d.entries }
  the_work = λ i. record { entries = rows i; memo = lines_are (swept_memo s.memo d.entries) held i }

  pub enter_asks : {c : ℕ} → MidCall s c → c ≤ sweep_every → cell_of_box s (box_in m) ≡ Some d → length s.waiting ≤ full_memory → (taken.n ≤ full_memory) × Enterable from (reports_of taken)
  unfolding cell_of_box
  enter_asks {c} g late home few =
      let q = cell_at_split s.cells (corner_of s.cuts (box_in m)) d home in (
        omega (arith, count_laid taken _ these, length-filter-not (in_box s.cuts (box_in m)) s.waiting),
        record {
          whole = Whole_is (swept_memo s.memo d.entries) held;
          room = rw (the_work, reports_laid these) (room (box_in m) s d g.core q.0 q.1 c g.bounded late);
        },
      )

  pub enter_gives : (r : Held) → Entered from (reports_of taken) r
      → (r.table ≡ (flushed_into (box_in m) s d).cell.entries) × (r.memo ≡ memo_of (flushed_into (box_in m) s d).store.memo)
  unfolding flushed_into swept
  enter_gives r e =
      let k : enter_each (reports_of taken) (work_of from) ≡ enter_each (filter (in_box s.cuts (box_in m)) s.waiting) (record { entries = (swept s.memo d).entries; memo = swept_memo s.memo d.entries }) = rw (the_work, reports_laid these) in
      (e.table ∙ ap (λ (x : Work). x.entries) k, e.memo ∙ ap (λ (x : Work). memo_of x.memo) k)
