-- One report after the other: what the next ones have room for, and what they leave.
use mathlib.Core.Bool.{false}
use mathlib.Core.List.{List, [], ◌∷◌}
use Rattle.std.specs.Prelude.{Option, None, Some}
use mathlib.Core.Path.{◌≡◌, refl, sym, ap, ◌∙◌, subst}
use Prim.Native.Nat.{ℕ, ◌+◌, ◌*◌, ◌≤◌, ◌<◌}
use native.Mathlib.Omega.{arith}
use native.Mathlib.Numerals.{add-one}
use lib.ListN.{length, get_or, set, drop, drop_of_length-le}
use lib.Seq.{drop-cons}
use borrow.Author.Tests.{eq-eqb, ne_eqb}
use Rattle.terms.specs.Terms.{Fix, fix_at, max_on}
use Rattle.lists.specs.Rows.{Row, Rows, Rising, IsAt, find, alter, insert}
use Rattle.lists.specs.Tests.{one_if, is_some}
use Rattle.lists.proofs.RowsLaws.{Rising_less, Rising-alter, Rising_above, length-alter, length-alter-le, find-alter_other, count_found_one}
use Rattle.lists.proofs.TestsLaws.{Each_zip, one_if-le}
use Rattle.lists.specs.Words.{wide}
use Rattle.lists.proofs.KeyedLaws.{insert_over}
use Rattle.entries.specs.declared.Entry.{Entry}
use Rattle.entries.specs.Entries.{row_of as entry_row, fix_of, no_row}
use Rattle.lists.proofs.AlterLaws.{find_at}
use Rattle.rules.specs.Limits.{full_memory}
use Rattle.rules.specs.Store.{Line, Report as StoreReport}
use Rattle.rules.specs.Flush.{placed, raised, entered, Work, enter, enter_each}
use Rattle.desk.specs.Held.{Memo, Waiting, memo_in, waiting_with}
use Rattle.desk.specs.declared.Report.{Report}
use Rattle.desk.specs.Layout.{line_slots, memo_of, no_report, report_fields}
use Rattle.desk.specs.Views.{every_report}
use Rattle.memo.specs.Memo.{lines_of, GoodMemo, RoomyMemo, MissFits}
use Rattle.memo.proofs.MemoLaws.{lines_are, Whole_is, count_is}
use Rattle.waiting.specs.Waiting.{waits, row_of, reports_of}
use Rattle.waiting.proofs.WaitingLaws.{no_row as no_report_row, every_size, length_reports, reports_get}
use Rattle.enter.specs.Enter.{Held, held_in, work_of, Room, Enterable, Entered}
use Rattle.desk.specs.declared.Line.{Line as DeskLine}

-- ---- the reports that come next

-- no entry goes
length_entered : (b : ℕ) (ws : Rows StoreReport) (k : Work) → Rising b ws → Rising 0 k.entries → length k.entries ≤ length (enter_each ws k).entries
unfolding enter_each enter
length_entered b [] k a r = omega arith
length_entered b (w ∷ ws) k a r =
    let h : 0 < w.key = omega arith in
    omega (
      arith,
      length_entered w.key ws (enter w k) a.1 (Rising-alter (λ _. Some w.val.fix) 0 w.key k.entries h r),
      length-alter (λ _. Some w.val.fix) 0 w.key k.entries h r,
      count_found_one w.key (find k.entries w.key),
      one_if-le (is_some (find k.entries w.key)),
    )

module _ (w : Row StoreReport) (ws : Rows StoreReport) (k : Work) (r : Room k (w ∷ ws)) where
  named : 0 < w.key
  named = r.reports_rise.0

  abbrev line : Option Line → Option Line
  line = entered (is_some (find k.entries w.key)) w.val.new w.val.fix.place

  rows_then : Rising 0 (enter w k).entries
  unfolding enter
  rows_then = Rising-alter (λ _. Some w.val.fix) 0 w.key k.entries named r.rows_rise

  entries_then : length (enter w k).entries ≤ max_on
  unfolding enter_each
  entries_then = omega (arith, r.entries_fit, length_entered w.key ws (enter w k) r.reports_rise.1 rows_then)

  Room_one : Room k (w ∷ [])
  unfolding enter_each
  Room_one = record {
    rows_rise = r.rows_rise;
    lines_rise = r.lines_rise;
    reports_rise = (named, tt);
    entries_fit = entries_then;
    lines_fit = omega (arith, r.lines_fit);
    misses_fit = (r.misses_fit.0, tt);
  }

  -- a report changes the line of its own radio only
  Room_next : Room (enter w k) ws
  unfolding enter enter_each
  Room_next = record {
    rows_rise = rows_then;
    lines_rise = Rising-alter line 0 w.key k.memo named r.lines_rise;
    reports_rise = Rising_less 0 w.key ws (omega (arith, named)) r.reports_rise.1;
    entries_fit = r.entries_fit;
    lines_fit = omega (arith, r.lines_fit, length-alter-le line 0 w.key k.memo named r.lines_rise);
    misses_fit = Each_zip _ _ _ ws
        (λ x h a. rw (find-alter_other line 0 w.key k.memo named r.lines_rise x.key (λ z. omega arith)) h)
        r.misses_fit.1 (Rising_above w.key ws r.reports_rise.1);
  }

-- ---- table and memo as they are laid out

module _ {s t : Held} {ws : Rows StoreReport} (done : Entered s ws t) where
  entered_work : work_of t ≡ enter_each ws (work_of s)
  entered_work = λ i. record { entries = done.table i; memo = lines_are (enter_each ws (work_of s)).memo done.memo i }

  entered_ready : (vs : Rows StoreReport) → Room (enter_each ws (work_of s)) vs → Enterable t vs
  entered_ready vs r = record {
    whole = Whole_is (enter_each ws (work_of s)).memo done.memo;
    room = subst (λ (k : Work). Room k vs) (sym entered_work) r;
  }

-- ---- one report

module _ (table : Rows Fix) (lines : ℕ) (words : List DeskLine) (e : Report) (ready : Enterable (held_in table lines words) (row_of e ∷ [])) where
  memo_fits : lines < line_slots
  memo_fits = omega (arith, count_is (lines_of (memo_in lines words)) ready.whole, ready.room.lines_fit)

  pub memo_ready : GoodMemo (memo_in lines words)
  memo_ready = (ready.whole, omega (arith, memo_fits), ready.room.lines_rise)

  pub memo_roomy : RoomyMemo (memo_in lines words) × MissFits e.radio (memo_in lines words)
  memo_roomy = ((ready.whole, memo_fits, ready.room.lines_rise), ready.room.misses_fit.0)

  abbrev fix : Fix
  fix = fix_at e.east e.north (wide e.low e.high)

  module _ (lacks : find table e.radio ≡ None) where
    pub missing_fits : length table < max_on
    unfolding enter_each enter
    missing_fits =
        omega (
          arith,
          length-alter (λ _. Some fix) 0 e.radio table ready.room.reports_rise.0 ready.room.rows_rise,
          count_found_one e.radio (find table e.radio),
          ap one_if (ap is_some lacks),
          ready.room.entries_fit,
        )

    module _ {x : Entry} (told : x ≡ record { radio = e.radio; east = e.east; north = e.north; minute = wide e.low e.high }) {after : Rows Fix} (put : after ≡ insert x.radio (fix_of x) table) where
      adds : {m : Memo} → m ≡ memo_of (alter (entered false (waits e).new (waits e).fix.place) e.radio (lines_of (memo_in lines words)))
          → Entered (held_in table lines words) (row_of e ∷ []) (record { table = after; memo = m })
      unfolding enter_each enter
      adds k = record { table = put ∙ ap (λ (y : Entry). insert y.radio (fix_of y) table) told; memo = rw lacks k }

      -- a miss more, where it is not marked new
      pub adds_raised : {m : Memo} → e.new ≡ 0 → m ≡ memo_of (alter (raised (Some fix.place)) e.radio (lines_of (memo_in lines words)))
          → Entered (held_in table lines words) (row_of e ∷ []) (record { table = after; memo = m })
      adds_raised h k = adds (rw (eq-eqb e.new 0 h) k)

      pub adds_placed : {m : Memo} → (e.new ≡ 0 → ⊥) → m ≡ memo_of (alter (placed (Some fix.place)) e.radio (lines_of (memo_in lines words)))
          → Entered (held_in table lines words) (row_of e ∷ []) (record { table = after; memo = m })
      adds_placed h k = adds (rw (ne_eqb e.new 0 h) k)

  pub moves : {at : ℕ} → IsAt table e.radio at → {x : Entry} → x ≡ record { radio = e.radio; east = e.east; north = e.north; minute = wide e.low e.high } → {after : Rows Fix} → after ≡ set table at (entry_row x)
      → {m : Memo} → m ≡ memo_of (alter (placed (Some fix.place)) e.radio (lines_of (memo_in lines words))) → Entered (held_in table lines words) (row_of e ∷ []) (record { table = after; memo = m })
  unfolding enter_each enter
  moves {at} found told put k =
      let there = find_at table ready.room.rows_rise e.radio found no_row in
      record { table = put ∙ ap (λ (y : Entry). set table at (entry_row y)) told ∙ insert_over table ready.room.rows_rise e.radio _ found no_row; memo = rw there k }

-- ---- one report after the other

-- the first i reports are entered: what the others still leave is what all leave
pub record Entering (w : Waiting) (from : Held) (i : ℕ) (to : Held) : Type 0 where
  pub ready : Enterable to (drop i (reports_of w))
  pub same : enter_each (drop i (reports_of w)) (work_of to) ≡ enter_each (reports_of w) (work_of from)

pub Entering_start : (w : Waiting) {s : Held} → Enterable s (reports_of w) → Entering w s 0 s
Entering_start w r = record { ready = r; same = refl }

module _ {n : ℕ} {vs : List ℕ} {from to : Held} {i : ℕ} (done : Entering (waiting_with n vs) from i to) (fits : n ≤ full_memory) (size : length vs ≡ report_fields * full_memory) where
  abbrev reports : Rows StoreReport
  reports = reports_of (waiting_with n vs)

  how_many : length reports ≡ n
  how_many = length_reports (waiting_with n vs) (every_size vs size) fits

  module _ (more : i < n) {e : Report} (read : e ≡ get_or (every_report vs) i no_report) where
    abbrev later : Rows StoreReport
    later = drop (i + 1) reports

    left_next : drop i reports ≡ row_of e ∷ later
    left_next = drop-cons reports i no_report_row (rw how_many more) ∙ rw (add-one, reports_get (waiting_with n vs) (every_size vs size) fits i more, ← read)

    ready_here : Enterable to (row_of e ∷ later)
    ready_here = subst (λ (l : Rows StoreReport). Enterable to l) left_next done.ready

    pub Entering_ready : Enterable to (row_of e ∷ [])
    Entering_ready = record { whole = ready_here.whole; room = Room_one (row_of e) later (work_of to) ready_here.room }

    pub Entering_turn : {r : Held} → Entered to (row_of e ∷ []) r → Entering (waiting_with n vs) from (i + 1) r
    unfolding enter_each
    Entering_turn {r} d = record {
      ready = entered_ready d later (Room_next (row_of e) later (work_of to) ready_here.room);
      same = ap (enter_each later) (entered_work d) ∙ ap (λ (l : Rows StoreReport). enter_each l (work_of to)) (sym left_next) ∙ done.same;
    }

  pub Entering_end : n ≤ i → Entered from (reports_of (waiting_with n vs)) to
  unfolding enter_each
  Entering_end h =
      let none_left : drop i reports ≡ [] = drop_of_length-le reports {i = i} (rw how_many h) in
      let k : work_of to ≡ enter_each reports (work_of from) = ap (λ (l : Rows StoreReport). enter_each l (work_of to)) (sym none_left) ∙ done.same in
      record {
        table = ap (λ (x : Work). x.entries) k;
        memo = done.ready.whole ∙ ap (λ (x : Work). memo_of x.memo) k;
      }
