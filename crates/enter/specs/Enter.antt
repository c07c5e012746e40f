-- Entering the waiting reports of a memory cell: what a run of reports makes of the swept cell's table and the memo.
use Rattle.std.specs.Prelude.{List, ◌≡◌, ℕ, ◌+◌, ◌≤◌, ◌<◌, length}
use Rattle.terms.specs.Terms.{Fix, max_on}
use Rattle.lists.specs.Rows.{Rows, Rising, find}
use Rattle.lists.specs.Tests.{Each}
use Rattle.rules.specs.Store.{Report, missed_of}
use Rattle.rules.specs.Flush.{Work, enter_each}
use Rattle.desk.specs.Layout.{line_slots, memo_of}
use Rattle.desk.specs.Held.{Memo, memo_in}
use Rattle.memo.specs.Memo.{lines_of, Whole, most_missed}
use Rattle.desk.specs.declared.Line.{Line}

-- d's entries and the memo, as the reports come in
pub record Held : Type 0 where
  pub table : Rows Fix
  pub memo : Memo

-- the same, of a memo of so many lines in an array that is lent
abbrev pub held_in : Rows Fix → ℕ → List Line → Held
held_in table n lines = record { table = table; memo = memo_in n lines }

-- as rows
abbrev pub work_of : Held → Work
work_of s = record { entries = s.table; memo = lines_of s.memo }

-- these reports have room: the table for the entries that they leave, the memo for a line and a miss more for each
pub record Room (k : Work) (ws : Rows Report) : Type 0 where
  pub rows_rise : Rising 0 k.entries
  pub lines_rise : Rising 0 k.memo
  pub reports_rise : Rising 0 ws
  pub entries_fit : length (enter_each ws k).entries ≤ max_on
  pub lines_fit : length k.memo + length ws ≤ line_slots
  pub misses_fit : Each (λ w. missed_of (find k.memo w.key) < most_missed) ws

-- these reports may come next: the memo is as it is laid out, and there is room
pub record Enterable (from : Held) (ws : Rows Report) : Type 0 where
  pub whole : Whole from.memo
  pub room : Room (work_of from) ws

-- these reports are entered, one after the other
pub record Entered (from : Held) (ws : Rows Report) (to : Held) : Type 0 where
  pub table : to.table ≡ (enter_each ws (work_of from)).entries
  pub memo : to.memo ≡ memo_of (enter_each ws (work_of from)).memo
