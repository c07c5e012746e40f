-- A table by radio that names where each radio's memo line stands, and what is stale by it (01, "How a record is carried out": "a memo line with another place
-- or none").
use Rattle.std.specs.Prelude.{◌≡◌, Bool, List, ℕ, zero, suc, ◌≤◌, length, get_or, Option, None, Some}
use Rattle.terms.specs.Terms.{Fix, max_radio}
use Rattle.lists.specs.Rows.{Row}
use Rattle.rules.specs.Store.{Line}
use Rattle.rules.specs.Sweep.{stale_by}
use Rattle.desk.specs.Layout.{line_slots, no_line}
use Rattle.memo.specs.Memo.{row_of}
use Rattle.desk.specs.declared.Line.{Line as DeskLine}

-- a number for each radio, and one for 0
abbrev pub table_size : ℕ
table_size = suc max_radio

-- a table of zeros
pub record Blank (t : List ℕ) : Type 0 where
  pub size : length t ≡ table_size
  pub zeros : (q : ℕ) → get_or t q 0 ≡ 0

-- the line at a place in the memo that counts from 1; 0 is for no line
abbrev pub line_named : List DeskLine → ℕ → Option Line
line_named words zero = None
line_named words (suc k) = Some (row_of (get_or words k no_line)).val

-- each number of the table is such a place
pub record Named (words : List DeskLine) (lines : List ℕ) : Type 0 where
  pub size : length words ≡ line_slots
  pub place : (q : ℕ) → get_or lines q 0 ≤ line_slots

-- stale by the line that the table names: there is one "with another place or none"
unfoldable pub judged : List DeskLine → List ℕ → Row Fix → Bool
judged words lines e = stale_by (line_named words (get_or lines e.key 0)) e.val
