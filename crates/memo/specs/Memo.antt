-- The memo in the desk's array as rows by rising radio (01, "A sound store": "Memo lines by rising radio").
use Rattle.std.specs.Prelude.{map, ◌≡◌, ℕ, ◌≤◌, ◌<◌, take, None}
use Rattle.lists.specs.Rows.{Row, Rows, Rising, find}
use Rattle.rules.specs.Store.{Line as StoreLine, missed_of}
use Rattle.desk.specs.declared.Line.{Line}
use Rattle.desk.specs.Held.{Memo}
use Rattle.desk.specs.Views.{last_of}
use Rattle.desk.specs.Layout.{line_slots, line_of, memo_of}

-- ---- the array as rows

-- a line as a row: its radio is the key
abbrev pub row_of : Line → Row StoreLine
row_of l = record { key = l.radio; val = record { missed = l.missed; last = last_of l } }

-- what stands past the end of a list of rows
abbrev pub no_row : Row StoreLine
no_row = record { key = 0; val = record { missed = 0; last = None } }

-- the rows that the memo holds
unfoldable pub lines_of : Memo → Rows StoreLine
lines_of m = map row_of (take m.n m.lines)

-- a line as the desk lays it out: marked 0 or 1, with the place zero where it has none
abbrev pub Plain : Line → Type 0
Plain l = l ≡ line_of (row_of l)

-- a memo as the desk lays it out: plain lines, and zero in the slots past them
abbrev pub Whole : Memo → Type 0
Whole m = m ≡ memo_of (lines_of m)

-- the greatest missed count that a 16-bit field has room for
abbrev pub most_missed : ℕ
most_missed = 65535

-- the memo as a step of a call finds it: laid out so, by rising radio, and no more lines than there are slots
abbrev pub GoodMemo : Memo → Type 0
GoodMemo m = Whole m × (m.n ≤ line_slots) × Rising 0 (lines_of m)

-- the same, with a slot for a line more
abbrev pub RoomyMemo : Memo → Type 0
RoomyMemo m = Whole m × (m.n < line_slots) × Rising 0 (lines_of m)

-- a radio's missed count may grow by 1
abbrev pub MissFits : ℕ → Memo → Type 0
MissFits r m = missed_of (find (lines_of m) r) < most_missed
