-- Sweep a cell: a cell's entries and the memo's lines both rise by radio, so that both are walked at once; what is reached after a run of entries.
use Rattle.std.specs.Prelude.{Bool, true, List, [], ◌∷◌, ◌++◌, map, ◌≡◌, ℕ, suc, ◌+◌, ◌≤◌, length, set}
use Rattle.terms.specs.Terms.{Fix, pages, max_on}
use Rattle.lists.specs.Rows.{Row, Rows, Rising, rank}
use Rattle.lists.specs.Tests.{Each}
use Rattle.page.specs.declared.Chain.{Chain}
use Rattle.page.specs.Buffer.{there, pages_of, entries_on}
use Rattle.rules.specs.Store.{Line as StoreLine}
use Rattle.rules.specs.Sweep.{stale, swept_entries}
use Rattle.desk.specs.declared.Line.{Line}
use Rattle.desk.specs.Layout.{line_slots}
use Rattle.memo.specs.Memo.{row_of}

-- ---- what is read

-- the rows of the lines in use
abbrev pub rows_in : List Line → Rows StoreLine
rows_in lines = map row_of lines

-- lines by rising radio, no more than there are slots
abbrev pub GoodLines : List Line → Type 0
GoodLines lines = (length lines ≤ line_slots) × Rising 0 (rows_in lines)

-- a chain whose pages are there, with entries by rising radio
abbrev pub ReadableChain : List ℕ → Chain → Type 0
ReadableChain b chain = (chain.n ≤ pages) × Each (λ p. there b p ≡ true) (pages_of chain) × Rising 0 (entries_on b (pages_of chain))

-- ---- a run of entries

-- a mark for each line, and one for the place past the last
abbrev pub line_places : ℕ
line_places = suc line_slots

-- what is reached: how many lines are of radios below the last entry's, which entries stay, and which lines lose one
pub record State : Type 0 where
  pub passed : ℕ
  pub stay : Rows Fix
  pub marks : List Bool

abbrev pub state_of : ℕ → Rows Fix → List Bool → State
state_of passed stay marks = record { passed = passed; stay = stay; marks = marks }

abbrev pub begun : List Bool → State
begun marks = record { passed = 0; stay = []; marks = marks }

-- an entry stays unless it is stale, and marks the place of its radio's line: whether it is
abbrev pub judged : Rows StoreLine → State → Row Fix → State
judged lines s e = record {
  passed = rank e.key lines;
  stay = s.stay ++ swept_entries lines (e ∷ []);
  marks = set s.marks (rank e.key lines) (stale lines e);
}

unfoldable pub walked : Rows StoreLine → State → Rows Fix → State
walked lines s [] = s
walked lines s (e ∷ es) = walked lines (judged lines s e) es

-- these entries may come next: no line that one of them needs is passed, and there is room for those that stay
pub record Ready (lines : Rows StoreLine) (s : State) (es : Rows Fix) : Type 0 where
  pub rising : Rising 0 es
  pub ahead : Each (λ e. s.passed ≤ rank e.key lines) es
  pub room : length s.stay + length (swept_entries lines es) ≤ max_on
