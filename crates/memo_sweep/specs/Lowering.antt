-- Lines lowered (01, "How a record is carried out"): what is left of a memo whose marked lines have one miss less, those at 0 being dropped.
use Rattle.std.specs.Prelude.{Bool, false, cond, List, [], ◌∷◌, map, ◌≡◌, ℕ, ◌<◌, length, get_or, take, drop, Option, None, Some}
use Rattle.lists.specs.Rows.{Row, Rows, rank, put_row}
use Rattle.rules.specs.Store.{Line}
use Rattle.rules.specs.Sweep.{lowered}
use Rattle.desk.specs.Layout.{line_with, line_of}
use Rattle.desk.specs.declared.Line.{Line as DeskLine}

-- "lower the missed count by 1; drop the line at 0", if it is marked
abbrev pub lower_if : Bool → Line → Option Line
lower_if mark l = cond mark (lowered (Some l)) (Some l)

-- what is left of a line of that radio, if it stays
abbrev pub line_left : ℕ → Option Line → Option DeskLine
line_left r None = None
line_left r (Some l) = Some (line_with r l.missed l.last)

-- every line that stays
unfoldable pub lower_where : (Row Line → Bool) → Rows Line → Rows Line
lower_where mark [] = []
lower_where mark (x ∷ l) = put_row x.key (lower_if (mark x) x.val) (lower_where mark l)

-- the mark at a line's place
abbrev pub mark_of : List Bool → Rows Line → Row Line → Bool
mark_of marks memo x = get_or marks (rank x.key memo) false

-- none of the first n lines is marked
abbrev pub Unmarked : List Bool → ℕ → Type 0
Unmarked marks n = (k : ℕ) → k < n → get_or marks k false ≡ false

-- these rows, k in all, are in the first slots, and those from i on are as they were
pub record MovedUp (rows : Rows Line) (i k : ℕ) (old new : List DeskLine) : Type 0 where
  pub count : k ≡ length rows
  pub front : take k new ≡ map line_of rows
  pub rest : drop i new ≡ drop i old
