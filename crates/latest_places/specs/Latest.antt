-- The latest place of each radio on (02, Job 5: "by place and whatever their age"), in a table by radio in which every radio has some place.
use Rattle.std.specs.Prelude.{Bool, List, [], ℕ, ◌≤◌, get_or, Some}
use Rattle.terms.specs.Terms.{Place, Fix}
use Rattle.lists.specs.Rows.{Row}
use Rattle.lists.specs.Tests.{Each}
use Rattle.rules.specs.Grid.{square}
use Rattle.rules.specs.Plain.{put_at}
use Rattle.rules.specs.Sweep.{stale}
use Rattle.desk.specs.declared.Line.{Line}
use Rattle.range_places.specs.Places.{Sought, Places, over}

-- every place, whatever its age
abbrev pub anywhere : Sought
anywhere = record { rect = square; since = 0 }

-- no entry is stale, for no memo is looked at
abbrev pub unjudged : Row Fix → Bool
unjudged = stale []

-- ---- a table by radio

abbrev pub place_by : List ℕ → List ℕ → ℕ → Place
place_by easts norths r = record { east = get_or easts r 0; north = get_or norths r 0 }

unfoldable pub places_by : List ℕ → List ℕ → Places
places_by easts norths r = Some (place_by easts norths r)

-- ---- the memo's lines, laid over what the table has

abbrev pub line_over : Line → Places → Places
line_over x f = put_at x.radio (Some (record { east = x.east; north = x.north })) f

unfoldable pub lines_over : List Line → Places → Places
lines_over = over line_over

-- no line is of a radio above this one
abbrev pub LinesUpTo : ℕ → List Line → Type 0
LinesUpTo most = Each (λ x. x.radio ≤ most)
