-- Range (01, "How a record is carried out"): which of the radios on are found, and the list that they give.
use Rattle.std.specs.Prelude.{Bool, false, List, [], ◌∷◌, map, ℕ, get_or, Option, None, Some}
use Rattle.lists.specs.Tests.{is_some}
use Rattle.terms.specs.Terms.{Place}
use Rattle.terms.specs.Values.{place_of}
use Rattle.terms.specs.declared.Place.{Place as HeldPlace}
use Rattle.lists.specs.Rows.{Row, Rows, put_row}
use Rattle.desk.specs.Held.{Directory, Memo, On, Waiting}
use Rattle.desk.specs.Views.{slots_in, radios_of}
use Rattle.memo.specs.Memo.{lines_of}
use Rattle.waiting.specs.Waiting.{reports_of}
use Rattle.range_places.specs.Places.{Places, Sought, places_of}

-- a radio that has a place in the table
abbrev pub is_marked : List (Option HeldPlace) → Row (Unit {0}) → Bool
is_marked table x = is_some (get_or table x.key None)

-- a radio with its place in the table
abbrev pub place_or : Option HeldPlace → Place
place_or None = record { east = 0; north = 0 }
place_or (Some p) = place_of p

abbrev pub row_at : List (Option HeldPlace) → ℕ → Row Place
row_at table r = record { key = r; val = place_or (get_or table r None) }

unfoldable pub rows_at : List (Option HeldPlace) → Rows (Unit {0}) → Rows Place
rows_at table = map (λ x. row_at table x.key)

-- the list of those radios that have a place
unfoldable pub list_held : Places → Rows (Unit {0}) → Rows Place
list_held f [] = []
list_held f (x ∷ xs) = put_row x.key (f x.key) (list_held f xs)

-- "the radios on whose latest place, a waiting report's before a stored one's, lies in the rectangle, by rising number"
unfoldable pub found_in : List ℕ → Sought → Directory → Waiting → Memo → On → Rows Place
found_in b q cells waiting memo on = list_held (places_of b q (slots_in cells) (lines_of memo) (reports_of waiting)) (radios_of on)
