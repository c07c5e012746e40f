-- The work table as rows by rising radio ("entries of radio, east, north", "entries by rising radio"; "in an entry after north", the minute).
use Rattle.std.specs.Prelude.{List, map, ◌≡◌, ℕ, ◌≤◌, length}
use Rattle.terms.specs.Terms.{Place, Fix, fix_at, max_on}
use Rattle.lists.specs.Rows.{Row, Rows}
use Rattle.entries.specs.declared.Entry.{Entry}

abbrev pub place_of : Entry → Place
place_of e = record { east = e.east; north = e.north }

abbrev pub fix_of : Entry → Fix
fix_of e = record { place = place_of e; minute = e.minute }

-- an entry as a row: its radio is the key
abbrev pub row_of : Entry → Row Fix
row_of e = record { key = e.radio; val = fix_of e }

-- what stands past the end of a list of entries, and of rows
abbrev pub no_entry : Entry
no_entry = record { radio = 0; east = 0; north = 0; minute = 0 }

abbrev pub no_row : Row Fix
no_row = record { key = 0; val = fix_at 0 0 0 }

-- the rows of a list of entries
abbrev pub rows_of : List Entry → Rows Fix
rows_of entries = map row_of entries

-- an array with as many entries in use as are counted; what the others are is nobody's concern
pub record IsTable (count : ℕ) (entries : List Entry) : Type 0 where
  pub size : length entries ≡ max_on
  pub fits : count ≤ max_on
