-- A page (01, "Records and pages"): its bytes from what it holds, and what it holds from its bytes.
use Rattle.std.specs.Prelude.{Option, None, Some, cond, eqb, List, [], ◌∷◌, ◌++◌, ℕ, ◌+◌, ◌*◌, ◌-◌, ◌/◌, min, length, replicate}
use Rattle.terms.specs.Terms.{Fix, field_bytes, minute_bytes, page_entries, no_cell}
use Rattle.lists.specs.Parts.{tab}
use Rattle.lists.specs.Rows.{Row, Rows}
use Rattle.lists.specs.Words.{le, word}
use Rattle.page.specs.declared.PageKind.{PageKind}
use Rattle.page.specs.declared.PageKind.TheVariants.{Free, First, Further}

-- "pages become 328 bytes"
abbrev pub page_bytes : ℕ
page_bytes = 328

-- "used bytes are 8 + 10 × entries"
abbrev pub head_bytes : ℕ
head_bytes = 8

abbrev pub entry_bytes : ℕ
entry_bytes = 10

-- "kind (1 free, 2 first of a cell, 3 further)"
abbrev pub kind_free : ℕ
kind_free = 1

abbrev pub kind_first : ℕ
kind_first = 2

abbrev pub kind_further : ℕ
kind_further = 3

-- the number of each kind, and the kind of a number
abbrev pub number_of : PageKind → ℕ
number_of Free = kind_free
number_of First = kind_first
number_of Further = kind_further

abbrev pub kind_numbered : ℕ → Option PageKind
kind_numbered n = cond (eqb n kind_free) (Some Free) (cond (eqb n kind_first) (Some First) (cond (eqb n kind_further) (Some Further) None))

-- ---- bytes

-- "entries of radio, east, north", and the minute "in an entry after north"
unfoldable pub entry_of : Row Fix → List ℕ
entry_of e = le field_bytes e.key ++ (le field_bytes e.val.place.east ++ (le field_bytes e.val.place.north ++ le minute_bytes e.val.minute))

unfoldable pub entries_of : Rows Fix → List ℕ
entries_of [] = []
entries_of (e ∷ es) = entry_of e ++ entries_of es

-- "used bytes .., kind .., next page .., cell"
unfoldable pub head_of : ℕ → ℕ → ℕ → ℕ → List ℕ
head_of used kind next cell = le field_bytes used ++ (le field_bytes kind ++ (le field_bytes next ++ le field_bytes cell))

-- the whole page: "Unused bytes are zero."
unfoldable pub page_of : ℕ → ℕ → ℕ → Rows Fix → List ℕ
page_of kind next cell es =
    head_of (head_bytes + entry_bytes * length es) kind next cell
    ++ (entries_of es ++ replicate (page_bytes - head_bytes - entry_bytes * length es) 0)

-- "A free page has no entry"
unfoldable pub free_page_of : ℕ → List ℕ
free_page_of next = page_of kind_free next no_cell []

-- ---- what the bytes say

unfoldable pub used : List ℕ → ℕ
used b = word field_bytes b 0

unfoldable pub kind : List ℕ → ℕ
kind b = word field_bytes b 2

unfoldable pub next : List ℕ → ℕ
next b = word field_bytes b 4

unfoldable pub cell : List ℕ → ℕ
cell b = word field_bytes b 6

-- how many entries so many used bytes make room for
abbrev pub room_of : ℕ → ℕ
room_of used = min page_entries ((used - head_bytes) / entry_bytes)

unfoldable pub count : List ℕ → ℕ
count b = room_of (used b)

unfoldable pub entry_at : List ℕ → ℕ → Row Fix
entry_at b i = record {
  key = word field_bytes b (head_bytes + entry_bytes * i);
  val = record {
    place = record { east = word field_bytes b (head_bytes + entry_bytes * i + 2); north = word field_bytes b (head_bytes + entry_bytes * i + 4) };
    minute = word minute_bytes b (head_bytes + entry_bytes * i + 6);
  };
}

unfoldable pub entries : List ℕ → Rows Fix
entries b = tab (count b) (entry_at b)
