-- The test of one page by itself: laid out, of its kind and cell, full or the last, radios above those before it, entries in the cell's rectangle and not above the highest minute.
use Rattle.std.specs.Prelude.{Bool, true, List, [], ◌∷◌, ℕ, eqb, leb, ltb}
use Rattle.terms.specs.Terms.{Fix, page_entries, no_page}
use Rattle.lists.specs.Rows.{Row, Rows}
use Rattle.lists.specs.Tests.{both, either, all}
use Rattle.page.specs.Page.{kind, next, cell, count, entries}
use Rattle.page_layout.specs.Layout.{laid_out}
use Rattle.rules.specs.Grid.{inside}
use Rattle.desk.specs.declared.Slot.{Slot}
use Rattle.desk.specs.Views.{edges_of}

-- laid out, of this kind and cell
unfoldable pub is_page : ℕ → ℕ → List ℕ → Bool
is_page k c b = both (laid_out b) (both (eqb (kind b) k) (eqb (cell b) c))

-- "every page but the last full"
unfoldable pub full_or_last : List ℕ → Bool
full_or_last b = either (eqb (next b) no_page) (eqb (count b) page_entries)

-- the first radio, if any, is above low
unfoldable pub starts_above : ℕ → Rows Fix → Bool
starts_above low [] = true
starts_above low (e ∷ es) = ltb low e.key

-- the last radio, low for none
unfoldable pub last_radio : ℕ → Rows Fix → ℕ
last_radio low [] = low
last_radio low (e ∷ es) = last_radio e.key es

abbrev pub inside_of : Slot → Row Fix → Bool
inside_of s e = inside (edges_of s) e.val.place

-- it lies in the cell's rectangle, and is not above the highest minute
abbrev pub belongs : ℕ → Slot → Row Fix → Bool
belongs highest s e = both (inside_of s e) (leb e.val.minute highest)

-- a page of the cell's chain, the last radio before it being low
unfoldable pub page_ok : ℕ → Slot → ℕ → ℕ → List ℕ → Bool
page_ok highest s k low b =
    both (is_page k s.number b)
    (both (full_or_last b)
    (both (starts_above low (entries b))
    (all (belongs highest s) (entries b))))
