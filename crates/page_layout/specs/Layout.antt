-- A page is laid out (01, "Records and pages"): what that is, and the test of it that the program runs.
use Rattle.std.specs.Prelude.{Bool, cond, List, [], ◌∷◌, ◌≡◌, ℕ, ◌+◌, ◌*◌, ◌≤◌, max, eqb, leb, ltb, length, drop, Option, None, Some}
use Rattle.terms.specs.Terms.{Fix, max_radio, page_entries}
use Rattle.lists.specs.Rows.{Rows, Rising, UpTo}
use Rattle.lists.specs.Tests.{both, either, is_some}
use Rattle.page.specs.Page.{page_bytes, head_bytes, entry_bytes, kind_free, kind_first, kind_further, page_of, used, kind, next, cell, count, entries}

-- the bytes are those of some entries; next page and cell are not looked at
pub record LaidOut (b : List ℕ) : Type 0 where
  pub rows : Rows Fix
  pub bytes : b ≡ page_of (kind b) (next b) (cell b) rows
  -- "up to 32 entries"
  pub few : length rows ≤ page_entries
  -- "kind (1 free, 2 first of a cell, 3 further)"
  pub known : (kind_free ≤ kind b) × (kind b ≤ kind_further)
  -- "A free page has no entry, a further page at least one."
  pub free : kind b ≡ kind_free → rows ≡ []
  pub further : kind b ≡ kind_further → 1 ≤ length rows
  -- "entries by rising radio", "A radio number is 1 to 4,095."
  pub rising : Rising 0 rows
  pub radios : UpTo max_radio rows

-- ---- the test

-- the last radio, if they rise from above low up to the greatest number
unfoldable pub climb : ℕ → Rows Fix → Option ℕ
climb low [] = Some low
climb low (e ∷ es) = cond (both (ltb low e.key) (leb e.key max_radio)) (climb e.key es) None

-- the greatest of a list, 0 for none
unfoldable pub top : List ℕ → ℕ
top [] = 0
top (x ∷ l) = max x (top l)

-- a free page has no entry, a first page any number, a further page at least one
unfoldable pub kind_fits : ℕ → ℕ → Bool
kind_fits k n = either (both (eqb k kind_free) (eqb n 0)) (either (eqb k kind_first) (both (eqb k kind_further) (ltb 0 n)))

unfoldable pub laid_out : List ℕ → Bool
laid_out b =
    both (eqb (length b) page_bytes)
    (both (eqb (used b) (head_bytes + entry_bytes * count b))
    (both (kind_fits (kind b) (count b))
    (both (eqb (top (drop (head_bytes + entry_bytes * count b) b)) 0)
    (is_some (climb 0 (entries b))))))
