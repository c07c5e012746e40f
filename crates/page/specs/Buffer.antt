-- The page buffer (01, "Records and pages"): 128 pages one after the other, and chains of them by next page.
use Rattle.std.specs.Prelude.{Bool, cond, List, [], ◌∷◌, map, ℕ, zero, suc, ◌+◌, ◌*◌, eqb, leb, ltb, length, take}
use Rattle.terms.specs.Terms.{Fix, pages, no_page}
use Rattle.lists.specs.Parts.{part, put}
use Rattle.lists.specs.Rows.{Rows}
use Rattle.lists.specs.Sums.{concat}
use Rattle.lists.specs.Tests.{both}
use Rattle.page.specs.Page.{page_bytes, next, entries}
use Rattle.page.specs.declared.Chain.{Chain}
use Rattle.page.specs.declared.ChainEnd.{ChainEnd}
use Rattle.page.specs.declared.ChainEnd.TheVariants.{Ended, PastBound, NotThere}

-- "The page buffer isn't 25,600 bytes.", which Job 3 makes 41,984
abbrev pub buffer_bytes : ℕ
buffer_bytes = page_bytes * pages

-- this page of that buffer
unfoldable pub page_at : List ℕ → ℕ → List ℕ
page_at b p = part b (page_bytes * p) page_bytes

-- the buffer with one page replaced
unfoldable pub put_page : List ℕ → ℕ → List ℕ → List ℕ
put_page b p v = put b (page_bytes * p) v

-- one of the 128 pages, and the buffer reaches to its end
unfoldable pub there : List ℕ → ℕ → Bool
there b p = both (ltb p pages) (leb (page_bytes * p + page_bytes) (length b))

-- the pages that a chain names
abbrev pub pages_of : Chain → List ℕ
pages_of c = take c.n c.pages

-- "A chain runs from a cell's first page .. by next page to 65,535": the pages met, at most as many as there is fuel
unfoldable pub chain_from : ℕ → List ℕ → ℕ → List ℕ
chain_from zero b p = []
chain_from (suc fuel) b p = cond (eqb p no_page) [] (cond (there b p) (p ∷ chain_from fuel b (next (page_at b p))) [])

-- how it ends: at none, past its bound, or at a page that is not there
pub data End : Type 0 where
  at_none : End
  past_bound : End
  not_there : ℕ → End

-- the end that each case of an answer gives
abbrev pub end_of : ChainEnd → End
end_of Ended = at_none
end_of PastBound = past_bound
end_of (NotThere p) = not_there p

abbrev pub bound_end : ℕ → End
bound_end p = cond (eqb p no_page) at_none past_bound

unfoldable pub end_from : ℕ → List ℕ → ℕ → End
end_from zero b p = bound_end p
end_from (suc fuel) b p = cond (eqb p no_page) at_none (cond (there b p) (end_from fuel b (next (page_at b p))) (not_there p))

-- the entries on these pages, one page after the other
unfoldable pub entries_on : List ℕ → List ℕ → Rows Fix
entries_on b ps = concat (map (λ p. entries (page_at b p)) ps)

-- "A chain runs from a cell's first page .. by next page": the entries on its pages
unfoldable pub entries_from : List ℕ → ℕ → Rows Fix
entries_from b first = entries_on b (chain_from pages b first)
