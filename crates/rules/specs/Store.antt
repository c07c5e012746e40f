-- The store, and a fresh one (01, "What the desk holds", "Records and pages").
use Rattle.std.specs.Prelude.{Bool, not, cond, List, [], ◌∷◌, ℕ, suc, ◌+◌, ◌-◌, ◌/◌, max, eqb, length, Option, None, Some}
use Rattle.terms.specs.Terms.{Place, Fix, pages, page_entries}
use Rattle.lists.specs.Chains.{settled_chain, settled_free}
use Rattle.lists.specs.Parts.{tab}
use Rattle.lists.specs.Rows.{Rows}
use Rattle.lists.specs.Sums.{filter}
use Rattle.rules.specs.Grid.{Rect, Cuts, inside, square}

-- a waiting report; "marked new"
pub record Report : Type 0 where
  pub fix : Fix
  pub new : Bool

-- a memo line: "missed count", "place", or "none"
pub record Line : Type 0 where
  pub missed : ℕ
  pub last : Option Place

-- the missed count of a radio: 0 without a line
abbrev pub missed_of : Option Line → ℕ
missed_of None = 0
missed_of (Some l) = l.missed

-- a cell of the directory with its pages, from the first on, and the entries on them, radio -> fix
pub record Cell : Type 0 where
  pub number : ℕ
  pub edges : Rect
  pub chain : List ℕ
  pub entries : Rows Fix

-- "The desk has cuts, directory, the front of the free chain, waiting reports, memo, who is signed on, the round, and the tally c."
pub record Store : Type 0 where
  pub cuts : Cuts
  -- in the order of the round, its front first
  pub cells : List Cell
  -- the free chain, its front first
  pub free : List ℕ
  -- radio -> report
  pub waiting : Rows Report
  -- radio -> line
  pub memo : Rows Line
  -- radios on
  pub on : Rows (Unit {0})
  pub tally : ℕ
  -- "the highest minute of an accepted sign-on, report or sign-off"
  pub highest : ℕ

-- ---- a cell or a store with another part: what writes every field of them

abbrev pub with_edges : Rect → Cell → Cell
with_edges edges c = record { number = c.number; edges = edges; chain = c.chain; entries = c.entries }

abbrev pub with_chain : List ℕ → Cell → Cell
with_chain chain c = record { number = c.number; edges = c.edges; chain = chain; entries = c.entries }

abbrev pub with_entries : Rows Fix → Cell → Cell
with_entries entries c = record { number = c.number; edges = c.edges; chain = c.chain; entries = entries }

abbrev pub with_cuts : Cuts → Store → Store
with_cuts cuts s = record { cuts = cuts; cells = s.cells; free = s.free; waiting = s.waiting; memo = s.memo; on = s.on; tally = s.tally; highest = s.highest }

abbrev pub with_cells : List Cell → Store → Store
with_cells cells s = record { cuts = s.cuts; cells = cells; free = s.free; waiting = s.waiting; memo = s.memo; on = s.on; tally = s.tally; highest = s.highest }

abbrev pub with_free : List ℕ → Store → Store
with_free free s = record { cuts = s.cuts; cells = s.cells; free = free; waiting = s.waiting; memo = s.memo; on = s.on; tally = s.tally; highest = s.highest }

abbrev pub with_waiting : Rows Report → Store → Store
with_waiting waiting s = record { cuts = s.cuts; cells = s.cells; free = s.free; waiting = waiting; memo = s.memo; on = s.on; tally = s.tally; highest = s.highest }

abbrev pub with_memo : Rows Line → Store → Store
with_memo memo s = record { cuts = s.cuts; cells = s.cells; free = s.free; waiting = s.waiting; memo = memo; on = s.on; tally = s.tally; highest = s.highest }

abbrev pub with_on : Rows (Unit {0}) → Store → Store
with_on on s = record { cuts = s.cuts; cells = s.cells; free = s.free; waiting = s.waiting; memo = s.memo; on = on; tally = s.tally; highest = s.highest }

abbrev pub with_tally : ℕ → Store → Store
with_tally tally s = record { cuts = s.cuts; cells = s.cells; free = s.free; waiting = s.waiting; memo = s.memo; on = s.on; tally = tally; highest = s.highest }

abbrev pub with_highest : ℕ → Store → Store
with_highest highest s = record { cuts = s.cuts; cells = s.cells; free = s.free; waiting = s.waiting; memo = s.memo; on = s.on; tally = s.tally; highest = highest }

-- ---- a fresh store

-- "A fresh store has no cut, one cell (0) on page 0, and pages 1 to 127 free in that order."; its highest minute is "0 when fresh"
unfoldable pub fresh : Store
fresh = record {
  cuts = record { easts = []; norths = [] };
  cells = record { number = 0; edges = square; chain = 0 ∷ []; entries = [] } ∷ [];
  free = tab (pages - 1) suc;
  waiting = [];
  memo = [];
  on = [];
  tally = 0;
  highest = 0;
}

-- ---- cells

-- the cell of a place: its number and its edges together
unfoldable pub cell_at : List Cell → Place → Option Cell
cell_at [] p = None
cell_at (c ∷ cs) p = cond (inside c.edges p) (Some c) (cell_at cs p)

-- every cell but the one with the number n
unfoldable pub others : ℕ → List Cell → List Cell
others n = filter (λ c. not (eqb n c.number))

-- ---- pages

-- "A cell with e entries has max(1, ⌈e/32⌉) pages"
unfoldable pub pages_for : ℕ → ℕ
pages_for e = max 1 ((e + (page_entries - 1)) / page_entries)

-- the cell with the pages that its entries need, and the free chain then
unfoldable pub settled : List ℕ → Cell → Cell
settled free c = with_chain (settled_chain (pages_for (length c.entries)) c.chain free) c

unfoldable pub free_after : List ℕ → Cell → List ℕ
free_after free c = settled_free (pages_for (length c.entries)) c.chain free
