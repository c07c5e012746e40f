-- Tests of the cells: numbers, pages and entries (01, "Records and pages", "A sound store").
use Rattle.std.specs.Prelude.{Bool, List, map, ℕ, eqb, leb, ltb, length}
use Rattle.terms.specs.Terms.{Fix, max_radio, pages}
use Rattle.lists.specs.Rows.{Rows}
use Rattle.lists.specs.Tests.{all}
use Rattle.rules.specs.Limits.{max_cells}
use Rattle.rules.specs.Grid.{Rect, inside}
use Rattle.rules.specs.Store.{Cell, pages_for}
use Rattle.sound_clauses.specs.Loops.{keys, rises_to, each_once, once_at_most}

-- ---- parts of the cells

abbrev pub numbers_of : List Cell → List ℕ
numbers_of cells = map (λ c. c.number) cells

abbrev pub edges_of : List Cell → List Rect
edges_of cells = map (λ c. c.edges) cells

abbrev pub rows_of : List Cell → List (Rows Fix)
rows_of cells = map (λ c. c.entries) cells

-- ---- tests

-- "The cells .. have numbers from 0 to 63"
unfoldable pub numbers_test : List ℕ → Bool
numbers_test numbers = all (λ n. ltb n max_cells) numbers

-- "The round names each cell once."
unfoldable pub round_test : List ℕ → Bool
round_test numbers = once_at_most max_cells numbers

-- "Each page is in one chain": the pages of all chains, the free one too
unfoldable pub pages_test : List ℕ → Bool
pages_test chained = each_once pages chained

-- "A cell with e entries has max(1, ⌈e/32⌉) pages"
unfoldable pub chain_test : List ℕ → Rows Fix → Bool
chain_test chain es = eqb (length chain) (pages_for (length es))

-- "entries by rising radio", "one a radio in each cell", "A radio number is 1 to 4,095."
unfoldable pub radios_test : Rows Fix → Bool
radios_test es = rises_to max_radio 0 (keys es)

-- "Entries lie in their cell's rectangle"
unfoldable pub inside_test : Rect → Rows Fix → Bool
inside_test edges es = all (λ e. inside edges e.val.place) es

-- no "entry .. above" the highest minute
unfoldable pub minutes_test : ℕ → Rows Fix → Bool
minutes_test highest es = all (λ e. leb e.val.minute highest) es
