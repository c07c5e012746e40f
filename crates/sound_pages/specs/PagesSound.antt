-- Pages, chains and directory are those of some cells and a free chain (01, "A sound store": "Each page is in one chain, laid out as above. Entries lie in
-- their cell's rectangle, one a radio in each cell."; 02, Job 3). Numbers, edges on cuts, unused slots and all that the memo judges are tested elsewhere.
use Rattle.std.specs.Prelude.{true, List, ◌++◌, map, ◌≡◌, ℕ, ◌≤◌, ltb, length, take}
use Rattle.terms.specs.Terms.{max_radio, pages, no_page}
use Rattle.lists.specs.Chains.{chain_head}
use Rattle.lists.specs.Rows.{Rising, UpTo}
use Rattle.lists.specs.Sums.{concat, count}
use Rattle.lists.specs.Tests.{Each, one_if}
use Rattle.page.specs.Buffer.{buffer_bytes}
use Rattle.rules.specs.Grid.{inside}
use Rattle.rules.specs.Store.{Cell, pages_for}
use Rattle.desk.specs.Held.{Directory}
use Rattle.desk.specs.Layout.{slot_of, At, cells_leaves, free_leaves}

-- what pages and entries of a cell must be, wherever its edges lie
pub record CellSound (highest : ℕ) (c : Cell) : Type 0 where
  -- "A cell with e entries has max(1, ⌈e/32⌉) pages"
  pub paged : length c.chain ≡ pages_for (length c.entries)
  -- "entries by rising radio", "one a radio in each cell", "A radio number is 1 to 4,095."
  pub rising : Rising 0 c.entries
  pub radios : UpTo max_radio c.entries
  -- "Entries lie in their cell's rectangle"
  pub placed : Each (λ e. inside c.edges e.val.place ≡ true) c.entries
  -- "a sound store has no entry .. above it"
  pub dated : Each (λ e. e.val.minute ≤ highest) c.entries

pub record PagesSound (highest : ℕ) (bytes : List ℕ) (directory : Directory) (free : ℕ) : Type 0 where
  -- in the order of the directory
  pub cells : List Cell
  pub free_chain : List ℕ
  pub size : length bytes ≡ buffer_bytes
  -- the directory's slots are those of the cells, and the front is that of the free chain
  pub number : directory.n ≡ length cells
  pub shown : take directory.n directory.slots ≡ map slot_of cells
  pub front : free ≡ chain_head no_page free_chain
  -- "laid out as above"
  pub leaf : Each (At bytes) (cells_leaves cells)
  pub free_leaf : Each (At bytes) (free_leaves free_chain)
  -- "Each page is in one chain"
  pub once : (p : ℕ) → count p (concat (map (λ c. c.chain) cells) ++ free_chain) ≡ one_if (ltb p pages)
  pub good : Each (CellSound highest) cells
