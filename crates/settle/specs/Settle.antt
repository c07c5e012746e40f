-- Settling a cell's chain in the page buffer (01, "Records and pages"): "A freed page goes to the front of the free chain; pages are taken from the front. A
-- chain gives up its last pages first". What is written, as leaves: pages with their bytes.
use Rattle.std.specs.Prelude.{cond, List, [], ◌∷◌, ◌++◌, ℕ, eqb, length, drop}
use Rattle.terms.specs.Terms.{Fix, no_page}
use Rattle.lists.specs.Chains.{chain_head, settled_chain, settled_free}
use Rattle.lists.specs.Rows.{Rows}
use Rattle.page.specs.Page.{kind_first, kind_further, free_page_of}
use Rattle.page.specs.Buffer.{put_page}
use Rattle.rules.specs.Store.{pages_for}
use Rattle.desk.specs.Layout.{Leaf, leaves}
use Rattle.settle.specs.declared.Settled.{Settled}

-- the buffer with each of these pages replaced
unfoldable pub written : List ℕ → List Leaf → List ℕ
written b [] = b
written b (x ∷ l) = put_page (written b l) x.key x.val

-- the kind of a chain's page number k
abbrev pub kind_at : ℕ → ℕ
kind_at k = cond (eqb k 0) kind_first kind_further

-- pages given up: each leads on to the one after it, the last to the front that the free chain had
unfoldable pub given_leaves : ℕ → List ℕ → List Leaf
given_leaves front [] = []
given_leaves front (p ∷ ps) = record { key = p; val = free_page_of (chain_head front ps) } ∷ given_leaves front ps

-- all that settling writes: the cell's pages then, and the pages that it gives up
unfoldable pub settled_leaves : ℕ → List ℕ → List ℕ → Rows Fix → List Leaf
settled_leaves cell chain free rows =
    leaves kind_first cell (settled_chain (pages_for (length rows)) chain free) rows ++ given_leaves (chain_head no_page free) (drop (pages_for (length rows)) chain)

-- where the cell's chain begins then, and the free chain
unfoldable pub settled_ends : List ℕ → List ℕ → Rows Fix → Settled
settled_ends chain free rows = record {
  first = chain_head no_page (settled_chain (pages_for (length rows)) chain free);
  free = chain_head no_page (settled_free (pages_for (length rows)) chain free);
}
