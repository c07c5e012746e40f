-- What bytes say that are laid out as a store says: its chains, the headers of their pages and the entries on them. Of the store only "each page is in one chain" is asked.
use mathlib.Core.Path.{◌≡◌, refl, sym, ap, ap₂, ◌∙◌}
use mathlib.Core.Bool.{true}
use mathlib.Core.List.{List, [], ◌∷◌, ◌++◌, map}
use Prim.Native.Nat.{ℕ, ◌+◌, ◌*◌, ◌≤◌, ◌<◌}
use native.Mathlib.Omega.{arith}
use lib.Dec.{eqb, ltb}
use lib.ListN.{length, take, drop, length-take, length-drop, take-append-drop}
use Rattle.terms.specs.Terms.{Fix, pages, page_entries, no_page, no_cell}
use Rattle.lists.specs.Chains.{chain_head, Linked}
use Rattle.lists.specs.Rows.{Rows}
use Rattle.lists.specs.Sums.{count, concat}
use Rattle.lists.specs.Tests.{one_if, Each}
use Rattle.lists.proofs.SumsLaws.{length_below, sum-append, counted_below, count-concat-map}
use Rattle.lists.proofs.TestsLaws.{Each_map, Each_split, Each_zip, concat-map-Each}
use Rattle.page.specs.Page.{kind_free, kind_first, kind_further, free_page_of, kind, next, cell, entries}
use Rattle.page.specs.Buffer.{page_at, buffer_bytes, there, chain_from, at_none, end_from}
use Rattle.page.proofs.PageLaws.{page_fields, entries-page_of}
use Rattle.page.proofs.ChainLaws.{following, bounds_there, Linked_read}
use Rattle.rules.specs.Store.{Cell, Store, pages_for}
use Rattle.rules.specs.WellFormed.{chains, PagesOnce}
use Rattle.desk.specs.Layout.{leaves, cell_leaves, cells_leaves, free_leaves, store_leaves, At, Laid}

-- ---- chains

-- each number of the list is a page, and stands there once
abbrev pub Once : List ℕ → Type 0
Once l = (q : ℕ) → count q l ≤ one_if (ltb q pages)

abbrev Below : List ℕ → Type 0
Below = Each (λ p. p < pages)

module _ (b : List ℕ) where
  -- a chain is read back, from its first page on
  pub record ChainRead (l : List ℕ) : Type 0 where
    pub few : length l ≤ pages
    pub linked : Linked no_page (following b) l
    pub all_there : Each (λ p. there b p ≡ true) l
    pub chain : chain_from pages b (chain_head no_page l) ≡ l
    pub ended : end_from pages b (chain_head no_page l) ≡ at_none

  -- the first page's kind, then further pages
  abbrev pub Kinds : ℕ → List ℕ → Type 0
  Kinds k [] = Unit {0}
  Kinds k (p ∷ ps) = (kind (page_at b p) ≡ k) × Kinds kind_further ps

  -- all that the bytes say of a cell
  pub record CellRead (c : Cell) : Type 0 where
    pub read : ChainRead c.chain
    pub kinds : Kinds kind_first c.chain
    pub numbers : Each (λ p. cell (page_at b p) ≡ c.number) c.chain
    pub entries : length c.entries ≤ page_entries * length c.chain → c.entries ≡ concat (map (λ p. entries (page_at b p)) c.chain)

  pub record FreePage (p : ℕ) : Type 0 where
    pub kind : kind (page_at b p) ≡ kind_free
    pub cell : cell (page_at b p) ≡ no_cell
    pub entries : entries (page_at b p) ≡ []

  pub record FreeRead (l : List ℕ) : Type 0 where
    pub read : ChainRead l
    pub free : Each FreePage l

  -- ---- from leaves

  Linked-leaves : (k n : ℕ) (ps : List ℕ) (es : Rows Fix) → Below ps → Each (At b) (leaves k n ps es) → Linked no_page (following b) ps
  unfolding leaves
  Linked-leaves k n [] es h a = tt
  Linked-leaves k n (p ∷ ps) es h a =
      (omega (arith, h.0), ap next a.0 ∙ (page_fields k (chain_head no_page ps) n (take page_entries es)).2, Linked-leaves kind_further n ps (drop page_entries es) h.1 a.1)

  Linked-free_leaves : (ps : List ℕ) → Below ps → Each (At b) (free_leaves ps) → Linked no_page (following b) ps
  unfolding free_leaves free_page_of
  Linked-free_leaves [] h a = tt
  Linked-free_leaves (p ∷ ps) h a = (omega (arith, h.0), ap next a.0 ∙ (page_fields kind_free (chain_head no_page ps) no_cell []).2, Linked-free_leaves ps h.1 a.1)

  Kinds-leaves : (k n : ℕ) (ps : List ℕ) (es : Rows Fix) → Each (At b) (leaves k n ps es) → Kinds k ps
  unfolding leaves
  Kinds-leaves k n [] es a = tt
  Kinds-leaves k n (p ∷ ps) es a = (ap kind a.0 ∙ (page_fields k (chain_head no_page ps) n (take page_entries es)).1, Kinds-leaves kind_further n ps (drop page_entries es) a.1)

  numbers_leaves : (k n : ℕ) (ps : List ℕ) (es : Rows Fix) → Each (At b) (leaves k n ps es) → Each (λ p. cell (page_at b p) ≡ n) ps
  unfolding leaves
  numbers_leaves k n [] es a = tt
  numbers_leaves k n (p ∷ ps) es a = (ap cell a.0 ∙ (page_fields k (chain_head no_page ps) n (take page_entries es)).3, numbers_leaves kind_further n ps (drop page_entries es) a.1)

  entries-leaves : (k n : ℕ) (ps : List ℕ) (es : Rows Fix) → Each (At b) (leaves k n ps es) → length es ≤ page_entries * length ps → es ≡ concat (map (λ p. entries (page_at b p)) ps)
  unfolding leaves concat
  entries-leaves k n [] [] a h = refl
  entries-leaves k n [] (e ∷ es) a h = absurd (omega arith)
  entries-leaves k n (p ∷ ps) es a h =
      sym (take-append-drop page_entries es)
      ∙ ap₂ (λ (x y : Rows Fix). x ++ y)
      (sym (ap entries a.0 ∙ entries-page_of k (chain_head no_page ps) n (take page_entries es) (rw length-take (omega arith))))
      (entries-leaves kind_further n ps (drop page_entries es) a.1 (rw length-drop (omega arith)))

  free_free_leaves : (ps : List ℕ) → Each (At b) (free_leaves ps) → Each FreePage ps
  unfolding free_leaves free_page_of
  free_free_leaves [] a = tt
  free_free_leaves (p ∷ ps) a =
      let f = page_fields kind_free (chain_head no_page ps) no_cell [] in (
        record { kind = ap kind a.0 ∙ f.1; cell = ap cell a.0 ∙ f.3; entries = ap entries a.0 ∙ entries-page_of kind_free (chain_head no_page ps) no_cell [] (omega arith) },
        free_free_leaves ps a.1,
      )

  pub chain_read : (l : List ℕ) → length b ≡ buffer_bytes → Once l → Linked no_page (following b) l → ChainRead l
  chain_read l size once k =
      let few = length_below pages l once in
      let t = Each_map _ (λ p. there b p ≡ true) l (λ p h. bounds_there b p h (omega arith)) (counted_below pages l once) in
      let r = Linked_read b pages l k t few in
      record { few = few; linked = k; all_there = t; chain = r.0; ended = r.1 }

  pub cell_read : (c : Cell) → length b ≡ buffer_bytes → Once c.chain → Each (At b) (cell_leaves c) → CellRead c
  unfolding cell_leaves
  cell_read c size once a =
      record {
        read = chain_read c.chain size once (Linked-leaves kind_first c.number c.chain c.entries (counted_below pages c.chain once) a);
        kinds = Kinds-leaves kind_first c.number c.chain c.entries a;
        numbers = numbers_leaves kind_first c.number c.chain c.entries a;
        entries = entries-leaves kind_first c.number c.chain c.entries a;
      }

-- ---- both parts of a store

module _ (s : Store) (once : PagesOnce s) (b : List ℕ) (l : Laid s b) where
  Once_parts : (q : ℕ) → count q (concat (map (λ c. c.chain) s.cells)) + count q s.free ≡ one_if (ltb q pages)
  unfolding chains
  Once_parts q = sym (sum-append (λ x. one_if (eqb q x)) (concat (map (λ c. c.chain) s.cells)) s.free) ∙ once q

  leaf_parts : Each (λ c. Each (At b) (cell_leaves c)) s.cells × Each (At b) (free_leaves s.free)
  unfolding store_leaves cells_leaves
  leaf_parts = let t = Each_split (At b) (cells_leaves s.cells) (free_leaves s.free) l.leaf in (concat-map-Each (At b) cell_leaves s.cells t.0, t.1)

  pub cells_read : Each (CellRead b) s.cells
  cells_read =
      Each_zip _ _ (CellRead b) s.cells (λ c h a. cell_read b c l.size (λ q. omega (arith, h q, Once_parts q)) a)
      (count-concat-map (λ c. c.chain) s.cells) leaf_parts.0

  pub free_read : FreeRead b s.free
  free_read =
      let o : Once s.free = λ q. omega (arith, Once_parts q) in
      record {
        read = chain_read b s.free l.size o (Linked-free_leaves b s.free (counted_below pages s.free o) leaf_parts.1);
        free = free_free_leaves b s.free leaf_parts.1;
      }

-- "A cell with e entries has max(1, ⌈e/32⌉) pages": they are enough
abbrev pub Paged : Cell → Type 0
Paged c = length c.chain ≡ pages_for (length c.entries)

pub pages_enough : (c : Cell) → Paged c → length c.entries ≤ page_entries * length c.chain
unfolding pages_for
pages_enough c e = omega arith
