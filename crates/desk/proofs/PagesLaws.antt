-- The bytes laid out as a store says are `pages_of` of it, and no others. All that is asked of the store is that each page stands once in its chains.
use mathlib.Core.Path.{◌≡◌, refl, ap, ap₂, ◌∙◌}
use mathlib.Core.List.{List, [], ◌∷◌, ◌++◌, map, map-append}
use Prim.Native.Nat.{ℕ, ◌≤◌, ◌<◌}
use native.Mathlib.Nat.{not-suc-le-zero}
use native.Mathlib.Omega.{arith}
use lib.Dec.{eqb, ltb}
use lib.ListN.{length, take, drop, length-replicate, length-take}
use borrow.Author.Tests.{eqb-true, eq-eqb, lt-ltb, ltb-true}
use Rattle.terms.specs.Terms.{Fix, pages, page_entries, no_page, no_cell}
use Rattle.lists.specs.Chains.{chain_head}
use Rattle.lists.specs.Parts.{tab}
use Rattle.lists.specs.Rows.{Rows, find}
use Rattle.lists.specs.Sums.{sum_by, count, concat}
use Rattle.lists.specs.Tests.{one_if, Each}
use Rattle.lists.proofs.Cases.{by_cases}
use Rattle.lists.proofs.PartsLaws.{tab_ext, length_pieces, part_pieces, pieces_of}
use Rattle.lists.proofs.SumsLaws.{count_head}
use Rattle.lists.proofs.TestsLaws.{Each-append, Each-concat-map, Each_every, one_if-le}
use Rattle.page.specs.Page.{page_bytes, kind_free, kind_further, free_page_of}
use Rattle.page.specs.Buffer.{page_at}
use Rattle.page.proofs.PageLaws.{length-page_of}
use Rattle.rules.specs.Store.{Cell, Store}
use Rattle.rules.specs.WellFormed.{chains, PagesOnce}
use Rattle.desk.specs.Layout.{Leaf, leaves, cell_leaves, cells_leaves, free_leaves, store_leaves, At, Laid, or_zeros, pages_of}

-- ---- the leaves' pages are the chains, in order

abbrev pub keys : {Val : Type 0} → Rows Val → List ℕ
keys l = map (λ x. x.key) l

pub keys-leaves : (kind cell : ℕ) (ps : List ℕ) (es : Rows Fix) → keys (leaves kind cell ps es) ≡ ps
unfolding leaves
keys-leaves kind cell [] es = refl
keys-leaves kind cell (p ∷ ps) es = ap (λ (l : List ℕ). p ∷ l) (keys-leaves kind_further cell ps (drop page_entries es))

pub keys-cell_leaves : (c : Cell) → keys (cell_leaves c) ≡ c.chain
unfolding cell_leaves
keys-cell_leaves c = keys-leaves _ _ c.chain c.entries

pub keys-cells_leaves : (cells : List Cell) → keys (cells_leaves cells) ≡ concat (map (λ c. c.chain) cells)
unfolding cells_leaves concat
keys-cells_leaves [] = refl
keys-cells_leaves (c ∷ cs) = map-append (λ x. x.key) (cell_leaves c) (concat (map cell_leaves cs)) ∙ ap₂ (λ (x y : List ℕ). x ++ y) (keys-cell_leaves c) (keys-cells_leaves cs)

pub keys-free_leaves : (ps : List ℕ) → keys (free_leaves ps) ≡ ps
unfolding free_leaves
keys-free_leaves [] = refl
keys-free_leaves (p ∷ ps) = ap (λ (l : List ℕ). p ∷ l) (keys-free_leaves ps)

pub keys-store_leaves : (s : Store) → keys (store_leaves s) ≡ chains s
unfolding store_leaves chains
keys-store_leaves s =
    map-append (λ x. x.key) (cells_leaves s.cells) (free_leaves s.free) ∙ ap₂ (λ (x y : List ℕ). x ++ y) (keys-cells_leaves s.cells) (keys-free_leaves s.free)

-- ---- each leaf is a whole page

abbrev pub Whole : Leaf → Type 0
Whole x = length x.val ≡ page_bytes

pub Whole-leaves : (kind cell : ℕ) (ps : List ℕ) (es : Rows Fix) → Each Whole (leaves kind cell ps es)
unfolding leaves
Whole-leaves kind cell [] es = tt
Whole-leaves kind cell (p ∷ ps) es =
    (length-page_of kind (chain_head no_page ps) cell (take page_entries es) (rw length-take (omega arith)), Whole-leaves kind_further cell ps (drop page_entries es))

pub Whole-cell_leaves : (c : Cell) → Each Whole (cell_leaves c)
unfolding cell_leaves
Whole-cell_leaves c = Whole-leaves _ _ c.chain c.entries

pub Whole-free_leaves : (ps : List ℕ) → Each Whole (free_leaves ps)
unfolding free_leaves free_page_of
Whole-free_leaves [] = tt
Whole-free_leaves (p ∷ ps) = (length-page_of kind_free (chain_head no_page ps) no_cell [] (omega arith), Whole-free_leaves ps)

pub Whole-store_leaves : (s : Store) → Each Whole (store_leaves s)
unfolding store_leaves cells_leaves
Whole-store_leaves s =
    Each-append Whole (cells_leaves s.cells) (free_leaves s.free) (Each-concat-map Whole cell_leaves s.cells (Each_every _ s.cells Whole-cell_leaves)) (Whole-free_leaves s.free)

-- ---- what is found among leaves

found_Whole : (l : List Leaf) (p : ℕ) → Each Whole l → length (or_zeros (find l p)) ≡ page_bytes
unfolding find
found_Whole [] p a = length-replicate {A = ℕ} page_bytes 0
found_Whole (x ∷ l) p a = by_cases (eqb p x.key) (λ t. rw t a.0) (λ t. rw t (found_Whole l p a.1))

-- what stands at a leaf's page is what is found
At_found : (b : List ℕ) (l : List Leaf) (p : ℕ) → Each (At b) l → 1 ≤ count p (keys l) → page_at b p ≡ or_zeros (find l p)
unfolding find sum_by
At_found b [] p a h = absurd (not-suc-le-zero h)
At_found b (x ∷ l) p a h =
    by_cases (eqb p x.key)
    (λ t. rw t (ap (page_at b) (eqb-true p x.key t) ∙ a.0))
    (λ t. rw t (At_found b l p a.1 (omega (arith, ap one_if t))))

-- where no page is a leaf's twice, all leaves are found
found_At : (b : List ℕ) (l : List Leaf) → ((p : ℕ) → count p (keys l) ≤ 1) → ((p : ℕ) → 1 ≤ count p (keys l) → page_at b p ≡ or_zeros (find l p)) → Each (At b) l
unfolding find sum_by
found_At b [] h f = tt
found_At b (x ∷ l) h f =
    let e = eq-eqb x.key x.key refl in (
      rw e at (f x.key (count_head x.key (keys l))),
      found_At b l (λ p. omega (arith, h p)) (λ p k. by_cases (eqb p x.key)
          (λ t. absurd (omega (arith, h p, ap one_if t)))
          (λ t. rw t at (f p (omega arith)))),
    )

-- ---- both ways

module _ (s : Store) (once : PagesOnce s) where
  pub leaves_once : (p : ℕ) → count p (keys (store_leaves s)) ≡ one_if (ltb p pages)
  leaves_once p = ap (count p) (keys-store_leaves s) ∙ once p

  pub pages_Laid : (b : List ℕ) → Laid s b → b ≡ pages_of s
  unfolding pages_of page_at
  pages_Laid b l =
      pieces_of page_bytes pages b l.size
      ∙ ap concat (tab_ext pages _ _ (λ p h. At_found b (store_leaves s) p l.leaf (omega (arith, leaves_once p, ap one_if (lt-ltb p pages h)))))

  below : (p : ℕ) → 1 ≤ count p (keys (store_leaves s)) → p < pages
  below p h = by_cases (ltb p pages) (ltb-true p pages) (λ t. absurd (omega (arith, leaves_once p, ap one_if t)))

  At_most_one : (p : ℕ) → count p (keys (store_leaves s)) ≤ 1
  At_most_one p = omega (arith, leaves_once p, one_if-le (ltb p pages))

  pub Laid_pages : Laid s (pages_of s)
  unfolding pages_of page_at
  Laid_pages =
      let f : ℕ → List ℕ = λ p. or_zeros (find (store_leaves s) p) in
      let whole : (p : ℕ) → length (f p) ≡ page_bytes = λ p. found_Whole (store_leaves s) p (Whole-store_leaves s) in
      record {
        size = length_pieces page_bytes pages f whole;
        leaf = found_At (concat (tab pages f)) (store_leaves s) At_most_one (λ p h. part_pieces page_bytes pages f p whole (below p h));
      }
