-- The theorem that callers cite: where bytes lay out a store's other cells and its free chain, the bytes after settling lay out the store with that cell settled. And
-- the same for a cell whose pages are all given up.
use mathlib.Core.List.{List, [], ◌∷◌, ◌++◌, map, map-append}
use mathlib.Core.Path.{◌≡◌, refl, sym, ap, ap₂, subst, ◌∙◌}
use Prim.Native.Nat.{ℕ, zero, suc, ◌+◌, ◌-◌, ◌≤◌, ◌<◌}
use native.Mathlib.Omega.{arith}
use lib.Dec.{eqb, ltb}
use lib.ListN.{length, drop}
use lib.Seq.{take_at, drop_at}
use borrow.Author.Tests.{ltb-true, eq-eqb}
use Rattle.terms.specs.Terms.{Fix, pages, no_page, no_cell}
use Rattle.lists.specs.Chains.{chain_head, Linked, settled_chain, settled_free}
use Rattle.lists.specs.Rows.{Rows}
use Rattle.lists.specs.Sums.{sum_by, count, concat}
use Rattle.lists.specs.Tests.{one_if, Each}
use Rattle.lists.proofs.Cases.{by_cases}
use Rattle.lists.proofs.SumsLaws.{sum-append, sum-concat, sum-take-drop, sum-map, sum_middle, counted_below}
use Rattle.lists.proofs.TestsLaws.{Each-append, Each_split, Each_middle, Each-concat-map, concat-map-Each}
use Rattle.page.specs.Page.{kind_free, kind_first, free_page_of, next}
use Rattle.page.specs.Buffer.{buffer_bytes, page_at, put_page, chain_from, at_none, end_from}
use Rattle.page.proofs.BufferLaws.{length-put_page, page_at_same, page_at_other}
use Rattle.page.proofs.ChainLaws.{following}
use Rattle.page.proofs.PageLaws.{length-page_of, page_fields}
use Rattle.rules.specs.Store.{Cell, Store, pages_for, settled, free_after}
use Rattle.rules.specs.WellFormed.{chains, PagesOnce}
use Rattle.rules.proofs.PagedLaws.{sum-chain-settled}
use Rattle.desk.specs.Layout.{Leaf, leaves, cell_leaves, cells_leaves, free_leaves, store_leaves, At, Laid}
use Rattle.desk.proofs.PagesLaws.{keys, Whole, keys-leaves, keys-cells_leaves, keys-free_leaves, Whole-leaves}
use Rattle.desk.proofs.ReadLaws.{ChainRead, chain_read}
use Rattle.settle.specs.Settle.{written, given_leaves, settled_leaves, settled_ends}
use Rattle.settle.specs.declared.Settled.{Settled}
use Rattle.settle.proofs.LoopLaws.{Below}
use Rattle.settle.proofs.PartsLaws.{drop-append, chain_head-append, given_front}

-- ---- lists

count-append : (q : ℕ) (l m : List ℕ) → count q (l ++ m) ≡ count q l + count q m
count-append q l m = sum-append (λ x. one_if (eqb q x)) l m

Each_middle_in : {A : Type 0} (P : A → Type 0) (xs : List A) (d : A) (ys : List A) → P d → Each P (xs ++ ys) → Each P (xs ++ (d ∷ ys))
Each_middle_in P xs d ys p e = let t = Each_split P xs ys e in Each-append P xs (d ∷ ys) t.0 (p, t.1)

-- ---- pages written: those named hold what was written, all others keep every byte

abbrev Fits : Leaf → Type 0
Fits x = (x.key < pages) × Whole x

module _ (c : List ℕ) (x : Leaf) (size : length c ≡ buffer_bytes) (fits : Fits x) where
  length_one : length (put_page c x.key x.val) ≡ buffer_bytes
  length_one = length-put_page c x.key x.val (omega (arith, fits.0)) fits.1 ∙ size

  one_same : page_at (put_page c x.key x.val) x.key ≡ x.val
  one_same = page_at_same c x.key x.val (omega (arith, fits.0)) fits.1

  one_other : (q : ℕ) → one_if (eqb q x.key) ≡ 0 → page_at (put_page c x.key x.val) q ≡ page_at c q
  one_other q h = page_at_other c x.key x.val (omega (arith, fits.0)) fits.1 q (λ e. omega (arith, ap one_if (eq-eqb q x.key e)))

module _ (b : List ℕ) (size : length b ≡ buffer_bytes) where
  pub length-written : (l : List Leaf) → Each Fits l → length (written b l) ≡ buffer_bytes
  unfolding written
  length-written [] f = size
  length-written (x ∷ l) f = length_one (written b l) x (length-written l f.1) f.0

  pub written_other : (l : List Leaf) (q : ℕ) → Each Fits l → count q (keys l) ≡ 0 → page_at (written b l) q ≡ page_at b q
  unfolding written sum_by
  written_other [] q f h = refl
  written_other (x ∷ l) q f h = one_other (written b l) x (length-written l f.1) f.0 q (omega arith) ∙ written_other l q f.1 (omega arith)

  -- what stands in other pages stays
  pub written_keeps : (l m : List Leaf) → Each Fits l → ((q : ℕ) → count q (keys l) + count q (keys m) ≤ 1) → Each (At b) m → Each (At (written b l)) m
  unfolding sum_by
  written_keeps l [] f h e = tt
  written_keeps l (x ∷ m) f h e = (
    written_other l x.key f (omega (arith, h x.key, ap one_if (eq-eqb x.key x.key refl))) ∙ e.0,
    written_keeps l m f (λ q. omega (arith, h q)) e.1,
  )

pub written_same : (b : List ℕ) (l : List Leaf) → length b ≡ buffer_bytes → Each Fits l → ((q : ℕ) → count q (keys l) ≤ 1) → Each (At (written b l)) l
unfolding written sum_by
written_same b [] s f h = tt
written_same b (x ∷ l) s f h =
    let z = length-written b s l f.1 in (
      one_same (written b l) x z f.0,
      written_keeps (written b l) z (x ∷ []) l (f.0, tt) (λ q. omega (arith, h q)) (written_same b l s f.1 (λ q. omega (arith, h q))),
    )

Fits_all : (l : List Leaf) → ((q : ℕ) → count q (keys l) ≤ one_if (ltb q pages)) → Each Whole l → Each Fits l
unfolding sum_by
Fits_all [] h w = tt
Fits_all (x ∷ l) h w = (
  (by_cases (ltb x.key pages) (ltb-true x.key pages) (λ t. absurd (omega (arith, h x.key, ap one_if t, ap one_if (eq-eqb x.key x.key refl)))), w.0),
  Fits_all l (λ q. omega (arith, h q)) w.1,
)

one_le : (q : ℕ) → one_if (ltb q pages) ≤ 1
one_le q = by_cases (ltb q pages) (λ t. omega (arith, ap one_if t)) (λ t. omega (arith, ap one_if t))

-- ---- free leaves

free_leaves-append : (ps qs : List ℕ) → free_leaves (ps ++ qs) ≡ given_leaves (chain_head no_page qs) ps ++ free_leaves qs
unfolding free_leaves given_leaves
free_leaves-append [] qs = refl
free_leaves-append (p ∷ ps) qs = ap₂ (λ n l. record { key = p; val = free_page_of n } ∷ l) (chain_head-append no_page ps qs) (free_leaves-append ps qs)

keys_given : (front : ℕ) (ps : List ℕ) → keys (given_leaves front ps) ≡ ps
unfolding given_leaves
keys_given front [] = refl
keys_given front (p ∷ ps) = ap (λ l. p ∷ l) (keys_given front ps)

Whole_given : (front : ℕ) (ps : List ℕ) → Each Whole (given_leaves front ps)
unfolding given_leaves free_page_of
Whole_given front [] = tt
Whole_given front (p ∷ ps) = (length-page_of kind_free (chain_head front ps) no_cell [] (omega arith), Whole_given front ps)

free_drop : (P : Leaf → Type 0) (k : ℕ) (ps : List ℕ) → Each P (free_leaves ps) → Each P (free_leaves (drop k ps))
unfolding free_leaves
free_drop P zero ps e = e
free_drop P (suc k) [] e = tt
free_drop P (suc k) (p ∷ ps) e = free_drop P k ps e.1

Linked_free : (b ps : List ℕ) → Below ps → Each (At b) (free_leaves ps) → Linked no_page (following b) ps
unfolding free_leaves free_page_of
Linked_free b [] h a = tt
Linked_free b (p ∷ ps) h a = (omega (arith, h.0), ap next a.0 ∙ (page_fields kind_free (chain_head no_page ps) no_cell []).2, Linked_free b ps h.1 a.1)

-- ---- a chain apart from all that the bytes lay out

abbrev pub CellAt : List ℕ → Cell → Type 0
CellAt b c = Each (At b) (cell_leaves c)

abbrev pub chains_of : List Cell → List ℕ
chains_of cells = concat (map (λ c. c.chain) cells)

-- the bytes lay out these cells and this free chain, and the pages of the chain are the other ones
pub record Apart (b : List ℕ) (rest : List Cell) (chain free : List ℕ) : Type 0 where
  pub size : length b ≡ buffer_bytes
  pub cells_laid : Each (CellAt b) rest
  pub free_laid : Each (At b) (free_leaves free)
  pub once : (q : ℕ) → count q (chains_of rest) + (count q chain + count q free) ≡ one_if (ltb q pages)

pub Laid_parts : (s : Store) (b : List ℕ) → Laid s b → Each (CellAt b) s.cells × Each (At b) (free_leaves s.free)
unfolding store_leaves cells_leaves
Laid_parts s b l = let t = Each_split (At b) (cells_leaves s.cells) (free_leaves s.free) l.leaf in (concat-map-Each (At b) cell_leaves s.cells t.0, t.1)

pub parts_Laid : (s : Store) (b : List ℕ) → length b ≡ buffer_bytes → Each (CellAt b) s.cells → Each (At b) (free_leaves s.free) → Laid s b
unfolding store_leaves cells_leaves
parts_Laid s b z e f = record { size = z; leaf = Each-append (At b) (cells_leaves s.cells) (free_leaves s.free) (Each-concat-map (At b) cell_leaves s.cells e) f }

count_chains : (q : ℕ) (cells : List Cell) → count q (chains_of cells) ≡ sum_by (λ c. count q c.chain) cells
count_chains q cells = sum-concat (λ x. one_if (eqb q x)) (map (λ c. c.chain) cells) ∙ sum-map (count q) (λ (c : Cell). c.chain) cells

-- all chains of a store
count_store : (s : Store) (q : ℕ) → count q (chains s) ≡ count q (chains_of s.cells) + count q s.free
unfolding chains
count_store s q = count-append q (chains_of s.cells) s.free

count_middle : (q : ℕ) (xs : List Cell) (d : Cell) (ys : List Cell) → count q (chains_of (xs ++ (d ∷ ys))) ≡ count q (chains_of (xs ++ ys)) + count q d.chain
count_middle q xs d ys = omega (arith, count_chains q (xs ++ (d ∷ ys)), count_chains q (xs ++ ys), sum_middle (λ (c : Cell). count q c.chain) xs d ys)

module _ (s : Store) (once : PagesOnce s) (b : List ℕ) (l : Laid s b) where
  -- one of its cells
  pub Apart_cell : (xs : List Cell) (d : Cell) (ys : List Cell) {chain : List ℕ} → s.cells ≡ xs ++ (d ∷ ys) → chain ≡ d.chain → Apart b (xs ++ ys) chain s.free
  Apart_cell xs d ys e g = record {
    size = l.size;
    cells_laid = (Each_middle (CellAt b) xs d ys (subst (λ (cs : List Cell). Each (CellAt b) cs) e (Laid_parts s b l).0)).1;
    free_laid = (Laid_parts s b l).1;
    once = λ q. omega (arith, once q, count_store s q, ap (λ (cs : List Cell). count q (chains_of cs)) e, count_middle q xs d ys, ap (count q) g);
  }

  -- a cell that has no page yet
  pub Apart_new : {chain : List ℕ} → chain ≡ [] → Apart b s.cells chain s.free
  unfolding sum_by
  Apart_new g = record {
    size = l.size;
    cells_laid = (Laid_parts s b l).0;
    free_laid = (Laid_parts s b l).1;
    once = λ q. omega (arith, once q, count_store s q, ap (count q) g);
  }

-- ---- what is read of them

module _ {b : List ℕ} {rest : List Cell} {chain free : List ℕ} (a : Apart b rest chain free) where
  pub Apart_Below : Below chain
  Apart_Below = counted_below pages chain (λ q. omega (arith, a.once q))

  pub Apart_free : ChainRead b free
  Apart_free =
      let o : (q : ℕ) → count q free ≤ one_if (ltb q pages) = λ q. omega (arith, a.once q) in
      chain_read b free a.size o (Linked_free b free (counted_below pages free o) a.free_laid)

  -- pages of the chain and free ones are written
  rest_kept : (l : List Leaf) → Each Fits l → ((q : ℕ) → count q (keys l) ≤ count q chain + count q free) → Each (CellAt (written b l)) rest
  unfolding cells_leaves
  rest_kept l f h =
      concat-map-Each (At (written b l)) cell_leaves rest
      (written_keeps b a.size l (concat (map cell_leaves rest)) f (λ q. omega (arith, h q, a.once q, one_le q, ap (count q) (keys-cells_leaves rest)))
      (Each-concat-map (At b) cell_leaves rest a.cells_laid))

-- ---- settled

module _ {b : List ℕ} {rest : List Cell} {free : List ℕ} (c : Cell) (a : Apart b rest c.chain free) where
  abbrev need : ℕ
  need = pages_for (length c.entries)

  abbrev wrote : List Leaf
  wrote = settled_leaves c.number c.chain free c.entries

  abbrev after : List ℕ
  after = written b wrote

  keys-wrote : keys wrote ≡ settled_chain need c.chain free ++ drop need c.chain
  unfolding settled_leaves
  keys-wrote =
      map-append (λ x. x.key) (leaves kind_first c.number (settled_chain need c.chain free) c.entries) (given_leaves (chain_head no_page free) (drop need c.chain))
      ∙ ap₂ (λ (x y : List ℕ). x ++ y) (keys-leaves kind_first c.number (settled_chain need c.chain free) c.entries) (keys_given (chain_head no_page free) (drop need c.chain))

  count-wrote : (q : ℕ) → count q (keys wrote) + count q (drop (need - length c.chain) free) ≡ count q c.chain + count q free
  unfolding settled_chain
  count-wrote q =
      omega (
        arith,
        ap (count q) keys-wrote,
        count-append q (settled_chain need c.chain free) (drop need c.chain),
        sum-take-drop (λ x. one_if (eqb q x)) need (c.chain ++ free),
        ap (count q) (drop-append need c.chain free),
        count-append q (drop need c.chain) (drop (need - length c.chain) free),
        count-append q c.chain free,
      )

  Fits-wrote : Each Fits wrote
  unfolding settled_leaves
  Fits-wrote =
      Fits_all wrote (λ q. omega (arith, count-wrote q, a.once q))
      (Each-append Whole (leaves kind_first c.number (settled_chain need c.chain free) c.entries) (given_leaves (chain_head no_page free) (drop need c.chain))
      (Whole-leaves kind_first c.number (settled_chain need c.chain free) c.entries) (Whole_given (chain_head no_page free) (drop need c.chain)))

  wrote_parts : CellAt after (settled free c) × Each (At after) (given_leaves (chain_head no_page free) (drop need c.chain))
  unfolding settled_leaves settled cell_leaves
  wrote_parts =
      Each_split (At after) (leaves kind_first c.number (settled_chain need c.chain free) c.entries) (given_leaves (chain_head no_page free) (drop need c.chain))
      (written_same b wrote a.size Fits-wrote (λ q. omega (arith, count-wrote q, a.once q, one_le q)))

  pub settled_cell : CellAt after (settled free c)
  settled_cell = wrote_parts.0

  pub settled_free_lem : Each (At after) (free_leaves (free_after free c))
  unfolding free_after settled_free
  settled_free_lem =
      let k : ℕ = need - length c.chain in
      let kept = written_keeps b a.size wrote (free_leaves (drop k free)) Fits-wrote
      (λ q. omega (arith, count-wrote q, a.once q, one_le q, ap (count q) (keys-free_leaves (drop k free)))) (free_drop (At b) k free a.free_laid) in
      rw (drop-append need c.chain free, free_leaves-append (drop need c.chain) (drop k free), given_front need c.chain free)
      (Each-append (At after) (given_leaves (chain_head no_page free) (drop need c.chain)) (free_leaves (drop k free)) wrote_parts.1 kept)

  pub settled_rest : Each (CellAt after) rest
  settled_rest = rest_kept a wrote Fits-wrote (λ q. omega (arith, count-wrote q))

  pub settled_size : length after ≡ buffer_bytes
  settled_size = length-written b a.size wrote Fits-wrote

  module _ (s' : Store) (us vs : List Cell) (e : us ++ vs ≡ rest) (f : s'.cells ≡ us ++ (settled free c ∷ vs)) (g : s'.free ≡ free_after free c) where
    -- the settled cell anywhere in the round
    pub settled_Laid : Laid s' after
    settled_Laid =
        parts_Laid s' after settled_size
        (subst (λ (cs : List Cell). Each (CellAt after) cs) (sym f) (Each_middle_in (CellAt after) us (settled free c) vs settled_cell (rw e settled_rest)))
        (subst (λ (ps : List ℕ). Each (At after) (free_leaves ps)) (sym g) settled_free_lem)

    pub settled_once : PagesOnce s'
    settled_once q =
        omega (
          arith,
          a.once q,
          count_store s' q,
          ap (λ (cs : List Cell). count q (chains_of cs)) f,
          count_middle q us (settled free c) vs,
          ap (λ (cs : List Cell). count q (chains_of cs)) e,
          ap (count q) g,
          sum-chain-settled free c (λ x. one_if (eqb q x)),
        )

-- ---- all pages given up

module _ {b : List ℕ} {rest : List Cell} {chain free : List ℕ} (a : Apart b rest chain free) where
  abbrev gave : List Leaf
  gave = given_leaves (chain_head no_page free) chain

  Fits-gave : Each Fits gave
  Fits-gave = Fits_all gave (λ q. omega (arith, a.once q, ap (count q) (keys_given (chain_head no_page free) chain))) (Whole_given (chain_head no_page free) chain)

  module _ (s' : Store) (f : s'.cells ≡ rest) (g : s'.free ≡ settled_free 0 chain free) where
    pub given_Laid : Laid s' (written b gave)
    unfolding settled_free
    given_Laid =
        let same = written_same b gave a.size Fits-gave (λ q. omega (arith, a.once q, one_le q, ap (count q) (keys_given (chain_head no_page free) chain))) in
        let kept = written_keeps b a.size gave (free_leaves free) Fits-gave
        (λ q. omega (arith, a.once q, one_le q, ap (count q) (keys_given (chain_head no_page free) chain), ap (count q) (keys-free_leaves free))) a.free_laid in
        parts_Laid s' (written b gave) (length-written b a.size gave Fits-gave)
        (subst (λ (cs : List Cell). Each (CellAt (written b gave)) cs) (sym f) (rest_kept a gave Fits-gave (λ q. omega (arith, ap (count q) (keys_given (chain_head no_page free) chain)))))
        (subst (λ (ps : List ℕ). Each (At (written b gave)) (free_leaves ps)) (sym g) (rw (free_leaves-append chain free) (Each-append (At (written b gave)) gave (free_leaves free) same kept)))

    pub given_once : PagesOnce s'
    unfolding settled_free
    given_once q = omega (arith, a.once q, count_store s' q, ap (λ (cs : List Cell). count q (chains_of cs)) f, ap (count q) g, count-append q chain free)

-- ---- in the words of the contracts

module _ {b : List ℕ} {rest : List Cell} {free : List ℕ} (c : Cell) (a : Apart b rest c.chain free) {chain : List ℕ} {f : ℕ} {rows : Rows Fix}
    (is_chain : chain ≡ c.chain) (is_free : f ≡ chain_head no_page free) (are_rows : rows ≡ c.entries) where
  free_chain : chain_from pages b f ≡ free
  free_chain = ap (chain_from pages b) is_free ∙ (Apart_free a).chain

  -- what `settle` asks
  pub settle_asks : pages_for (length c.entries) ≤ length c.chain + length free
      → Below chain × (end_from pages b f ≡ at_none) × (pages_for (length rows) ≤ length chain + length (chain_from pages b f))
  settle_asks h = (rw is_chain (Apart_Below a), ap (end_from pages b) is_free ∙ (Apart_free a).ended, rw (are_rows, is_chain, free_chain) h)

  -- what it says
  pub settle_says : {n : ℕ} {b' : List ℕ} {r : Settled} → n ≡ c.number
      → b' ≡ written b (settled_leaves n chain (chain_from pages b f) rows) → r ≡ settled_ends chain (chain_from pages b f) rows
      → (b' ≡ written b (settled_leaves c.number c.chain free c.entries)) × (r ≡ record { first = chain_head no_page (settled free c).chain; free = chain_head no_page (free_after free c) })
  unfolding settled_ends settled free_after
  settle_says is_number e g = (e ∙ rw (is_number, is_chain, free_chain, are_rows), g ∙ rw (is_chain, free_chain, are_rows))

-- what `give_up` says of a whole chain
pub give_says : (b : List ℕ) {b' chain ch : List ℕ} {f r : ℕ} (free : List ℕ) → ch ≡ chain → f ≡ chain_head no_page free
    → b' ≡ written b (given_leaves f (drop 0 ch)) → r ≡ chain_head f (drop 0 ch)
    → (b' ≡ written b (given_leaves (chain_head no_page free) chain)) × (r ≡ chain_head no_page (settled_free 0 chain free))
unfolding settled_free
give_says b {chain = chain} free e g h k = (h ∙ rw (e, g), k ∙ rw (e, g) (sym (chain_head-append no_page chain free)))

-- where the pages are as many as the entries need, no page is given up or taken
pub settled_even : (free : List ℕ) (c : Cell) → length c.chain ≡ pages_for (length c.entries) → ((settled free c).chain ≡ c.chain) × (free_after free c ≡ free)
unfolding settled free_after settled_chain settled_free
settled_even free c e = (take_at c.chain free (pages_for (length c.entries)) e, drop_at c.chain free (pages_for (length c.entries)) e)
