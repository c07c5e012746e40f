-- Each page stands once in one chain and each cell has the pages that its entries need (Paged), through settling, split, join and the tally's sweep.
use mathlib.Core.Path.{◌≡◌, refl, sym, ap, subst, ◌∙◌}
use mathlib.Core.Bool.{Bool, true, false, cond}
use mathlib.Core.List.{List, [], ◌∷◌, ◌++◌, map}
use Prim.Native.Nat.{ℕ, ◌+◌, ◌-◌, ◌*◌, ◌≤◌, ◌<◌}
use native.Mathlib.Omega.{arith}
use lib.Dec.{ltb}
use lib.ListN.{length, length-append}
use Rattle.terms.specs.Terms.{Fix, pages, page_entries}
use Rattle.lists.specs.Chains.{settled_free}
use Rattle.lists.specs.Rows.{Rows}
use Rattle.lists.specs.Sums.{sum_by, concat}
use Rattle.lists.specs.Tests.{Each}
use Rattle.lists.proofs.ChainsLaws.{sum_settled, length-settled_chain, length-settled_free, settled_free_give}
use Rattle.lists.proofs.SumsLaws.{sum-nil, sum-cons, sum-append, sum_const, sum_ext, sum-concat, sum-Each, length-filter-not, length_Each_once, sum_middle, sum-map}
use Rattle.lists.proofs.TestsLaws.{Each-append, Each_split, Each_middle, cond_holds}
use Rattle.rules.specs.Limits.{max_cells, join_entries}
use Rattle.rules.specs.Store.{Cell, Store, others, pages_for, settled, free_after}
use Rattle.rules.specs.Sweep.{stale, swept_entries, swept, sweep_front}
use Rattle.rules.specs.Cut.{Cut, low_side}
use Rattle.rules.specs.Flush.{joined, Flushed, grown, unused_number, low_cell, high_cell, split_at, smaller, larger, joined_with}
use Rattle.rules.specs.Parts.{Paged}
use Rattle.rules.specs.Midway.{size, most_entries}

-- ---- pages that entries need

-- the pages that a cell's entries need
abbrev pub needed : Cell → ℕ
needed c = pages_for (length c.entries)

pub pages_for_some : (e : ℕ) → 1 ≤ pages_for e
unfolding pages_for
pages_for_some e = omega arith

pub pages_for_one : (e : ℕ) → e ≤ page_entries → pages_for e ≡ 1
unfolding pages_for
pages_for_one e h = omega arith

pub pages_for-le : (e f : ℕ) → e ≤ f → pages_for e ≤ pages_for f
unfolding pages_for
pages_for-le e f h = omega arith

-- every page but the last is full
pub pages_for_full : (e : ℕ) → page_entries * pages_for e ≤ e + page_entries
unfolding pages_for
pages_for_full e = omega arith

pub pages_sum : (cells : List Cell) → page_entries * sum_by needed cells ≤ sum_by size cells + page_entries * length cells
unfolding sum_by
pages_sum [] = omega arith
pages_sum (c ∷ cs) = omega (arith, pages_for_full (length c.entries), pages_sum cs)

-- at most 115 pages are in use, so at least 13 are free
pub pages_few : (cells : List Cell) → sum_by size cells ≤ most_entries → length cells ≤ max_cells → sum_by needed cells ≤ pages - 13
pages_few cells h l = omega (arith, pages_sum cells)

-- as many when a cell is in two
pub pages_few_split : (cells : List Cell) (low high : Cell) → sum_by size cells + size low + size high ≤ most_entries → length cells + 2 ≤ max_cells
    → sum_by needed cells + needed low + needed high ≤ pages - 13
pages_few_split cells low high h l = omega (arith, pages_sum cells, pages_for_full (length low.entries), pages_for_full (length high.entries))

-- ---- settling one cell

module _ (free : List ℕ) (c : Cell) where
  pub entries-settled : (settled free c).entries ≡ c.entries
  unfolding settled
  entries-settled = refl

  pub sum-chain-settled : (f : ℕ → ℕ) → sum_by f (settled free c).chain + sum_by f (free_after free c) ≡ sum_by f c.chain + sum_by f free
  unfolding settled free_after
  sum-chain-settled f = sum_settled (needed c) c.chain free f

  pub length-chain-settled : needed c ≤ length c.chain + length free → length (settled free c).chain ≡ needed (settled free c)
  unfolding settled
  length-chain-settled h = length-settled_chain (needed c) c.chain free h

  pub length-free_after : needed c ≤ length c.chain + length free → needed c + length (free_after free c) ≡ length c.chain + length free
  unfolding free_after
  length-free_after h = length-settled_free (needed c) c.chain free h

-- ---- the chains of a list of cells

abbrev chained : (ℕ → ℕ) → Cell → ℕ
chained f c = sum_by f c.chain

-- "each page in one chain" by sums over the cells
pub sum_chains : (f : ℕ → ℕ) (cells : List Cell) (free : List ℕ)
    → sum_by f (concat (map (λ c. c.chain) cells) ++ free) ≡ sum_by (λ c. sum_by f c.chain) cells + sum_by f free
sum_chains f cells free =
    omega (arith, sum-append f (concat (map (λ c. c.chain) cells)) free, sum-concat f (map (λ c. c.chain) cells), sum-map (sum_by f) (λ (c : Cell). c.chain) cells)

-- the same pages, in other chains
pub Paged_same : (cells cells' : List Cell) (free free' : List ℕ) → Paged cells free
    → ((f : ℕ → ℕ) → sum_by (λ c. sum_by f c.chain) cells' + sum_by f free' ≡ sum_by (λ c. sum_by f c.chain) cells + sum_by f free)
    → Each (λ c. length c.chain ≡ pages_for (length c.entries)) cells' → Paged cells' free'
Paged_same cells cells' free free' p h e = record {
  once = λ q. sum_chains _ cells' free' ∙ h _ ∙ sym (sum_chains _ cells free) ∙ p.once q;
  cells_paged = e;
}

pub length-pages : (cells : List Cell) (free : List ℕ) → Paged cells free → sum_by (λ c. length c.chain) cells + length free ≡ pages
length-pages cells free p =
    let all : List ℕ = concat (map (λ c. c.chain) cells) ++ free in
    omega (
      arith,
      length_Each_once pages all p.once,
      sum_const 1 all,
      sum_chains (λ _. 1) cells free,
      sum_const 1 free,
      sum_ext (λ (c : Cell). sum_by (λ _. 1) c.chain) (λ c. length c.chain) cells (λ c. omega (arith, sum_const 1 c.chain)),
    )

pub needed-pages : (cells : List Cell) (free : List ℕ) → Paged cells free → sum_by needed cells + length free ≡ pages
needed-pages cells free p = omega (arith, length-pages cells free p, sum-Each (λ (c : Cell). length c.chain) needed cells p.cells_paged)

-- the pages of one cell with the free ones are all but those of the others
pub room_pages : (xs ys : List Cell) (d : Cell) (free : List ℕ) → Paged (xs ++ (d ∷ ys)) free → sum_by needed (xs ++ ys) + (length d.chain + length free) ≡ pages
room_pages xs ys d free p =
    omega (arith, needed-pages (xs ++ (d ∷ ys)) free p, sum_middle needed xs d ys, (Each_middle (λ c. length c.chain ≡ needed c) xs d ys p.cells_paged).0)

-- ---- a cell goes to the end of the round, settled

-- d, with d₀'s chain and other entries, in d₀'s place
Paged_end : (xs ys : List Cell) (d₀ d : Cell) (free : List ℕ) → Paged (xs ++ (d₀ ∷ ys)) free → d.chain ≡ d₀.chain → needed d ≤ length d₀.chain + length free
    → Paged ((xs ++ ys) ++ (settled free d ∷ [])) (free_after free d)
Paged_end xs ys d₀ d free p e h =
    Paged_same (xs ++ (d₀ ∷ ys)) ((xs ++ ys) ++ (settled free d ∷ [])) free (free_after free d) p
    (λ f. omega (
      arith,
      sum-append (chained f) (xs ++ ys) (settled free d ∷ []),
      sum-cons (chained f) (settled free d) [],
      sum-nil (chained f),
      sum_middle (chained f) xs d₀ ys,
      sum-chain-settled free d f,
      ap (sum_by f) e,
    ))
    (Each-append _ (xs ++ ys) (settled free d ∷ []) (Each_middle _ xs d₀ ys p.cells_paged).1
    (length-chain-settled free d (omega (arith, h, ap (λ (l : List ℕ). length l) e)), tt))

pub Paged_grown : (xs ys : List Cell) (d₀ d : Cell) (free : List ℕ) → Paged (xs ++ (d₀ ∷ ys)) free → d.chain ≡ d₀.chain → sum_by needed (xs ++ (d ∷ ys)) ≤ pages
    → Paged ((xs ++ ys) ++ (settled free d ∷ [])) (free_after free d)
Paged_grown xs ys d₀ d free p e h = Paged_end xs ys d₀ d free p e (omega (arith, h, sum_middle needed xs d ys, room_pages xs ys d₀ free p))

-- the front of the round, swept: it gives pages up, if any
pub Paged_front : (c c' : Cell) (cs : List Cell) (free : List ℕ) → Paged (c ∷ cs) free → c'.chain ≡ c.chain → length c'.entries ≤ length c.entries
    → Paged (cs ++ (settled free c' ∷ [])) (free_after free c')
Paged_front c c' cs free p e h =
    Paged_end [] cs c c' free p e (omega (arith, p.cells_paged.0, pages_for-le (length c'.entries) (length c.entries) h))

-- ---- split

pub size_split : (c : Cut) (n : ℕ) (d : Cell) → size (low_cell c d) + size (high_cell c n d) ≡ size d
unfolding low_cell high_cell
size_split c n d = length-filter-not (low_side c) d.entries

-- the low side keeps d₀'s chain and is settled first, then the high side takes from what is left
pub Paged_split : (xs ys : List Cell) (d₀ low high : Cell) (free : List ℕ) → Paged (xs ++ (d₀ ∷ ys)) free → low.chain ≡ d₀.chain → high.chain ≡ []
    → sum_by needed (xs ++ ys) + needed low + needed high ≤ pages
    → Paged ((xs ++ ys) ++ (settled free low ∷ settled (free_after free low) high ∷ [])) (free_after (free_after free low) high)
Paged_split xs ys d₀ low high free p e e' h =
    let ends : List Cell = settled free low ∷ settled (free_after free low) high ∷ [] in
    let room = room_pages xs ys d₀ free p in
    let l : length low.chain ≡ length d₀.chain = ap (λ (l : List ℕ). length l) e in
    let l' : length high.chain ≡ 0 = ap (λ (l : List ℕ). length l) e' in
    let fits : needed low ≤ length low.chain + length free = omega arith in
    let fits' : needed high ≤ length high.chain + length (free_after free low) = omega (arith, length-free_after free low fits) in
    Paged_same (xs ++ (d₀ ∷ ys)) ((xs ++ ys) ++ ends) free (free_after (free_after free low) high) p
    (λ f. omega (
      arith,
      sum-append (chained f) (xs ++ ys) ends,
      sum-cons (chained f) (settled free low) (settled (free_after free low) high ∷ []),
      sum-cons (chained f) (settled (free_after free low) high) [],
      sum-nil (chained f),
      sum_middle (chained f) xs d₀ ys,
      sum-chain-settled free low f,
      sum-chain-settled (free_after free low) high f,
      ap (sum_by f) e,
      ap (sum_by f) e',
      sum-nil f,
    ))
    (Each-append _ (xs ++ ys) ends (Each_middle _ xs d₀ ys p.cells_paged).1
    (length-chain-settled free low fits, (length-chain-settled (free_after free low) high fits', tt)))

-- ---- join

-- of two cells one survives, the other goes
pub smaller-larger : (f : Cell → ℕ) (d n : Cell) → f (smaller d n) + f (larger d n) ≡ f d + f n
smaller-larger f d n = go (ltb d.number n.number)
  where
    go : (b : Bool) → f (cond b d n) + f (cond b n d) ≡ f d + f n
    go true = refl
    go false = omega arith

pub smaller_holds : (P : Cell → Type 0) (d n : Cell) → P d → P n → P (smaller d n)
smaller_holds P d n p q = cond_holds P (ltb d.number n.number) d n p q

-- every page of a chain goes to the front of the free chain
pub sum_freed : (f : ℕ → ℕ) (chain free : List ℕ) → sum_by f (settled_free 0 chain free) ≡ sum_by f chain + sum_by f free
sum_freed f chain free = ap (sum_by f) (settled_free_give 0 chain free (omega arith)) ∙ sum-append f chain free

-- s, settled and last in the round, and n have a page each; j keeps the survivor's
Paged_joined : (xs ys : List Cell) (n s j : Cell) (free : List ℕ) → Paged ((xs ++ (n ∷ ys)) ++ (s ∷ [])) free → j.chain ≡ (smaller s n).chain
    → length s.entries + length n.entries ≤ join_entries → length j.entries ≤ length s.entries + length n.entries
    → Paged ((xs ++ ys) ++ (j ∷ [])) (settled_free 0 (larger s n).chain free)
Paged_joined xs ys n s j free p e few h =
    let old : List Cell = xs ++ (n ∷ ys) in
    let each = Each_split (λ c. length c.chain ≡ needed c) old (s ∷ []) p.cells_paged in
    let others = Each_middle (λ c. length c.chain ≡ needed c) xs n ys each.0 in
    let one : length s.chain ≡ 1 = each.1.0 ∙ pages_for_one (length s.entries) (omega arith) in
    let one' : length n.chain ≡ 1 = others.0 ∙ pages_for_one (length n.entries) (omega arith) in
    let kept : length j.chain ≡ 1 = ap (λ (l : List ℕ). length l) e ∙ smaller_holds (λ c. length c.chain ≡ 1) s n one one' in
    Paged_same (old ++ (s ∷ [])) ((xs ++ ys) ++ (j ∷ [])) free (settled_free 0 (larger s n).chain free) p
    (λ f. omega (
      arith,
      sum-append (chained f) (xs ++ ys) (j ∷ []),
      sum-cons (chained f) j [],
      sum-append (chained f) old (s ∷ []),
      sum-cons (chained f) s [],
      sum-nil (chained f),
      sum_middle (chained f) xs n ys,
      ap (sum_by f) e,
      smaller-larger (chained f) s n,
      sum_freed f (larger s n).chain free,
    ))
    (Each-append _ (xs ++ ys) (j ∷ []) others.1 (kept ∙ sym (pages_for_one (length j.entries) (omega arith)), tt))

-- d, with d₀'s chain, is settled first; then it is joined with n
pub Paged_join : (xs ys xs' ys' : List Cell) (d₀ d n j : Cell) (free : List ℕ) → Paged (xs ++ (d₀ ∷ ys)) free → d.chain ≡ d₀.chain → xs ++ ys ≡ xs' ++ (n ∷ ys')
    → length d.entries + length n.entries ≤ join_entries → j.chain ≡ (smaller (settled free d) n).chain → length j.entries ≤ length d.entries + length n.entries
    → Paged ((xs' ++ ys') ++ (j ∷ [])) (settled_free 0 (larger (settled free d) n).chain (free_after free d))
Paged_join xs ys xs' ys' d₀ d n j free p e s few e' h =
    let some : needed d ≤ length d₀.chain + length free =
    omega (arith, pages_for_one (length d.entries) (omega arith), (Each_middle (λ c. length c.chain ≡ needed c) xs d₀ ys p.cells_paged).0, pages_for_some (length d₀.entries)) in
    let q : Paged ((xs' ++ (n ∷ ys')) ++ (settled free d ∷ [])) (free_after free d) =
    subst (λ l. Paged (l ++ (settled free d ∷ [])) (free_after free d)) s (Paged_end xs ys d₀ d free p e some) in
    let same : length (settled free d).entries ≡ length d.entries = ap (λ (l : Rows Fix). length l) (entries-settled free d) in
    Paged_joined xs' ys' n (settled free d) j (free_after free d) q e' (omega arith) (omega arith)

-- ---- the steps themselves: the rest of the round is xs ++ ys, where d₀ stood between

module _ (f : Flushed) (xs ys : List Cell) (d₀ : Cell) (p : Paged (xs ++ (d₀ ∷ ys)) f.store.free) (e : f.cell.chain ≡ d₀.chain) where
  pub grown-Paged : f.rest ≡ xs ++ ys → sum_by size (xs ++ ys) + size f.cell ≤ most_entries → length (xs ++ (d₀ ∷ ys)) ≤ max_cells → Paged (grown f).cells (grown f).free
  unfolding grown
  grown-Paged r few l =
      let few' = pages_few (xs ++ (f.cell ∷ ys)) (omega (arith, few, sum_middle size xs f.cell ys)) (omega (arith, l, length-append xs (d₀ ∷ ys), length-append xs (f.cell ∷ ys))) in
      subst (λ (l : List Cell). Paged (l ++ (settled f.store.free f.cell ∷ [])) (free_after f.store.free f.cell)) (sym r)
      (Paged_grown xs ys d₀ f.cell f.store.free p e (omega arith))

  pub split_at-Paged : (c : Cut) → f.rest ≡ xs ++ ys → sum_by size (xs ++ ys) + size f.cell ≤ most_entries → length (xs ++ (d₀ ∷ ys)) < max_cells → Paged (split_at c f).cells (split_at c f).free
  unfolding split_at low_cell high_cell
  split_at-Paged c r few l =
      let low : Cell = low_cell c f.cell in
      let high : Cell = high_cell c (unused_number f.store.cells) f.cell in
      let free : List ℕ = free_after f.store.free low in
      let few' = pages_few_split (xs ++ ys) low high (omega (arith, few, size_split c (unused_number f.store.cells) f.cell))
      (omega (arith, l, length-append xs (d₀ ∷ ys), length-append xs ys)) in
      subst (λ (l : List Cell). Paged (l ++ (settled f.store.free low ∷ settled free high ∷ [])) (free_after free high)) (sym r)
      (Paged_split xs ys d₀ low high f.store.free p e refl (omega arith))

  pub joined_with-Paged : (n : Cell) (xs' ys' : List Cell) → xs ++ ys ≡ xs' ++ (n ∷ ys') → others n.number f.rest ≡ xs' ++ ys'
      → length f.cell.entries + length n.entries ≤ join_entries → length (joined f n).entries ≤ length f.cell.entries + length n.entries
      → Paged (joined_with f n).cells (joined_with f n).free
  unfolding joined_with
  joined_with-Paged n xs' ys' s r few h =
      let d : Cell = settled f.store.free f.cell in
      subst (λ (l : List Cell). Paged (l ++ (joined f n ∷ [])) (settled_free 0 (larger d n).chain (free_after f.store.free f.cell))) (sym r)
      (Paged_join xs ys xs' ys' d₀ f.cell n (joined f n) f.store.free p e s few refl h)

pub sweep_front-Paged : (c : Cell) (cs : List Cell) (s : Store) → Paged (c ∷ cs) s.free → Paged (sweep_front (c ∷ cs) s).cells (sweep_front (c ∷ cs) s).free
unfolding sweep_front swept swept_entries
sweep_front-Paged c cs s p = Paged_front c (swept s.memo c) cs s.free p refl (omega (arith, length-filter-not (stale s.memo) c.entries))
