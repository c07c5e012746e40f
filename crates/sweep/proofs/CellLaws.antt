-- A cell of a store that is laid out in the pages: sweeping the chain that is read from its first page is sweeping the cell.
use mathlib.Core.Path.{◌≡◌, sym, ap, ◌∙◌, subst}
use mathlib.Core.Bool.{true}
use mathlib.Core.List.{List, [], ◌∷◌}
use Prim.Native.Nat.{ℕ, ◌+◌, ◌≤◌}
use native.Mathlib.Omega.{arith}
use lib.ListN.{length}
use Rattle.terms.specs.Terms.{Fix, max_on, pages, no_page}
use Rattle.lists.specs.Chains.{chain_head}
use Rattle.lists.specs.Rows.{Rows, Rising}
use Rattle.lists.specs.Sums.{sum_by}
use Rattle.lists.specs.Tests.{Each}
use Rattle.lists.proofs.SumsLaws.{sum-cons, sum-le, length-filter, length-filter-not}
use Rattle.lists.proofs.TestsLaws.{Each_map, Each_zip}
use Rattle.page.specs.declared.Chain.{Chain}
use Rattle.page.specs.Buffer.{there, pages_of, chain_from, entries_on}
use Rattle.rules.specs.Store.{Line, Cell, Store}
use Rattle.rules.specs.Sweep.{stale, swept_entries, swept_memo, swept}
use Rattle.rules.specs.WellFormed.{WellFormed, chains, stale_in}
use Rattle.rules.proofs.BooksLaws.{entries_total}
use Rattle.rules.specs.Parts.{Core, Rowed}
use Rattle.rules.proofs.WellLaws.{well_Core}
use Rattle.desk.specs.Held.{Memo}
use Rattle.desk.specs.Layout.{line_slots, memo_of, Laid}
use Rattle.desk.proofs.ReadLaws.{CellRead, Paged, cells_read, pages_enough}
use Rattle.memo.specs.Memo.{lines_of, GoodMemo}
use Rattle.sweep.specs.Sweep.{ReadableChain}
use Rattle.memo.proofs.MemoLaws.{lines_are, Whole_is, count_is}

-- ---- lists

-- a sum that is little more than another that is nowhere greater: no element is more by itself
sum_share : {A : Type 0} (f g : A → ℕ) (n : ℕ) (l : List A) → ((x : A) → g x ≤ f x) → sum_by f l ≤ n + sum_by g l → Each (λ x. f x ≤ n + g x) l
sum_share f g n [] h k = tt
sum_share f g n (x ∷ l) h k =
    let a = sum-cons f x l in
    let b = sum-cons g x l in
    (omega (arith, sum-le g f l h), sum_share f g n l h (omega (arith, h x)))

-- ---- what stays of a cell has room

length_swept : (memo : Rows Line) (c : Cell) → length (swept_entries memo c.entries) + stale_in memo c ≡ length c.entries
unfolding swept_entries stale_in
length_swept memo c = omega (arith, length-filter (stale memo) c.entries, length-filter-not (stale memo) c.entries)

few_stay : (s : Store) → Core s → Each (λ c. length (swept_entries s.memo c.entries) ≤ max_on) s.cells
few_stay s k =
    Each_map _ _ s.cells (λ c h. omega (arith, length_swept s.memo c, k.signed.few_on))
    (sum_share (λ c. length c.entries) (stale_in s.memo) (length s.on) s.cells (λ c. omega (arith, length_swept s.memo c)) (entries_total s.on k.signed k.books))

-- ---- a cell as its pages have it

pub record Sweepable (b : List ℕ) (memo : Rows Line) (c : Cell) : Type 0 where
  pub read : chain_from pages b (chain_head no_page c.chain) ≡ c.chain
  pub all_there : Each (λ p. there b p ≡ true) c.chain
  pub entries : entries_on b c.chain ≡ c.entries
  pub rising : Rising 0 c.entries
  pub room : length (swept_entries memo c.entries) ≤ max_on

pub sweepable : (b : List ℕ) (memo : Rows Line) (c : Cell) → CellRead b c → Paged c → Rising 0 c.entries → length (swept_entries memo c.entries) ≤ max_on → Sweepable b memo c
unfolding entries_on
sweepable b memo c k p a r = record { read = k.read.chain; all_there = k.read.all_there; entries = sym (k.entries (pages_enough c p)); rising = a; room = r }

-- every cell, also in the middle of a call
pub cells_sweep : (s : Store) (b : List ℕ) → Core s → Laid s b → Each (Sweepable b s.memo) s.cells
unfolding chains
cells_sweep s b k l =
    Each_zip _ _ _ s.cells (λ c p f. sweepable b s.memo c p.0 p.1 f.0.rising f.1)
    (Each_zip _ _ (λ c. CellRead b c × Paged c) s.cells (λ c x y. (x, y)) (cells_read s k.paged.once b l) k.paged.cells_paged)
    (Each_zip _ _ (λ c. Rowed c × (length (swept_entries s.memo c.entries) ≤ max_on)) s.cells (λ c x y. (x, y)) k.books.cells_rowed (few_stay s k))

-- between two calls
pub well_sweep : (s : Store) (b : List ℕ) → WellFormed s → Laid s b → Each (Sweepable b s.memo) s.cells
well_sweep s b w = cells_sweep s b (well_Core s w)

-- ---- the call: what it asks, and what it gives

module _ {b : List ℕ} {memo : Rows Line} {c : Cell} (cell : Sweepable b memo c) (chain : Chain) (m : Memo) (first : pages_of chain ≡ chain_from pages b (chain_head no_page c.chain)) (held : m ≡ memo_of memo) where
  Whole_chain : pages_of chain ≡ c.chain
  Whole_chain = first ∙ cell.read

  on_chain : entries_on b (pages_of chain) ≡ c.entries
  on_chain = ap (entries_on b) Whole_chain ∙ cell.entries

  pub cell_asks : chain.n ≤ pages → length memo ≤ line_slots → Rising 0 memo
      → ReadableChain b chain × GoodMemo m × (length (swept_entries (lines_of m) (entries_on b (pages_of chain))) ≤ max_on)
  cell_asks n f a = (
    (n, subst (λ (l : List ℕ). Each (λ p. there b p ≡ true) l) (sym Whole_chain) cell.all_there, subst (λ (l : Rows Fix). Rising 0 l) (sym on_chain) cell.rising),
    (Whole_is memo held, omega (arith, count_is memo held), subst (λ (l : Rows Line). Rising 0 l) (sym (lines_are memo held)) a),
    rw (on_chain, lines_are memo held) cell.room,
  )

  pub cell_gives : {table : Rows Fix} {after : Memo}
      → (table ≡ swept_entries (lines_of m) (entries_on b (pages_of chain))) × (after ≡ memo_of (swept_memo (lines_of m) (entries_on b (pages_of chain))))
      → (table ≡ (swept memo c).entries) × (after ≡ memo_of (swept_memo memo c.entries))
  unfolding swept
  cell_gives = rw (on_chain, lines_are memo held) (λ g. g)
