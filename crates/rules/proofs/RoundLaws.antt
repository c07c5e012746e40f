-- The round inequality (Bounded): what is stale in the tails of the round, with what waits, through a record's effect, a flush and the tally's sweep.
use mathlib.Core.Path.{◌≡◌, refl, sym, subst, ◌∙◌}
use mathlib.Core.List.{List, [], ◌∷◌, ◌++◌}
use Prim.Native.Nat.{ℕ, suc, ◌+◌, ◌-◌, ◌*◌, ◌≤◌}
use native.Mathlib.Omega.{arith}
use lib.Dec.{ltb}
use lib.ListN.{length, drop, length-append}
use borrow.Author.Tests.{ltb-true, ltb-false}
use Rattle.lists.specs.Rows.{Rows}
use Rattle.lists.specs.Sums.{sum_by}
use Rattle.lists.specs.Tests.{one_if, Each}
use Rattle.lists.proofs.Cases.{by_cases}
use Rattle.lists.proofs.SumsLaws.{sum-Each, sum-filter, sum-drop_all, sum-drop_middle, sum-drop_ends}
use Rattle.lists.proofs.TestsLaws.{Each-drop}
use Rattle.rules.specs.Limits.{max_cells, full_memory, sweep_every}
use Rattle.rules.specs.Store.{Line, Cell, Store, others, settled, free_after}
use Rattle.rules.specs.Sweep.{stale, swept_memo, swept, sweep_front}
use Rattle.rules.specs.Cut.{Cut, low_side}
use Rattle.rules.specs.Flush.{joined, Flushed, grown, unused_number, low_cell, high_cell, split_at, joined_with}
use Rattle.rules.specs.WellFormed.{stale_in}
use Rattle.rules.specs.Parts.{Clean, Bounded}

-- ---- single changes

-- what is stale in each tail and waits does not grow together
pub Bounded_change : (memo memo' : Rows Line) (cells : List Cell) (w w' c : ℕ) → Bounded memo cells w c
    → ((k : ℕ) → sum_by (stale_in memo') (drop k cells) + w' ≤ sum_by (stale_in memo) (drop k cells) + w) → Bounded memo' cells w' c
unfolding Bounded
Bounded_change memo memo' cells w w' c b h = λ k l. omega (arith, b k l, h k)

-- a record adds 1 to the tally, and at most 1 to what is stale or waits
pub Bounded_record : (memo memo' : Rows Line) (cells : List Cell) (w w' c : ℕ) → Bounded memo cells w c
    → ((k : ℕ) → sum_by (stale_in memo') (drop k cells) + w' ≤ sum_by (stale_in memo) (drop k cells) + w + 1) → Bounded memo' cells w' (c + 1)
unfolding Bounded
Bounded_record memo memo' cells w w' c b h = λ k l. omega (arith, b k l, h k)

-- a memo that judges each cell alike
pub Bounded_same : (memo memo' : Rows Line) (cells : List Cell) (w c : ℕ) → Bounded memo cells w c → Each (λ e. stale_in memo' e ≡ stale_in memo e) cells → Bounded memo' cells w c
Bounded_same memo memo' cells w c b h =
    Bounded_change memo memo' cells w w c b (λ k. omega (arith, sum-Each (stale_in memo') (stale_in memo) (drop k cells) (Each-drop _ k cells h)))

-- a cell is taken out
pub Bounded_out : (memo : Rows Line) (xs ys : List Cell) (d : Cell) (w c : ℕ) → Bounded memo (xs ++ (d ∷ ys)) w c → Bounded memo (xs ++ ys) w c
unfolding Bounded
Bounded_out memo xs ys d w c b = λ k l. omega (arith, b k (omega (arith, l, length-append xs ys, length-append xs (d ∷ ys))), sum-drop_middle (stale_in memo) d xs ys k)

-- cells without stale entries come to the end; there what waits must keep the bound alone
pub Bounded_ends : (memo : Rows Line) (cells ends : List Cell) (w c : ℕ) → Bounded memo cells w c → Each (Clean memo) ends → w ≤ c + (full_memory - 1) → Bounded memo (cells ++ ends) w c
unfolding Bounded
Bounded_ends memo cells ends w c b z h = λ k l.
    let e = sum-drop_ends (stale_in memo) k cells ends z in
    by_cases (ltb k (length cells))
    (λ t. omega (arith, e, b k (ltb-true k (length cells) t)))
    (λ t. omega (arith, e, sum-drop_all (stale_in memo) k cells (ltb-false k (length cells) t)))

-- ---- a flush

-- d goes out, n reports go in, each for one stale entry elsewhere at most, and d comes back at the end, whole or in two
pub Bounded_flush : (memo memo' : Rows Line) (xs ys ends : List Cell) (d : Cell) (w w' n c : ℕ) → Bounded memo (xs ++ (d ∷ ys)) w c → w' + n ≡ w
    → ((k : ℕ) → sum_by (stale_in memo') (drop k (xs ++ ys)) ≤ sum_by (stale_in memo) (drop k (xs ++ ys)) + n)
    → Each (Clean memo') ends → w' ≤ c + (full_memory - 1) → Bounded memo' ((xs ++ ys) ++ ends) w' c
Bounded_flush memo memo' xs ys ends d w w' n c b e g z h =
    Bounded_ends memo' (xs ++ ys) ends w' c (Bounded_change memo memo' (xs ++ ys) w w' c (Bounded_out memo xs ys d w c b) (λ k. omega (arith, e, g k))) z h

-- and if the neighbour m is joined, m goes out too, swept; the joined cell j comes to the end
pub Bounded_join : (memo memo' memo'' : Rows Line) (xs ys xs' ys' : List Cell) (d m j : Cell) (w w' n c : ℕ) → Bounded memo (xs ++ (d ∷ ys)) w c → w' + n ≡ w
    → ((k : ℕ) → sum_by (stale_in memo') (drop k (xs ++ ys)) ≤ sum_by (stale_in memo) (drop k (xs ++ ys)) + n)
    → xs ++ ys ≡ xs' ++ (m ∷ ys') → Each (λ e. stale_in memo'' e ≡ stale_in memo' e) (xs' ++ ys')
    → Clean memo'' j → w' ≤ c + (full_memory - 1) → Bounded memo'' ((xs' ++ ys') ++ (j ∷ [])) w' c
Bounded_join memo memo' memo'' xs ys xs' ys' d m j w w' n c b e g s q z h =
    let b₁ : Bounded memo' (xs ++ ys) w' c = Bounded_change memo memo' (xs ++ ys) w w' c (Bounded_out memo xs ys d w c b) (λ k. omega (arith, e, g k)) in
    let b₂ : Bounded memo' (xs' ++ ys') w' c = Bounded_out memo' xs' ys' m w' c (subst (λ l. Bounded memo' l w' c) s b₁) in
    Bounded_ends memo'' (xs' ++ ys') (j ∷ []) w' c (Bounded_same memo' memo'' (xs' ++ ys') w' c b₂ q) (z, tt) h

-- ---- the tally's sweep

-- the front goes out: every other place falls by 1, which is worth a full tally
pub Bounded_front : (memo : Rows Line) (d : Cell) (cs : List Cell) (w c : ℕ) → Bounded memo (d ∷ cs) w c → c ≤ sweep_every → length (d ∷ cs) ≤ max_cells → Bounded memo cs w 0
unfolding Bounded
Bounded_front memo d cs w c b u l = λ k i. omega (arith, b (suc k) (omega arith))

-- and comes to the end, swept
pub Bounded_tick : (memo memo' : Rows Line) (d d' : Cell) (cs : List Cell) (w c : ℕ) → Bounded memo (d ∷ cs) w c → c ≤ sweep_every
    → Each (λ e. stale_in memo' e ≡ stale_in memo e) cs → Clean memo' d' → w ≤ full_memory - 1 → length (d ∷ cs) ≤ max_cells → Bounded memo' (cs ++ (d' ∷ [])) w 0
Bounded_tick memo memo' d d' cs w c b u q z h l =
    Bounded_ends memo' cs (d' ∷ []) w 0 (Bounded_same memo memo' cs w 0 (Bounded_front memo d cs w c b u l) q) (z, tt) (omega arith)

-- ---- the whole

pub Bounded_total : (memo : Rows Line) (cells : List Cell) (w c : ℕ) → Bounded memo cells w c → 1 ≤ length cells
    → sum_by (stale_in memo) cells + w ≤ sweep_every * (max_cells - 1) + c + (full_memory - 1)
unfolding Bounded
Bounded_total memo cells w c b h = b 0 h

-- ---- the steps themselves: the rest of the round is xs ++ ys, where d stood between

pub stale_settled : (memo : Rows Line) (free : List ℕ) (c : Cell) → stale_in memo (settled free c) ≡ stale_in memo c
unfolding stale_in settled
stale_settled memo free c = refl

pub stale_split : (memo : Rows Line) (c : Cut) (n : ℕ) (d : Cell) → stale_in memo (low_cell c d) + stale_in memo (high_cell c n d) ≡ stale_in memo d
unfolding stale_in low_cell high_cell
stale_split memo c n d = sum-filter (λ e. one_if (stale memo e)) (low_side c) d.entries

module _ (f : Flushed) (memo : Rows Line) (xs ys : List Cell) (d : Cell) (w w' n c : ℕ) (b : Bounded memo (xs ++ (d ∷ ys)) w c) (e : w' + n ≡ w)
    (g : (k : ℕ) → sum_by (stale_in f.store.memo) (drop k (xs ++ ys)) ≤ sum_by (stale_in memo) (drop k (xs ++ ys)) + n) (h : w' ≤ c + (full_memory - 1)) where
  pub grown-Bounded : f.rest ≡ xs ++ ys → Clean f.store.memo f.cell → Bounded (grown f).memo (grown f).cells w' c
  unfolding grown
  grown-Bounded r z =
      subst (λ (l : List Cell). Bounded f.store.memo (l ++ (settled f.store.free f.cell ∷ [])) w' c) (sym r)
      (Bounded_flush memo f.store.memo xs ys _ d w w' n c b e g (stale_settled f.store.memo f.store.free f.cell ∙ z, tt) h)

  pub split_at-Bounded : (cut : Cut) → f.rest ≡ xs ++ ys → Clean f.store.memo f.cell → Bounded (split_at cut f).memo (split_at cut f).cells w' c
  unfolding split_at
  split_at-Bounded cut r z =
      let memo' : Rows Line = f.store.memo in
      let low : Cell = low_cell cut f.cell in
      let high : Cell = high_cell cut (unused_number f.store.cells) f.cell in
      let free : List ℕ = free_after f.store.free low in
      let both = stale_split memo' cut (unused_number f.store.cells) f.cell in
      subst (λ (l : List Cell). Bounded memo' (l ++ (settled f.store.free low ∷ settled free high ∷ [])) w' c) (sym r)
      (Bounded_flush memo memo' xs ys _ d w w' n c b e g (stale_settled memo' f.store.free low ∙ omega arith, (stale_settled memo' free high ∙ omega arith, tt)) h)

  pub joined_with-Bounded : (m : Cell) (xs' ys' : List Cell) → xs ++ ys ≡ xs' ++ (m ∷ ys') → others m.number f.rest ≡ xs' ++ ys'
      → Each (λ x. stale_in (joined_with f m).memo x ≡ stale_in f.store.memo x) (xs' ++ ys') → Clean (joined_with f m).memo (joined f m)
      → Bounded (joined_with f m).memo (joined_with f m).cells w' c
  unfolding joined_with
  joined_with-Bounded m xs' ys' s r q z =
      subst (λ (l : List Cell). Bounded (joined_with f m).memo (l ++ (joined f m ∷ [])) w' c) (sym r)
      (Bounded_join memo f.store.memo (joined_with f m).memo xs ys xs' ys' d m (joined f m) w w' n c b e g s q z h)

pub sweep_front-Bounded : (d : Cell) (cs : List Cell) (s : Store) (w c : ℕ) → Bounded s.memo (d ∷ cs) w c → c ≤ sweep_every → w ≤ full_memory - 1 → length (d ∷ cs) ≤ max_cells
    → Each (λ e. stale_in (swept_memo s.memo d.entries) e ≡ stale_in s.memo e) cs → Clean (swept_memo s.memo d.entries) (swept s.memo d)
    → Bounded (sweep_front (d ∷ cs) s).memo (sweep_front (d ∷ cs) s).cells w (sweep_front (d ∷ cs) s).tally
unfolding sweep_front
sweep_front-Bounded d cs s w c b u h l q z =
    Bounded_tick s.memo (swept_memo s.memo d.entries) d _ cs w c b u q (stale_settled (swept_memo s.memo d.entries) s.free (swept s.memo d) ∙ z) h l
