-- The tests of the tally and of the round's inequality say just the clauses.
use mathlib.Core.Path.{◌≡◌, ap, ◌∙◌}
use mathlib.Core.Bool.{true}
use mathlib.Core.List.{List, [], ◌∷◌}
use Prim.Native.Nat.{ℕ, zero, suc, ◌+◌, ◌-◌, ◌*◌, ◌≤◌, ◌<◌}
use native.Mathlib.Omega.{arith}
use lib.Dec.{leb}
use lib.ListN.{length, get_or, drop, length-map, drop_of_length-le}
use lib.Seq.{drop-cons}
use borrow.Author.Tests.{lt-ltb, ltb-true, le-leb, leb-true}
use Rattle.lists.specs.Rows.{Rows}
use Rattle.lists.specs.Sums.{sum_by}
use Rattle.lists.proofs.SumsLaws.{sum-nil, sum-cons, sum-map}
use Rattle.rules.specs.Limits.{max_cells, full_memory, sweep_every}
use Rattle.rules.specs.Store.{Line, Cell}
use Rattle.rules.specs.WellFormed.{stale_in}
use Rattle.sound_clauses.specs.Cells.{rows_of}
use Rattle.sound_clauses.specs.Round.{tally_test, stale_count, stale_counts, from_place, bound_test}
use Rattle.sound_clauses.proofs.LoopsLaws.{all_to-true, true-all_to}

pub tally_true : (c : ℕ) → tally_test c ≡ true → c < sweep_every
unfolding tally_test
tally_true c e = ltb-true c sweep_every e

pub true_tally : (c : ℕ) → c < sweep_every → tally_test c ≡ true
unfolding tally_test
true_tally c h = lt-ltb c sweep_every h

-- ---- the inequality

sum_counts : (memo : Rows Line) (cells : List Cell) → sum_by (λ n. n) (stale_counts memo (rows_of cells)) ≡ sum_by (stale_in memo) cells
unfolding stale_count stale_in
sum_counts memo cells = sum-map (λ n. n) (stale_count memo) (rows_of cells) ∙ sum-map (stale_count memo) (λ c. c.entries) cells

pub from_place_lem : (memo : Rows Line) (k : ℕ) (cells : List Cell) → from_place k (stale_counts memo (rows_of cells)) ≡ sum_by (stale_in memo) (drop k cells)
unfolding from_place
from_place_lem memo zero cells = sum_counts memo cells
from_place_lem memo (suc k) [] = sum_counts memo []
from_place_lem memo (suc k) (c ∷ cs) = from_place_lem memo k cs

-- one place more, from the end
pub from_end : (k : ℕ) (counts : List ℕ) → length counts ≤ k → from_place k counts ≡ 0
unfolding from_place
from_end k counts h = rw (drop_of_length-le counts {i = k} h) (sum-nil (λ n. n))

pub from_step : (k : ℕ) (counts : List ℕ) → k < length counts → from_place k counts ≡ get_or counts k 0 + from_place (suc k) counts
unfolding from_place
from_step k counts h = ap (sum_by (λ n. n)) (drop-cons counts k 0 h) ∙ sum-cons (λ n. n) (get_or counts k 0) (drop (suc k) counts)

length_counts : (memo : Rows Line) (cells : List Cell) → length (stale_counts memo (rows_of cells)) ≡ length cells
length_counts memo cells = length-map (rows_of cells) (stale_count memo) ∙ length-map cells (λ c. c.entries)

module _ (memo : Rows Line) (cells : List Cell) (w c : ℕ) where
  abbrev most : ℕ → ℕ
  most k = sweep_every * (max_cells - 1 - k) + c + (full_memory - 1)

  pub bound_true : bound_test (stale_counts memo (rows_of cells)) w c ≡ true → (k : ℕ) → k < length cells
      → sum_by (stale_in memo) (drop k cells) + w ≤ sweep_every * (max_cells - 1 - k) + c + (full_memory - 1)
  unfolding bound_test
  bound_true e k h =
      let f = all_to-true (length (stale_counts memo (rows_of cells))) (λ j. leb (from_place j (stale_counts memo (rows_of cells)) + w) (most j)) e k (omega (arith, length_counts memo cells)) in
      omega (arith, leb-true (from_place k (stale_counts memo (rows_of cells)) + w) (most k) f, from_place_lem memo k cells)

  pub true_bound : ((k : ℕ) → k < length cells → sum_by (stale_in memo) (drop k cells) + w ≤ sweep_every * (max_cells - 1 - k) + c + (full_memory - 1))
      → bound_test (stale_counts memo (rows_of cells)) w c ≡ true
  unfolding bound_test
  true_bound h =
      true-all_to (length (stale_counts memo (rows_of cells))) (λ k. leb (from_place k (stale_counts memo (rows_of cells)) + w) (most k))
      (λ k b. le-leb (from_place k (stale_counts memo (rows_of cells)) + w) (most k) (omega (arith, h k (omega (arith, length_counts memo cells)), from_place_lem memo k cells)))
