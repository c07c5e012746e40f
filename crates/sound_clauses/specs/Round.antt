-- Tests of the tally and of the round's inequality (01, "A sound store").
use Rattle.std.specs.Prelude.{Bool, List, map, ℕ, ◌+◌, ◌-◌, ◌*◌, leb, ltb, length, drop}
use Rattle.terms.specs.Terms.{Fix}
use Rattle.lists.specs.Rows.{Rows}
use Rattle.lists.specs.Sums.{sum_by}
use Rattle.lists.specs.Tests.{one_if}
use Rattle.rules.specs.Limits.{max_cells, full_memory, sweep_every}
use Rattle.rules.specs.Store.{Line}
use Rattle.rules.specs.Sweep.{stale}
use Rattle.sound_clauses.specs.Loops.{all_to}

-- "c is 0 to 15."
unfoldable pub tally_test : ℕ → Bool
tally_test c = ltb c sweep_every

-- the stale ones of a cell's entries
unfoldable pub stale_count : Rows Line → Rows Fix → ℕ
stale_count memo es = sum_by (λ e. one_if (stale memo e)) es

-- of each cell, in the order of the round
abbrev pub stale_counts : Rows Line → List (Rows Fix) → List ℕ
stale_counts memo rows = map (stale_count memo) rows

-- what stands at place k and later
unfoldable pub from_place : ℕ → List ℕ → ℕ
from_place k counts = sum_by (λ n. n) (drop k counts)

-- "Counting round places from 0, for every k below the number of cells the stale entries in cells at place k and later, plus all waiting, are at most
-- 16 × (63 − k) + c + 127.": from the stale count of each cell, how many wait, and c
unfoldable pub bound_test : List ℕ → ℕ → ℕ → Bool
bound_test counts w c = all_to (length counts) (λ k. leb (from_place k counts + w) (sweep_every * (max_cells - 1 - k) + c + (full_memory - 1)))
