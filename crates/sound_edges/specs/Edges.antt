-- Which stripe an edge bounds, and which stripes lie between two edges.
use Rattle.std.specs.Prelude.{Bool, true, false, List, ℕ, Option, None, Some}
use Rattle.rules.specs.Grid.{stripe}
use Rattle.sound_clauses.specs.Grid.{span_test}

-- a value, where a test passes
abbrev pub passing : {A : Type 0} → Bool → A → Option A
passing true a = Some a
passing false a = None

-- the first and the last stripe between two edges on cuts
abbrev pub extent : List ℕ → ℕ → ℕ → Option (ℕ × ℕ)
extent cuts low high = passing (span_test cuts (record { low = low; high = high })) (stripe cuts low, stripe cuts high)
