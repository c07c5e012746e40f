-- Numbers as bits, the lowest first.
use Rattle.std.specs.Prelude.{Bool, ℕ, zero, suc, ◌+◌, ◌*◌, ◌/◌, ◌%◌, eqb}
use Rattle.lists.specs.Tests.{one_if}

-- the number of n bits, of which bit i is set exactly if f i
unfoldable pub bits : ℕ → (ℕ → Bool) → ℕ
bits zero f = 0
bits (suc n) f = one_if (f 0) + 2 * bits n (λ i. f (suc i))

-- whether bit i of a number is set
unfoldable pub bit : ℕ → ℕ → Bool
bit v zero = eqb (v % 2) 1
bit v (suc i) = bit (v / 2) i
