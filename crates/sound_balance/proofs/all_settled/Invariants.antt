use mathlib.Core.Path.{◌≡◌}
use lib.Dec.{eqb}
use lib.ListN.{get_or}
use Rattle.sound_clauses.specs.Loops.{all_to}
use Rattle.sound_balance.proofs.all_settled.Given as goal

-- The verdict so far is that of the numbers so far.
abbrev pub invariant-loop-number : goal.invariant-loop-number
invariant-loop-number l = l.so ≡ all_to l.number-index (λ q. eqb (get_or l.balance q 0) 0)
