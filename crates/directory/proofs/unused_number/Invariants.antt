use Rattle.directory.proofs.NumberLaws.{Used}
use Rattle.directory.proofs.unused_number.Given as goal

-- Each number below k is marked (`Used`).
abbrev pub invariant-loop-k : goal.invariant-loop-k
invariant-loop-k l = Used l.taken-items l.k
