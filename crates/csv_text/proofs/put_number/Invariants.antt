use Prim.Native.Nat.{◌≤◌}
use Rattle.csv_grammar.specs.Csv.{max_minute}
use Rattle.csv_text.proofs.NumberLaws.{Going}
use Rattle.csv_text.proofs.put_number.Given as goal

-- From i on stand the last digits of n; those of `left` are still to come.
abbrev pub invariant-loop-i : goal.invariant-loop-i
invariant-loop-i l = (l.left ≤ max_minute) × Going l.initial.buffer l.at l.n l.buffer l.i l.left
