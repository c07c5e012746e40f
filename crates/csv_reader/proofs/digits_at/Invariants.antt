use mathlib.Core.Path.{◌≡◌}
use Prim.Native.Nat.{◌≤◌}
use lib.ListN.{drop}
use Rattle.csv_grammar.specs.Csv.{digits_after}
use Rattle.csv_reader.specs.Reading.{above, held_number}
use Rattle.csv_reader.proofs.digits_at.Given as goal

-- The digits from `i` on, after those that made the number, make the number that all make.
abbrev pub invariant-loop-i : goal.invariant-loop-i
invariant-loop-i l = (l.number ≤ above) × (held_number (digits_after l.number (drop l.i (drop l.from l.file))) ≡ held_number (digits_after 0 (drop l.from l.file)))
