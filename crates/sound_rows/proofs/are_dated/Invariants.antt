use mathlib.Core.Path.{◌≡◌}
use Rattle.sound_clauses.specs.Loops.{all_to}
use Rattle.sound_rows.specs.Sound.{is_dated}
use Rattle.sound_rows.proofs.are_dated.Given as goal

-- The verdict so far is that of the first i.
abbrev pub invariant-loop-i : goal.invariant-loop-i
invariant-loop-i l = l.so ≡ all_to l.i (is_dated l.highest l.lows l.highs)
