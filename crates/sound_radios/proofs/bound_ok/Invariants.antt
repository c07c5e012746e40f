use Prim.Native.Nat.{◌+◌, ◌-◌, ◌*◌, ◌≤◌}
use Rattle.rules.specs.Limits.{full_memory}
use Rattle.sound_balance.specs.Tables.{field_end}
use Rattle.sound_radios.proofs.BoundLaws.{Bounding}
use Rattle.sound_radios.proofs.bound_ok.Given as goal

-- From the last place of the round to the first (`Bounding`).
abbrev pub invariant-loop-i : goal.invariant-loop-i
invariant-loop-i l = (l.sum ≤ full_memory + field_end * (l.n - l.i)) × Bounding l.counts l.n l.waiting l.c l.sum l.i
