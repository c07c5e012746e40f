use Rattle.std.proofs.Common.{◌≡◌, ◌-◌, length, drop}
use Rattle.journal_replay.specs.Replay.{Running}
use Rattle.journal_replay.proofs.carry_all.Given as goal

abbrev pub invariant-loop-run : goal.invariant-loop-run
invariant-loop-run l = record {
  running : Running l.journal l.desk l.pages l.run.read l.out l.run.written;
  kept : drop l.run.written l.out ≡ drop l.run.written l.initial.out;
}

abbrev pub decreases-loop-run : goal.decreases-loop-run
decreases-loop-run l = length l.journal - l.run.read
