use Rattle.std.proofs.Common.{◌≤◌, ◌-◌, length, take}
use Rattle.journal_input.specs.Input.{Brings}
use Rattle.journal_input.proofs.read_up_to.Given as goal

abbrev pub invariant-loop-end : goal.invariant-loop-end
invariant-loop-end g l = record {
  low : l.fn.end ≤ l.end;
  high : l.end ≤ length l.window;
  brings : Brings (g.R.Read.remaining l.fn.reader) (g.R.Read.remaining l.reader) (take l.fn.end l.fn.window) (take l.end l.window);
}

abbrev pub decreases-loop-end : goal.decreases-loop-end
decreases-loop-end g l = l.need - l.end
