use Rattle.directory.proofs.CellLaws.{spans_low, spans_not}
use Rattle.directory.proofs.spans.Goals as goal

pub returns-then-low-x : goal.returns-then-low-x
returns-then-low-x c = search spans_low

pub returns-else-low-x : goal.returns-else-low-x
returns-else-low-x c = search spans_not
