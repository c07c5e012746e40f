use Rattle.directory.proofs.CellLaws.{holds_east, holds_not}
use Rattle.directory.proofs.holds.Goals as goal

pub returns-then-spans : goal.returns-then-spans
returns-then-spans c = search holds_east

pub returns-else-spans : goal.returns-else-spans
returns-else-spans c = search holds_not
