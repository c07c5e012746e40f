use Rattle.csv_reader.specs.Reading.{after_column}
use Rattle.csv_reader.proofs.EndLaws.{then_none, then_some}
use Rattle.csv_reader.proofs.column_end.Goals as goal

pub returns-in_err-behind : goal.returns-in_err-behind
unfolding after_column
returns-in_err-behind c = rw c.from_residual.ensures (then_none _ c.in_err-behind.ensures)

pub returns : goal.returns
unfolding after_column
returns c = then_some _ c.in_ok-behind.ensures c.byte_end.ensures
