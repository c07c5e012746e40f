use Rattle.csv_reader.specs.Reading.{after_quoted}
use Rattle.csv_reader.proofs.EndLaws.{then_none, then_some}
use Rattle.csv_reader.proofs.quoted_end.Goals as goal

pub returns-in_err-inner : goal.returns-in_err-inner
unfolding after_quoted
returns-in_err-inner c = rw c.from_residual.ensures (then_none _ c.in_err-inner.ensures)

pub returns-in_err-behind : goal.returns-in_err-behind
unfolding after_quoted
returns-in_err-behind c = rw c.from_residual-in_err-behind.ensures (then_some _ c.in_ok-inner.ensures (then_none _ c.in_err-behind.ensures))

pub returns : goal.returns
unfolding after_quoted
returns c = then_some _ c.in_ok-inner.ensures (then_some _ c.in_ok-behind.ensures c.byte_end-2.ensures)
