use Rattle.csv_reader.proofs.NumberLaws.{closed_none, closed_other, closed_open, closed_there}
use Rattle.csv_reader.proofs.quoted_number.Goals as goal

pub returns-in_err-inner : goal.returns-in_err-inner
returns-in_err-inner c = rw c.from_residual.ensures (closed_none c.in_err-inner.ensures)

pub returns-in_err-value : goal.returns-in_err-value
returns-in_err-value c = rw c.from_residual-in_err-value.ensures (closed_other c.in_ok-inner.ensures c.in_err-value.ensures)

pub returns-in_err-next : goal.returns-in_err-next
returns-in_err-next c = rw c.from_residual-in_err-next.ensures (closed_open c.in_ok-inner.ensures c.in_ok-value.ensures c.in_err-next.ensures)

pub returns : goal.returns
returns c = closed_there c.in_ok-inner.ensures c.in_ok-value.ensures c.in_ok-next.ensures
