use Rattle.csv_reader.proofs.FieldLaws.{field_none, field_inner, field_open, field_last}
use Rattle.csv_reader.proofs.field_at.Goals as goal

pub returns-in_err-number : goal.returns-in_err-number
returns-in_err-number c = rw c.from_residual.ensures (field_none c.in_err-number.ensures)

pub returns-in_err-line_end-in-None : goal.returns-in_err-line_end-in-None
returns-in_err-line_end-in-None c = rw c.from_residual-in_err-line_end-in-None.ensures (field_open c.in_ok-number.ensures c.in-None.ensures c.in_err-line_end-in-None.ensures)

pub returns-in-Some : goal.returns-in-Some
returns-in-Some c = field_inner c.in_ok-number.ensures c.in-Some.ensures

pub returns-in_ok-line_end-in-None : goal.returns-in_ok-line_end-in-None
returns-in_ok-line_end-in-None c = field_last c.in_ok-number.ensures c.in-None.ensures c.in_ok-line_end-in-None.ensures
