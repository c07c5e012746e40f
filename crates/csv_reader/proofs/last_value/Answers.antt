use native.Mathlib.Omega.{arith}
use Rattle.csv_reader.specs.Reading.{last_value}
use Rattle.csv_reader.proofs.FieldLaws.{value_high, value_there}
use Rattle.csv_reader.proofs.last_value.Goals as goal

pub returns-in_err-value : goal.returns-in_err-value
unfolding last_value
returns-in_err-value c = rw (c.from_residual.ensures, c.in_err-value.was)

pub returns-in-Last : goal.returns-in-Last
unfolding last_value
returns-in-Last c = rw (c.in_ok-value.was, c.in-Last.is) (value_there 0 _ _ (omega arith) (omega arith))

pub returns-in_default : goal.returns-in_default
unfolding last_value
returns-in_default c = rw (c.in_ok-value.was, c.in-Last.is) (value_high 0 _ _ (omega arith))

pub returns-in_default-2 : goal.returns-in_default-2
unfolding last_value
returns-in_default-2 c = rw (c.in_ok-value.was, c.in_default.is)
