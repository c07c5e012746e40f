use native.Mathlib.Omega.{arith}
use Rattle.csv_reader.specs.Reading.{inner_value}
use Rattle.csv_reader.proofs.FieldLaws.{value_low, value_high, value_there}
use Rattle.csv_reader.proofs.inner_value.Goals as goal

pub returns-in_err-value : goal.returns-in_err-value
unfolding inner_value
returns-in_err-value c = rw (c.from_residual.ensures, c.in_err-value.was)

pub returns-in-Inner : goal.returns-in-Inner
unfolding inner_value
returns-in-Inner c = rw (c.in_ok-value.was, c.in-Inner.is) (value_there _ _ _ (omega arith) (omega arith))

pub returns-in_default : goal.returns-in_default
unfolding inner_value
returns-in_default c = rw (c.in_ok-value.was, c.in-Inner.is) (value_high _ _ _ (omega arith))

pub returns-in_default-2 : goal.returns-in_default-2
unfolding inner_value
returns-in_default-2 c = rw (c.in_ok-value.was, c.in-Inner.is) (value_low _ _ _ (omega arith))

pub returns-in_default-3 : goal.returns-in_default-3
unfolding inner_value
returns-in_default-3 c = rw (c.in_ok-value.was, c.in_default.is)
