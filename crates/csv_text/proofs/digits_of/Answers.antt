use native.Mathlib.Omega.{arith}
use Rattle.csv_text.proofs.NumberLaws.{width_one, width}
use Rattle.csv_text.proofs.digits_of.Goals as goal

-- Each range says between which powers of ten n lies; past the last, n fits ten digits.
pub returns-in-0-to-9 : goal.returns-in-0-to-9
returns-in-0-to-9 c = width_one c.args.n (omega arith)

pub returns-in-10-to-99 : goal.returns-in-10-to-99
returns-in-10-to-99 c = width 0 c.args.n (omega arith) (omega arith) (omega arith)

pub returns-in-100-to-999 : goal.returns-in-100-to-999
returns-in-100-to-999 c = width 1 c.args.n (omega arith) (omega arith) (omega arith)

pub returns-in-1000-to-9999 : goal.returns-in-1000-to-9999
returns-in-1000-to-9999 c = width 2 c.args.n (omega arith) (omega arith) (omega arith)

pub returns-in-10000-to-99999 : goal.returns-in-10000-to-99999
returns-in-10000-to-99999 c = width 3 c.args.n (omega arith) (omega arith) (omega arith)

pub returns-in-100000-to-999999 : goal.returns-in-100000-to-999999
returns-in-100000-to-999999 c = width 4 c.args.n (omega arith) (omega arith) (omega arith)

pub returns-in-1000000-to-9999999 : goal.returns-in-1000000-to-9999999
returns-in-1000000-to-9999999 c = width 5 c.args.n (omega arith) (omega arith) (omega arith)

pub returns-in-10000000-to-99999999 : goal.returns-in-10000000-to-99999999
returns-in-10000000-to-99999999 c = width 6 c.args.n (omega arith) (omega arith) (omega arith)

pub returns-in-100000000-to-999999999 : goal.returns-in-100000000-to-999999999
returns-in-100000000-to-999999999 c = width 7 c.args.n (omega arith) (omega arith) (omega arith)

pub returns-in_default : goal.returns-in_default
returns-in_default c = width 8 c.args.n (omega arith) (omega arith) (omega arith)
