use native.Mathlib.Omega.{arith}
use Rattle.lists.proofs.TestsLaws.{both_tell}
use Rattle.box_due.proofs.lies_within.Goals as goal

pub returns : goal.returns
returns c = (search both_tell, (omega arith, omega arith))
