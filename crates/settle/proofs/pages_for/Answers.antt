use native.Mathlib.Omega.{arith}
use Rattle.rules.specs.Store.{pages_for}
use Rattle.settle.proofs.pages_for.Goals as goal

pub returns : goal.returns
unfolding pages_for
returns c = omega (arith, c.div_ceil.ensures, c.max.ensures)
