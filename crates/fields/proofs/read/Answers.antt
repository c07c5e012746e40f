use native.Mathlib.Omega.{arith}
use Rattle.lists.specs.Words.{word}
use Rattle.fields.proofs.read.Goals as goal

pub returns : goal.returns
unfolding word
returns c = omega (arith, c.from_le_bytes.ensures)
