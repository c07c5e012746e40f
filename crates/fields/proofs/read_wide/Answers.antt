use mathlib.Core.Path.{◌≡◌}
use Prim.Native.Nat.{◌+◌}
use native.Mathlib.Omega.{arith}
use Rattle.lists.specs.Words.{word}
use Rattle.fields.proofs.read_wide.Goals as goal

pub returns : goal.returns
unfolding word
returns c =
    let at = c.args.at in
    let two : at + 1 + 1 ≡ at + 2 = omega arith in
    let three : at + 2 + 1 ≡ at + 3 = omega arith in
    rw (two, three) (omega (arith, c.from_le_bytes.ensures))
