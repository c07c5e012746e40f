use mathlib.Core.Path.{◌≡◌, ◌∙◌}
use Prim.Native.Nat.{ℕ, ◌<◌, ◌/◌, ◌%◌}
use native.Mathlib.Nat.{div-div-eq-div-mul}
use native.Mathlib.Omega.{arith}
use Rattle.std.specs.Int.{w32, to_le_bytes}
use Rattle.lists.specs.Words.{le}
use Rattle.lists.proofs.PartsLaws.{lent}
use Rattle.lists.proofs.WordsLaws.{length-le}
use Rattle.fields.proofs.write_wide.Goals as goal

four_bytes : (v : ℕ) → v < 4294967296 → to_le_bytes w32 v ≡ le 4 v
unfolding le
four_bytes v h =
    let two : v / 256 / 256 ≡ v / 65536 = div-div-eq-div-mul v 256 256 in
    let three : v / 65536 / 256 ≡ v / 16777216 = div-div-eq-div-mul v 65536 256 in
    let top : v / 16777216 % 256 ≡ v / 16777216 = omega arith in
    rw (two, three, top)

pub returns : goal.returns
returns c =
    let e : c.copy_from_slice.new.self ≡ le 4 c.args.v = c.copy_from_slice.ensures.after ∙ c.to_le_bytes.ensures ∙ four_bytes c.args.v c.ranges.v.fits in
    rw e (lent _ _ _ _ (omega (arith, length-le 4 c.args.v)))
