use mathlib.Core.List.{[], ◌∷◌}
use mathlib.Core.Path.{◌≡◌, ap₂, ◌∙◌}
use Prim.Native.Nat.{ℕ, ◌<◌}
use native.Mathlib.Omega.{arith}
use Rattle.std.specs.Int.{w16, to_le_bytes}
use Rattle.lists.specs.Words.{le}
use Rattle.lists.proofs.PartsLaws.{lent}
use Rattle.lists.proofs.WordsLaws.{length-le}
use Rattle.fields.proofs.write.Goals as goal

two_bytes : (v : ℕ) → v < 65536 → to_le_bytes w16 v ≡ le 2 v
unfolding le
two_bytes v h = ap₂ (λ (a b : ℕ). a ∷ b ∷ []) (omega arith) (omega arith)

pub returns : goal.returns
returns c =
    let e : c.copy_from_slice.new.self ≡ le 2 c.args.v = c.copy_from_slice.ensures.after ∙ c.to_le_bytes.ensures ∙ two_bytes c.args.v c.ranges.v.fits in
    rw e (lent _ _ _ _ (omega (arith, length-le 2 c.args.v)))
