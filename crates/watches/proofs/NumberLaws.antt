-- A number with one bit put: what it is, in the three cases of the code.
use mathlib.Core.Bool.{Bool, true, false, beq}
use mathlib.Core.Path.{◌≡◌, sym}
use Prim.Native.Nat.{ℕ, ◌+◌, ◌-◌, ◌*◌, ◌%◌, ◌^◌, ◌≤◌, ◌<◌}
use native.Mathlib.Omega.{arith}
use lib.Pow.{pow-lt}
use Rattle.lists.specs.Bits.{bits, bit}
use Rattle.lists.specs.Tests.{one_if}
use Rattle.lists.proofs.BitsLaws.{bits-lt, bits-bit, bits_put}
use Rattle.lists.proofs.Cases.{false-true}
use Rattle.rules.specs.Plain.{put_at}

-- 1 shifted, as the code has it
abbrev shifted : ℕ → ℕ
shifted i = 1 * 2 ^ i % 65536

power : (i : ℕ) → i < 16 → shifted i ≡ 2 ^ i
power i h = let k : 2 ^ i < 2 ^ 16 = pow-lt h in omega arith

module _ (v i : ℕ) (fits : v < 65536) (h : i < 16) where
  abbrev put : Bool → ℕ
  put set = bits 16 (put_at i set (bit v))

  -- how far the bit moves the number, where it was `was`
  moved : (was set : Bool) → was ≡ bit v i → put set + one_if was * 2 ^ i ≡ v + one_if set * 2 ^ i
  moved was set e = rw e (omega (arith, bits_put 16 (bit v) i set h, bits-bit 16 v fits))

  pub put_same : (was set : Bool) → was ≡ bit v i → beq was set ≡ true → v ≡ put set
  put_same true true e t = omega (arith, moved true true e)
  put_same true false e t = false-true t
  put_same false true e t = false-true t
  put_same false false e t = omega (arith, moved false false e)

  pub put_set : (was set : Bool) → was ≡ bit v i → beq was set ≡ false → set ≡ true → v + shifted i ≡ put set
  put_set true true e t s = false-true (sym t)
  put_set false true e t s = omega (arith, power i h, moved false true e)
  put_set was false e t s = false-true s

  pub set_fits : (was set : Bool) → was ≡ bit v i → beq was set ≡ false → set ≡ true → v + shifted i < 65536
  set_fits was set e t s = omega (arith, put_set was set e t s, bits-lt 16 (put_at i set (bit v)))

  -- a bit that was set is part of the number
  pub shift_within : (was set : Bool) → was ≡ bit v i → beq was set ≡ false → set ≡ false → shifted i ≤ v
  shift_within was true e t s = false-true (sym s)
  shift_within true false e t s = omega (arith, power i h, moved true false e)
  shift_within false false e t s = false-true (sym t)

  pub put_cleared : (was set : Bool) → was ≡ bit v i → beq was set ≡ false → set ≡ false → v - shifted i ≡ put set
  put_cleared was true e t s = false-true (sym s)
  put_cleared true false e t s = omega (arith, power i h, moved true false e)
  put_cleared false false e t s = false-true (sym t)
