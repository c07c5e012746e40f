-- Laws of bits: a number is read back bit by bit, and a bit that changes is a power of 2 more or less.
use mathlib.Core.Bool.{Bool, true, false, cond}
use mathlib.Core.Path.{◌≡◌, refl, sym, ap, ap₂, ◌∙◌}
use Prim.Native.Nat.{ℕ, zero, suc, ◌+◌, ◌*◌, ◌/◌, ◌%◌, ◌^◌, ◌≤◌, ◌<◌}
use native.Mathlib.Omega.{arith}
use native.Mathlib.Nat.{not-suc-le-zero, le_of_suc-le-suc, div-div-eq-div-mul, pow-suc, mul_comm}
use lib.Dec.{eqb, eqb-suc-suc}
use borrow.Author.Tests.{eq-eqb, ne_eqb, eqb-true, eqb-false}
use Rattle.lists.specs.Bits.{bits, bit}
use Rattle.lists.specs.Tests.{one_if}
use Rattle.lists.proofs.Cases.{by_cases}

one_if_small : (b : Bool) → one_if b ≤ 1
one_if_small true = omega arith
one_if_small false = omega arith

odd_is : (b : Bool) (n : ℕ) → eqb ((one_if b + 2 * n) % 2) 1 ≡ b
odd_is true n = let e : (1 + 2 * n) % 2 ≡ 1 = omega arith in rw e
odd_is false n = let e : (0 + 2 * n) % 2 ≡ 0 = omega arith in rw e

half_is : (b : Bool) (n : ℕ) → (one_if b + 2 * n) / 2 ≡ n
half_is b n = omega (arith, one_if_small b)

twice : (n : ℕ) → 2 ^ suc n ≡ 2 * 2 ^ n
twice n = pow-suc 2 n ∙ mul_comm (2 ^ n) 2

-- ---- a number of bits, and its bits

pub bit-bits : (n : ℕ) (f : ℕ → Bool) (i : ℕ) → i < n → bit (bits n f) i ≡ f i
unfolding bit bits
bit-bits zero f i h = absurd (not-suc-le-zero h)
bit-bits (suc n) f zero h = odd_is (f 0) (bits n (λ i. f (suc i)))
bit-bits (suc n) f (suc i) h = ap (λ (v : ℕ). bit v i) (half_is (f 0) (bits n (λ i. f (suc i)))) ∙ bit-bits n (λ i. f (suc i)) i (le_of_suc-le-suc h)

pub bits_same : (n : ℕ) (f g : ℕ → Bool) → ((i : ℕ) → i < n → f i ≡ g i) → bits n f ≡ bits n g
unfolding bits
bits_same zero f g e = refl
bits_same (suc n) f g e = ap₂ (λ (b : Bool) (v : ℕ). one_if b + 2 * v) (e 0 (omega arith)) (bits_same n (λ i. f (suc i)) (λ i. g (suc i)) (λ i h. e (suc i) (omega arith)))

pub bits-lt : (n : ℕ) (f : ℕ → Bool) → bits n f < 2 ^ n
unfolding bits
bits-lt zero f = omega arith
bits-lt (suc n) f = omega (arith, twice n, one_if_small (f 0), bits-lt n (λ i. f (suc i)))

pub bits_none : (n : ℕ) → bits n (λ i. false) ≡ 0
unfolding bits
bits_none zero = refl
bits_none (suc n) = omega (arith, bits_none n)

bit_low : (v : ℕ) → one_if (eqb (v % 2) 1) ≡ v % 2
bit_low v = by_cases (eqb (v % 2) 1) (λ t. rw t (sym (eqb-true (v % 2) 1 t))) (λ t. rw t (omega (arith, eqb-false (v % 2) 1 t)))

pub bits-bit : (n v : ℕ) → v < 2 ^ n → bits n (bit v) ≡ v
unfolding bits bit
bits-bit zero v h = omega arith
bits-bit (suc n) v h = omega (arith, bit_low v, bits-bit n (v / 2) (omega (arith, twice n)))

-- ---- one bit

pub bit_is : (v i : ℕ) → eqb (v / 2 ^ i % 2) 1 ≡ bit v i
unfolding bit
bit_is v zero = let e : v / 1 ≡ v = omega arith in rw e
bit_is v (suc i) = ap (λ (x : ℕ). eqb (x % 2) 1) (ap (λ (x : ℕ). v / x) (twice i) ∙ sym (div-div-eq-div-mul v 2 (2 ^ i))) ∙ bit_is (v / 2) i

-- a bit that changes
doubled : (b : Bool) (i : ℕ) → one_if b * 2 ^ suc i ≡ 2 * (one_if b * 2 ^ i)
doubled true i = omega (arith, twice i)
doubled false i = omega arith

pub bits_put : (n : ℕ) (f : ℕ → Bool) (i : ℕ) (b : Bool) → i < n → bits n (λ j. cond (eqb j i) b (f j)) + one_if (f i) * 2 ^ i ≡ bits n f + one_if b * 2 ^ i
unfolding bits
bits_put zero f i b h = absurd (not-suc-le-zero h)
bits_put (suc n) f zero b h =
    let low : one_if (cond (eqb 0 0) b (f 0)) ≡ one_if b = ap (λ (t : Bool). one_if (cond t b (f 0))) (eq-eqb 0 0 refl) in
    let high = bits_same n (λ j. cond (eqb (suc j) 0) b (f (suc j))) (λ j. f (suc j)) (λ j k. ap (λ (t : Bool). cond t b (f (suc j))) (ne_eqb (suc j) 0 (omega arith))) in
    omega (arith, low, high)
bits_put (suc n) f (suc i) b h =
    let low : one_if (cond (eqb 0 (suc i)) b (f 0)) ≡ one_if (f 0) = ap (λ (t : Bool). one_if (cond t b (f 0))) (ne_eqb 0 (suc i) (omega arith)) in
    let high = bits_same n (λ j. cond (eqb (suc j) (suc i)) b (f (suc j))) (λ j. cond (eqb j i) b (f (suc j))) (λ j k. ap (λ (t : Bool). cond t b (f (suc j))) (eqb-suc-suc j i)) in
    omega (arith, low, high, doubled (f (suc i)) i, doubled b i, bits_put n (λ j. f (suc j)) i b (le_of_suc-le-suc h))
