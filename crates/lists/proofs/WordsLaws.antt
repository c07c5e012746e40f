-- Laws of numbers in bytes, over the width.
use mathlib.Core.Path.{◌≡◌, refl, sym, ap, ap₂, ◌∙◌}
use mathlib.Core.List.{List, [], ◌∷◌, ◌++◌}
use Prim.Native.Nat.{ℕ, zero, suc, ◌+◌, ◌*◌, ◌/◌, ◌%◌, ◌≤◌, ◌<◌}
use native.Mathlib.Nat.{add_assoc, not-suc-le-zero, div-div-eq-div-mul, mod-mod_of_dvd, dvd-mul_right}
use native.Mathlib.Omega.{arith}
use lib.ListN.{length, get_or-append}
use lib.Seq.{get_or-append-add}
use Rattle.lists.specs.Parts.{part, put}
use Rattle.lists.specs.Words.{le, word, wide, low_half, high_half, Bytes}
use Rattle.lists.proofs.PartsLaws.{get_or-part, part_zero, part-cons, put_then}

pub length-le : (n v : ℕ) → length (le n v) ≡ n
unfolding le
length-le zero v = refl
length-le (suc zero) v = refl
length-le (suc (suc n)) v = ap suc (length-le (suc n) (v / 256))

-- a word behind other bytes, a word before other bytes, and a word in a part
pub word-append : (n : ℕ) (xs ys : List ℕ) (k at : ℕ) → length xs ≡ k → word n (xs ++ ys) (k + at) ≡ word n ys at
unfolding word
word-append zero xs ys k at h = refl
word-append (suc n) xs ys k at h =
    ap₂ (λ (x y : ℕ). x + 256 * y) (rw (← h) (get_or-append-add xs ys at 0)) (rw add_assoc (word-append n xs ys k (at + 1) h))

pub word-append-le : (n : ℕ) (xs ys : List ℕ) (at : ℕ) → at + n ≤ length xs → word n (xs ++ ys) at ≡ word n xs at
unfolding word
word-append-le zero xs ys at h = refl
word-append-le (suc n) xs ys at h =
    ap₂ (λ (x y : ℕ). x + 256 * y) (get_or-append xs ys 0 at (omega arith)) (word-append-le n xs ys (at + 1) (omega arith))

pub word-part : (n : ℕ) (xs : List ℕ) (a m at : ℕ) → at + n ≤ m → word n (part xs a m) at ≡ word n xs (a + at)
unfolding word
word-part zero xs a m at h = refl
word-part (suc n) xs a m at h =
    ap₂ (λ (x y : ℕ). x + 256 * y) (get_or-part xs a m at 0 (omega arith)) (rw add_assoc (word-part n xs a m (at + 1) (omega arith)))

-- what is written is read back
pub word-le : (n v : ℕ) (r : List ℕ) → 0 < n → word n (le n v ++ r) 0 ≡ v
unfolding word le
word-le zero v r h = absurd (not-suc-le-zero h)
word-le (suc zero) v r h = omega arith
word-le (suc (suc n)) v r h =
    let e : word (suc n) (v % 256 ∷ (le (suc n) (v / 256) ++ r)) 1 ≡ v / 256 = word-append (suc n) (v % 256 ∷ []) (le (suc n) (v / 256) ++ r) 1 0 refl ∙ word-le (suc n) (v / 256) r (omega arith) in
    omega (arith, e)

-- bytes are those of the number that they are
pub le-word : (n : ℕ) (b : List ℕ) (at : ℕ) → Bytes b → at + n ≤ length b → le n (word n b at) ≡ part b at n
unfolding le word
le-word zero b at small h = sym (part_zero b at)
le-word (suc zero) b at small h = rw (part-cons b at 0 0 (omega arith), part_zero) (ap (λ (x : ℕ). x ∷ []) (omega arith))
le-word (suc (suc n)) b at small h =
    let x = small at in
    rw (part-cons b at (suc n) 0 (omega arith), ← le-word (suc n) b (at + 1) small (omega arith)) (ap₂ (λ (u v : ℕ). u ∷ le (suc n) v) (omega arith) (omega arith))

-- a number of n bytes, at width 2
pub word_small : (b : List ℕ) (at : ℕ) → Bytes b → word 2 b at < 65536
unfolding word
word_small b at small = let x = small at in let y = small (at + 1) in omega arith

-- ---- halves

pub wide_halves : (v : ℕ) → wide (low_half v) (high_half v) ≡ v
wide_halves v = omega arith

pub low_wide : (low high : ℕ) → low < 65536 → low_half (wide low high) ≡ low
low_wide low high h = omega arith

pub high_wide : (low high : ℕ) → low < 65536 → high_half (wide low high) ≡ high
high_wide low high h = omega arith

-- four bytes are two halves of two
pub word-wide : (xs : List ℕ) (at : ℕ) {low high : ℕ} → low ≡ word 2 xs at → high ≡ word 2 xs (at + 2) → wide low high ≡ word 4 xs at
unfolding word
word-wide xs at e f = let z : at + 2 ≡ at + 1 + 1 = omega arith in omega (arith, e, rw z at f)

pub le_wide : (v : ℕ) → le 2 (low_half v) ++ le 2 (high_half v) ≡ le 4 v
unfolding le
le_wide v =
    let d : v / 256 / 256 ≡ v / 65536 = div-div-eq-div-mul v 256 256 in
    let e₀ : v % 65536 % 256 ≡ v % 256 = mod-mod_of_dvd 256 v (dvd-mul_right 256 256) in
    let e₁ : v % 65536 / 256 ≡ v / 256 % 256 = omega arith in
    rw (e₀, e₁, ← d)

-- two writes side by side
pub put_wide : (xs : List ℕ) {ys zs : List ℕ} (at v : ℕ) {low high : ℕ} → at + 4 ≤ length xs → low ≡ low_half v → ys ≡ put xs at (le 2 low) → high ≡ high_half v
    → zs ≡ put ys (at + 2) (le 2 high) → zs ≡ put xs at (le 4 v)
put_wide xs at v {low} {high} h l e u f =
    rw (← le_wide v, ← l, ← u) (put_then xs at (le 2 low) (le 2 high) e f (unfold le in refl) (omega arith))
