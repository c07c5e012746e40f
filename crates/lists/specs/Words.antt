-- Numbers in bytes, the lowest byte first, at any width.
use Rattle.std.specs.Prelude.{List, [], ◌∷◌, ℕ, zero, suc, ◌+◌, ◌*◌, ◌/◌, ◌%◌, ◌<◌, get_or}

-- the n bytes of v; the last one takes what is left, so that no law needs a bound on v
unfoldable pub le : ℕ → ℕ → List ℕ
le zero v = []
le (suc zero) v = v ∷ []
le (suc (suc n)) v = v % 256 ∷ le (suc n) (v / 256)

-- the number in the n bytes at `at`
unfoldable pub word : ℕ → List ℕ → ℕ → ℕ
word zero xs at = 0
word (suc n) xs at = get_or xs at 0 + 256 * word n xs (at + 1)

-- a number of two halves of 16 bits each, the lower one first, and its halves
abbrev pub wide : ℕ → ℕ → ℕ
wide low high = low + 65536 * high

abbrev pub low_half : ℕ → ℕ
low_half v = v % 65536

abbrev pub high_half : ℕ → ℕ
high_half v = v / 65536

-- every element is a byte
abbrev pub Bytes : List ℕ → Type 0
Bytes b = (i : ℕ) → get_or b i 0 < 256
