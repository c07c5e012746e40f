-- A part of a list, a list with a part replaced: what reads and writes at an offset do.
use Rattle.std.specs.Prelude.{List, [], ◌∷◌, ◌++◌, ℕ, zero, suc, ◌+◌, take, drop, length}

-- the n elements from a on
unfoldable pub part {ℓ} : {A : Type ℓ} → List A → ℕ → ℕ → List A
part xs a n = take n (drop a xs)

-- xs with vs in the place of as many elements from a on
unfoldable pub put {ℓ} : {A : Type ℓ} → List A → ℕ → List A → List A
put xs a vs = take a xs ++ (vs ++ drop (a + length vs) xs)

-- f 0, f 1, .., f (n - 1)
unfoldable pub tab {ℓ} : {A : Type ℓ} → ℕ → (ℕ → A) → List A
tab zero f = []
tab (suc n) f = f zero ∷ tab n (λ k. f (suc k))

-- xs with v put in at a, and with the element at a taken out
unfoldable pub insert_at {ℓ} : {A : Type ℓ} → List A → ℕ → A → List A
insert_at xs a v = take a xs ++ (v ∷ drop a xs)

unfoldable pub remove_at {ℓ} : {A : Type ℓ} → List A → ℕ → List A
remove_at xs a = take a xs ++ drop (suc a) xs
