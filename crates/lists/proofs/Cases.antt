-- Case analysis that keeps its equation.
use mathlib.Core.Path.{◌≡◌, refl, sym}
use mathlib.Core.Bool.{Bool, true, false}
use mathlib.Core.List.{List, [], ◌∷◌}
use Rattle.std.specs.Prelude.{Option, None, Some}
use Prim.Native.Nat.{ℕ}
use native.Mathlib.Omega.{arith}
use Rattle.lists.specs.Tests.{is_some, or_else, first_some}

pub by_cases {ℓ} : {P : Type ℓ} (b : Bool) → (b ≡ true → P) → (b ≡ false → P) → P
by_cases true f g = f refl
by_cases false f g = g refl

pub option_cases {ℓ} : {A : Type 0} {P : Type ℓ} (o : Option A) → (o ≡ None → P) → ((a : A) → o ≡ Some a → P) → P
option_cases None f g = f refl
option_cases (Some a) f g = g a refl

pub list_cases {ℓ} : {A : Type 0} {P : Type ℓ} (l : List A) → (l ≡ [] → P) → ((x : A) (xs : List A) → l ≡ x ∷ xs → P) → P
list_cases [] f g = f refl
list_cases (x ∷ xs) f g = g x xs refl

-- ---- what cannot be

pub none-some {ℓ} : {A : Type 0} {P : Type ℓ} {a : A} → None ≡ Some a → P
none-some e = let z : ◌≡◌ {A = ℕ} 0 1 = cc in absurd (omega arith)

pub false-true {ℓ} : {P : Type ℓ} → false ≡ true → P
false-true e = let z : ◌≡◌ {A = ℕ} 0 1 = cc in absurd (omega arith)

-- ---- options

pub some_injective : {A : Type 0} {a b : A} → Some a ≡ Some b → a ≡ b
some_injective e = cc

pub is_some-true {ℓ} : {A : Type 0} {P : Type ℓ} (o : Option A) → is_some o ≡ true → ((a : A) → o ≡ Some a → P) → P
is_some-true None e f = false-true e
is_some-true (Some a) e f = f a refl

pub is_some-false : {A : Type 0} (o : Option A) → is_some o ≡ false → o ≡ None
is_some-false None e = refl
is_some-false (Some a) e = false-true (sym e)

pub or_else_cases {ℓ} : {A : Type 0} {P : Type ℓ} (o q : Option A) (a : A) → or_else o q ≡ Some a → (o ≡ Some a → P) → (q ≡ Some a → P) → P
or_else_cases None q a e f g = g e
or_else_cases (Some b) q a e f g = f e

pub first_some_cases {ℓ} : {A B : Type 0} {P : Type ℓ} (f : A → Option B) (l : List A) (b : B) → first_some f l ≡ Some b → ((x : A) → f x ≡ Some b → P) → P
unfolding first_some
first_some_cases f [] b e k = none-some e
first_some_cases f (x ∷ xs) b e k = or_else_cases (f x) (first_some f xs) b e (k x) (λ e. first_some_cases f xs b e k)
