-- Laws of tests as Bools, and of what they pick.
use mathlib.Core.Path.{◌≡◌, refl, sym, ap, subst}
use mathlib.Core.Bool.{Bool, true, false, cond, ◌&&◌, ◌||◌}
use mathlib.Core.List.{List, [], ◌∷◌, ◌++◌, map}
use Rattle.std.specs.Prelude.{Option, None, Some}
use Prim.Native.Nat.{ℕ, zero, suc, ◌+◌, ◌≤◌, ◌<◌}
use native.Mathlib.Omega.{arith}
use native.Mathlib.Nat.{le_of_suc-le-suc, not-suc-le-zero}
use lib.ListN.{length, get_or, drop}
pub use borrow.Author.Tests.{not-true, not-false}
use Rattle.lists.specs.Parts.{tab}
use Rattle.lists.specs.Sums.{keep, filter, concat}
use Rattle.lists.specs.Tests.{one_if, both, either, Each, all, first_at, best}
use Rattle.lists.proofs.Cases.{by_cases, option_cases, false-true}
use Rattle.lists.proofs.PartsLaws.{length-tab, get_or-tab}

-- "and" of the code and of the definitions
pub and_both : (a b : Bool) → (a && b) ≡ both a b
unfolding both
and_both a b = by_cases a (λ t. rw t) (λ t. rw t)

pub both_tell : {p q : Bool} (a b : Bool) → p ≡ a → q ≡ b → (p && q) ≡ both a b
both_tell a b e f = rw (e, f) (and_both a b)

-- the same for "or"
pub or_either : (a b : Bool) → (a || b) ≡ either a b
unfolding either
or_either true b = refl
or_either false b = refl

pub either_tell : {p q : Bool} (a b : Bool) → p ≡ a → q ≡ b → (p || q) ≡ either a b
either_tell a b e f = rw (e, f) (or_either a b)

pub both_left : (a b : Bool) → both a b ≡ true → a ≡ true
unfolding both
both_left true b e = refl
both_left false b e = e

pub both_right : (a b : Bool) → both a b ≡ true → b ≡ true
unfolding both
both_right true b e = e
both_right false b e = cc

pub both_intro : {a b : Bool} → a ≡ true → b ≡ true → both a b ≡ true
unfolding both
both_intro e f = rw (e, f)

-- a test that fails
pub both_left_false : {a : Bool} (b : Bool) → a ≡ false → both a b ≡ false
unfolding both
both_left_false b e = rw e

pub both_right_false : (a : Bool) {b : Bool} → b ≡ false → both a b ≡ false
unfolding both
both_right_false true e = e
both_right_false false e = refl

-- the second, where the first passed
pub both_second : (a b : Bool) → a ≡ true → both a b ≡ false → b ≡ false
unfolding both
both_second true b t e = e
both_second false b t e = false-true t

pub both-true : (a : Bool) → both a true ≡ a
unfolding both
both-true true = refl
both-true false = refl

pub true-both : (b : Bool) → both true b ≡ b
unfolding both
true-both b = refl

pub both_comm : (a b : Bool) → both a b ≡ both b a
unfolding both
both_comm true true = refl
both_comm true false = refl
both_comm false true = refl
both_comm false false = refl

pub either_cases {ℓ} : {P : Type ℓ} (a b : Bool) → either a b ≡ true → (a ≡ true → P) → (b ≡ true → P) → P
unfolding either
either_cases true b e f g = f refl
either_cases false b e f g = g e

pub either_left : {a : Bool} (b : Bool) → a ≡ true → either a b ≡ true
unfolding either
either_left b e = rw e

pub either_right : (a : Bool) {b : Bool} → b ≡ true → either a b ≡ true
unfolding either
either_right true e = refl
either_right false e = e

pub either-false : (a b : Bool) → either a b ≡ false → (a ≡ false) × (b ≡ false)
unfolding either
either-false true b e = false-true (sym e)
either-false false b e = (refl, e)

pub bool_ext : (a b : Bool) → (a ≡ true → b ≡ true) → (b ≡ true → a ≡ true) → a ≡ b
bool_ext true b f g = sym (f refl)
bool_ext false true f g = g refl
bool_ext false false f g = refl

-- ---- one-if

pub one_if-le : (b : Bool) → one_if b ≤ 1
one_if-le true = omega arith
one_if-le false = omega arith

pub one_if-false : (b : Bool) → one_if b ≡ 0 → b ≡ false
one_if-false true e = absurd (omega arith)
one_if-false false e = refl

pub one_if_injective : (a b : Bool) → one_if a ≡ one_if b → a ≡ b
one_if_injective true true e = refl
one_if_injective true false e = absurd (omega arith)
one_if_injective false true e = absurd (omega arith)
one_if_injective false false e = refl

pub one_if-both-le : (a b : Bool) → one_if (both a b) ≤ one_if a
unfolding both
one_if-both-le true b = one_if-le b
one_if-both-le false b = omega arith

-- one of two parts, and a further test
pub one_if_parts : (a b c f : Bool) → one_if a ≡ one_if b + one_if c → one_if (both a f) ≡ one_if (both b f) + one_if (both c f)
one_if_parts a b c true h = omega (arith, h, ap one_if (both-true a), ap one_if (both-true b), ap one_if (both-true c))
one_if_parts a b c false h = omega (arith, ap one_if (both_right_false a refl), ap one_if (both_right_false b refl), ap one_if (both_right_false c refl))

pub one_if-either : (a b : Bool) → either a b ≡ true → 1 ≤ one_if a + one_if b
unfolding either
one_if-either true b e = omega arith
one_if-either false b e = omega (arith, ap one_if e)

module _ {A : Type 0} where
  -- ---- Each

  pub Each_map : (P Q : A → Type 0) (l : List A) → ((x : A) → P x → Q x) → Each P l → Each Q l
  Each_map P Q [] h e = tt
  Each_map P Q (x ∷ xs) h e = (h x e.0, Each_map P Q xs h e.1)

  -- by two facts of each
  pub Each_zip : (P Q R : A → Type 0) (l : List A) → ((x : A) → P x → Q x → R x) → Each P l → Each Q l → Each R l
  Each_zip P Q R [] h e f = tt
  Each_zip P Q R (x ∷ xs) h e f = (h x e.0 f.0, Each_zip P Q R xs h e.1 f.1)

  pub Each_every : (P : A → Type 0) (l : List A) → ((x : A) → P x) → Each P l
  Each_every P [] h = tt
  Each_every P (x ∷ xs) h = (h x, Each_every P xs h)

  -- a fact for every i of each element
  pub Each_for : {I : Type 0} (P : I → A → Type 0) (l : List A) → ((i : I) → Each (P i) l) → Each (λ x. (i : I) → P i x) l
  Each_for P [] h = tt
  Each_for P (x ∷ xs) h = (λ i. (h i).0, Each_for P xs (λ i. (h i).1))

  pub Each-append : (P : A → Type 0) (a b : List A) → Each P a → Each P b → Each P (a ++ b)
  Each-append P [] b e f = f
  Each-append P (x ∷ xs) b e f = (e.0, Each-append P xs b e.1 f)

  pub Each_split : (P : A → Type 0) (a b : List A) → Each P (a ++ b) → Each P a × Each P b
  Each_split P [] b e = (tt, e)
  Each_split P (x ∷ xs) b e = let t = Each_split P xs b e.1 in ((e.0, t.0), t.1)

  -- an element in the middle
  pub Each_middle : (P : A → Type 0) (xs : List A) (d : A) (ys : List A) → Each P (xs ++ (d ∷ ys)) → P d × Each P (xs ++ ys)
  Each_middle P xs d ys e = let t = Each_split P xs (d ∷ ys) e in (t.1.0, Each-append P xs ys t.0 t.1.1)

  pub Each-drop : (P : A → Type 0) (k : ℕ) (l : List A) → Each P l → Each P (drop k l)
  Each-drop P zero l e = e
  Each-drop P (suc k) [] e = tt
  Each-drop P (suc k) (x ∷ xs) e = Each-drop P k xs e.1

  Each-keep : (P : A → Type 0) (b : Bool) (x : A) (l : List A) → (b ≡ true → P x) → Each P l → Each P (keep b x l)
  Each-keep P true x l h e = (h refl, e)
  Each-keep P false x l h e = e

  -- what passes a filter has the fact and passes
  pub Each-filter : (P Q : A → Type 0) (p : A → Bool) (l : List A) → ((x : A) → P x → p x ≡ true → Q x) → Each P l → Each Q (filter p l)
  unfolding filter
  Each-filter P Q p [] h e = tt
  Each-filter P Q p (x ∷ xs) h e = Each-keep Q (p x) x (filter p xs) (h x e.0) (Each-filter P Q p xs h e.1)

  pub concat-Each : (P : A → Type 0) (ls : List (List A)) → Each P (concat ls) → Each (Each P) ls
  unfolding concat
  concat-Each P [] e = tt
  concat-Each P (l ∷ ls) e = let t = Each_split P l (concat ls) e in (t.0, concat-Each P ls t.1)

  pub Each-get_or : (P : A → Type 0) (l : List A) (i : ℕ) (d : A) → Each P l → i < length l → P (get_or l i d)
  Each-get_or P [] i d e h = absurd (not-suc-le-zero h)
  Each-get_or P (x ∷ xs) zero d e h = e.0
  Each-get_or P (x ∷ xs) (suc i) d e h = Each-get_or P xs i d e.1 (le_of_suc-le-suc h)

  -- past the end too
  pub Each-get_or_or : (P : A → Type 0) (l : List A) (i : ℕ) (d : A) → P d → Each P l → P (get_or l i d)
  Each-get_or_or P [] i d h e = h
  Each-get_or_or P (x ∷ xs) zero d h e = e.0
  Each-get_or_or P (x ∷ xs) (suc i) d h e = Each-get_or_or P xs i d h e.1

  pub get_or-Each : (P : A → Type 0) (l : List A) (d : A) → ((i : ℕ) → i < length l → P (get_or l i d)) → Each P l
  get_or-Each P [] d h = tt
  get_or-Each P (x ∷ xs) d h = (h 0 (omega arith), get_or-Each P xs d (λ i b. h (suc i) (omega arith)))

  pub Each-tab : (P : A → Type 0) (n : ℕ) (f : ℕ → A) (i : ℕ) → Each P (tab n f) → i < n → P (f i)
  Each-tab P n f i e h = rw (get_or-tab n f i (f i) h) at (Each-get_or P (tab n f) i (f i) e (omega (arith, length-tab n f)))

  -- ---- all

  pub all-cons : (p : A → Bool) (x : A) (xs : List A) → all p (x ∷ xs) ≡ both (p x) (all p xs)
  unfolding all
  all-cons p x xs = refl

  pub all-append : (p : A → Bool) (a b : List A) → all p (a ++ b) ≡ both (all p a) (all p b)
  unfolding all both
  all-append p [] b = refl
  all-append p (x ∷ xs) b = by_cases (p x) (λ t. rw t (all-append p xs b)) (λ t. rw t)

  pub all-Each : (p : A → Bool) (P : A → Type 0) (l : List A) → ((x : A) → p x ≡ true → P x) → all p l ≡ true → Each P l
  unfolding all
  all-Each p P [] h e = tt
  all-Each p P (x ∷ xs) h e = (h x (both_left (p x) (all p xs) e), all-Each p P xs h (both_right (p x) (all p xs) e))

  pub Each-all : (p : A → Bool) (P : A → Type 0) (l : List A) → ((x : A) → P x → p x ≡ true) → Each P l → all p l ≡ true
  unfolding all
  Each-all p P [] h e = refl
  Each-all p P (x ∷ xs) h e = both_intro (h x e.0) (Each-all p P xs h e.1)

  -- ---- first_at

  fails_cons : (p : A → Bool) (x : A) (xs : List A) (d : A) (n : ℕ) → p x ≡ false → ((k : ℕ) → k < n → p (get_or xs k d) ≡ false) → (k : ℕ) → k < suc n → p (get_or (x ∷ xs) k d) ≡ false
  fails_cons p x xs d n t h zero b = t
  fails_cons p x xs d n t h (suc k) b = h k (le_of_suc-le-suc b)

  -- what an answer of `first_at` says of the list
  abbrev Says : (A → Bool) → List A → A → Option ℕ → Type 0
  Says p l d None = (k : ℕ) → k < length l → p (get_or l k d) ≡ false
  Says p l d (Some i) = (i < length l) × (p (get_or l i d) ≡ true) × ((k : ℕ) → k < i → p (get_or l k d) ≡ false)

  first_at-Says : (p : A → Bool) (l : List A) (d : A) → Says p l d (first_at p l)
  unfolding first_at
  first_at-Says p [] d = λ k h. absurd (not-suc-le-zero h)
  first_at-Says p (x ∷ xs) d =
      by_cases (p x)
      (λ t. rw t (omega arith, t, λ k h. absurd (not-suc-le-zero h)))
      (λ t. option_cases (first_at p xs)
      (λ n. rw (t, n) (fails_cons p x xs d (length xs) t (rw n at (first_at-Says p xs d))))
      (λ i n. let s : Says p xs d (Some i) = rw n at (first_at-Says p xs d) in
      rw (t, n) (omega arith, s.1, fails_cons p x xs d i t s.2)))

  pub first_at-some : (p : A → Bool) (l : List A) (i : ℕ) (d : A) → first_at p l ≡ Some i → (i < length l) × (p (get_or l i d) ≡ true) × ((k : ℕ) → k < i → p (get_or l k d) ≡ false)
  first_at-some p l i d e = rw e at (first_at-Says p l d)

  pub first_at-none : (p : A → Bool) (l : List A) (k : ℕ) (d : A) → first_at p l ≡ None → k < length l → p (get_or l k d) ≡ false
  first_at-none p l k d e = rw e at (first_at-Says p l d) k

  pub first_at_found : (p : A → Bool) (l : List A) (i : ℕ) (d : A) → i < length l → p (get_or l i d) ≡ true → ((k : ℕ) → k < i → p (get_or l k d) ≡ false) → first_at p l ≡ Some i
  unfolding first_at
  first_at_found p [] i d b e h = absurd (not-suc-le-zero b)
  first_at_found p (x ∷ xs) zero d b e h = rw e
  first_at_found p (x ∷ xs) (suc i) d b e h = rw (h 0 (omega arith), first_at_found p xs i d (le_of_suc-le-suc b) e (λ k c. h (suc k) (omega arith)))

  pub first_at_absent : (p : A → Bool) (l : List A) (d : A) → ((k : ℕ) → k < length l → p (get_or l k d) ≡ false) → first_at p l ≡ None
  unfolding first_at
  first_at_absent p [] d h = refl
  first_at_absent p (x ∷ xs) d h = rw (h 0 (omega arith), first_at_absent p xs d (λ k c. h (suc k) (omega arith)))

  -- ---- best

  pub cond_holds : (P : A → Type 0) (b : Bool) (x y : A) → P x → P y → P (cond b x y)
  cond_holds P true x y e f = e
  cond_holds P false x y e f = f

  pub best_holds : (P : A → Type 0) (better : A → A → Bool) (x : A) (l : List A) → P x → Each P l → P (best better x l)
  unfolding best
  best_holds P better x [] e es = e
  best_holds P better x (y ∷ ys) e es = best_holds P better (cond (better y x) y x) ys (cond_holds P (better y x) y x es.0 e) es.1

  -- no element is better than the best, where `better` is a strict weak order: asymmetric, and "not better" is transitive
  pub best_none_better : (better : A → A → Bool) → ((x y : A) → better x y ≡ true → better y x ≡ false) → ((x y z : A) → better y x ≡ false → better z y ≡ false → better z x ≡ false) →
      (x : A) (l : List A) → Each (λ z. better z (best better x l) ≡ false) (x ∷ l)
  unfolding best
  best_none_better better asym trans x [] = (by_cases (better x x) (asym x x) (λ t. t), tt)
  best_none_better better asym trans x (y ∷ ys) =
      let P : Bool → Type 0 = λ b. Each (λ z. better z (best better (cond b y x) ys) ≡ false) (x ∷ y ∷ ys) in
      by_cases (better y x)
      (λ t. let e = best_none_better better asym trans y ys in subst P (sym t) (trans (best better y ys) y x e.0 (asym y x t), e))
      (λ t. let e = best_none_better better asym trans x ys in subst P (sym t) (e.0, (trans (best better x ys) x y e.0 t, e.1)))

-- ---- Each of a map, and of the lists that it makes

module _ {A B : Type 0} where
  pub Each_over_map : (P : B → Type 0) (f : A → B) (l : List A) → Each (λ x. P (f x)) l → Each P (map f l)
  Each_over_map P f [] e = tt
  Each_over_map P f (x ∷ xs) e = (e.0, Each_over_map P f xs e.1)

  pub Each-concat-map : (P : B → Type 0) (f : A → List B) (l : List A) → Each (λ x. Each P (f x)) l → Each P (concat (map f l))
  unfolding concat
  Each-concat-map P f [] e = tt
  Each-concat-map P f (x ∷ xs) e = Each-append P (f x) (concat (map f xs)) e.0 (Each-concat-map P f xs e.1)

  pub concat-map-Each : (P : B → Type 0) (f : A → List B) (l : List A) → Each P (concat (map f l)) → Each (λ x. Each P (f x)) l
  unfolding concat
  concat-map-Each P f [] e = tt
  concat-map-Each P f (x ∷ xs) e = let t = Each_split P (f x) (concat (map f xs)) e in (t.0, concat-map-Each P f xs t.1)
