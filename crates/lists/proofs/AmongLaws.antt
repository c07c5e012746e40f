-- Where an element stands in a list.
use mathlib.Core.Path.{◌≡◌, refl, ap, ◌∙◌, subst}
use mathlib.Core.Bool.{Bool, true}
use mathlib.Core.List.{List, [], ◌∷◌, ◌++◌}
use Rattle.std.specs.Prelude.{Some}
use Prim.Native.Nat.{ℕ, ◌+◌}
use Rattle.lists.specs.Among.{Among}
use Rattle.lists.specs.Sums.{sum_by}
use Rattle.lists.specs.Tests.{Each, first_that}
use Rattle.lists.proofs.Cases.{by_cases, none-some}
use Rattle.lists.proofs.SumsLaws.{sum_middle}
use Rattle.lists.proofs.TestsLaws.{Each_middle}

module _ {A : Type 0} where
  abbrev pub Among_head : (x : A) (l : List A) → Among (x ∷ l) x
  Among_head x l = record { before = []; after = l; split = refl }

  abbrev pub Among_tail : {l : List A} {x : A} (y : A) → Among l x → Among (y ∷ l) x
  Among_tail y a = record { before = y ∷ a.before; after = a.after; split = ap (λ (l : List A). y ∷ l) a.split }

  pub Each-Among : (P : A → Type 0) {l : List A} {x : A} → Each P l → Among l x → P x
  Each-Among P e a = (Each_middle P a.before _ a.after (subst (Each P) a.split e)).0

  pub sum-Among : (f : A → ℕ) {l : List A} {x : A} (a : Among l x) → sum_by f l ≡ sum_by f (a.before ++ a.after) + f x
  sum-Among f {x = x} a = ap (sum_by f) a.split ∙ sum_middle f a.before x a.after

  pub first_that-Among : (p : A → Bool) (l : List A) (x : A) → first_that p l ≡ Some x → (p x ≡ true) × Among l x
  unfolding first_that
  first_that-Among p [] x = none-some
  first_that-Among p (y ∷ l) x =
      by_cases (p y)
      (λ t. rw t (λ e. let z : y ≡ x = cc in rw (← z) (t, Among_head y l)))
      (λ t. rw t (λ e. let r = first_that-Among p l x e in (r.0, Among_tail y r.1)))
