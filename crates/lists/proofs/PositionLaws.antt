-- The library's `position` is the first place at which a test passes.
use mathlib.Core.List.{List, [], ◌∷◌}
use Rattle.std.proofs.Common.{◌≡◌, Bool, suc, ◌+◌, length, Some, refl, ap, position, one-add, arith}
use Rattle.std.specs.List.{position_or_len}
use lib.Dec.{ltb}
use borrow.Author.Tests.{lt-ltb, le-ltb, ltb-true, ltb-false}
use Rattle.lists.specs.Tests.{first_at}
use Rattle.lists.proofs.Cases.{by_cases}

pub position-first : {A : Type 0} (p : A → Bool) (l : List A) → position p l ≡ first_at p l
unfolding first_at
position-first p [] = refl
position-first p (x ∷ xs) =
    let n = position_or_len p xs in
    by_cases (p x)
    (λ t. rw (t, lt-ltb 0 (suc (length xs)) (omega arith)) refl)
    (λ t. by_cases (ltb n (length xs))
    (λ u. rw (t, ← position-first p xs, u, lt-ltb (1 + n) (suc (length xs)) (omega (arith, ltb-true n (length xs) u))) (ap Some (one-add n)))
    (λ u. rw (t, ← position-first p xs, u, le-ltb (1 + n) (suc (length xs)) (omega (arith, ltb-false n (length xs) u))) refl))
