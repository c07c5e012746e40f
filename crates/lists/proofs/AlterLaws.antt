-- A change of what stands at a key, as a change at the place that a search found.
use mathlib.Core.List.{[], ◌∷◌}
use mathlib.Core.Path.{◌≡◌, ap}
use Rattle.std.specs.Prelude.{Option, None, Some}
use Prim.Native.Nat.{ℕ}
use native.Mathlib.Omega.{arith}
use lib.Dec.{eqb, ltb}
use lib.ListN.{get_or, set}
use borrow.Author.Tests.{ltb-true}
use Rattle.lists.specs.Parts.{insert_at, remove_at}
use Rattle.lists.specs.Rows.{Row, Rows, Rising, find, put_row, alter, IsAt, IsGapFor}
use Rattle.lists.proofs.Cases.{by_cases}
use Rattle.lists.proofs.RowsLaws.{find_below}
use Rattle.lists.proofs.SearchLaws.{find-rank, alter-insert_at, alter-set, alter-remove_at}

module _ {Val : Type 0} where
  -- a change reads only what stands at the key
  pub alter_found : (f g : Option Val → Option Val) (b r : ℕ) (l : Rows Val) → Rising b l → f (find l r) ≡ g (find l r) → alter f r l ≡ alter g r l
  unfolding alter find
  alter_found f g b r [] a = λ e. ap (λ (o : Option Val). put_row r o []) e
  alter_found f g b r (x ∷ xs) a =
      by_cases (eqb r x.key)
      (λ t. rw t (λ e. ap (λ (o : Option Val). put_row r o xs) e))
      (λ t. by_cases (ltb r x.key)
      (λ u. let h = ltb-true r x.key u in rw (t, u, find_below r x.key xs (omega arith) a.1) (λ e. ap (λ (o : Option Val). put_row r o (x ∷ xs)) e))
      (λ u. rw (t, u) (λ e. ap (λ (y : Rows Val). x ∷ y) (alter_found f g x.key r xs a.1 e))))

  -- nothing to drop
  pub alter_absent : (f : Option Val → Option Val) (b r : ℕ) (l : Rows Val) → Rising b l → find l r ≡ None → f None ≡ None → alter f r l ≡ l
  unfolding alter find
  alter_absent f b r [] a = λ n e. rw e
  alter_absent f b r (x ∷ xs) a =
      by_cases (eqb r x.key)
      (λ t. rw t (λ n e. cc))
      (λ t. by_cases (ltb r x.key)
      (λ u. rw (t, u) (λ n e. rw e))
      (λ u. rw (t, u) (λ n e. ap (λ (y : Rows Val). x ∷ y) (alter_absent f x.key r xs a.1 n e))))

-- what is found of a key is the row at its place
pub find_at : {Val : Type 0} (l : Rows Val) → Rising 0 l → (r : ℕ) {i : ℕ} → IsAt l r i → (d : Row Val) → find l r ≡ Some (get_or l i d).val
find_at l rising r at d = rw (← at.ranks) at (find-rank 0 r l d rising (rw (← at.ranks) at.inside) (rw (← at.ranks) (at.here d)))

module _ {Val : Type 0} (f : Option Val → Option Val) (l : Rows Val) (rising : Rising 0 l) (r : ℕ) {i : ℕ} where
  pub alter_at : (d : Row Val) (v : Val) → IsAt l r i → f (Some (get_or l i d).val) ≡ Some v → alter f r l ≡ set l i (record { key = r; val = v })
  alter_at d v at h = rw at.ranks (alter-set f r 0 l (get_or l i d).val v rising (find_at l rising r at d) h)

  pub alter_at_none : (d : Row Val) → IsAt l r i → f (Some (get_or l i d).val) ≡ None → alter f r l ≡ remove_at l i
  alter_at_none d at h = rw at.ranks (alter-remove_at f r 0 l (get_or l i d).val rising (find_at l rising r at d) h)

  pub alter_gap : (v : Val) → IsGapFor l r i → f None ≡ Some v → alter f r l ≡ insert_at l i (record { key = r; val = v })
  alter_gap v gap h = rw gap.ranks (alter-insert_at f r 0 l v rising gap.absent h)

  pub alter_gap_none : IsGapFor l r i → f None ≡ None → alter f r l ≡ l
  alter_gap_none gap h = alter_absent f 0 r l rising gap.absent h
