-- Laws of linked chains, and of settling a chain to the pages it needs.
use mathlib.Core.Path.{◌≡◌, refl, sym, ap, ◌∙◌}
use mathlib.Core.List.{List, [], ◌∷◌, ◌++◌}
use mathlib.Core.Logic.{◌≢◌}
use Prim.Native.Nat.{ℕ, zero, suc, ◌+◌, ◌≤◌, ◌<◌}
use native.Mathlib.Omega.{arith}
use native.Mathlib.Nat.{le_of_suc-le-suc, not-suc-le-zero}
use lib.Dec.{eqb}
use lib.ListN.{length, drop, length-append, length-take, length-drop}
use lib.Seq.{drop-append-le}
use borrow.Author.Tests.{eqb-true, ne_eqb, eq-eqb}
use Rattle.lists.specs.Tests.{Each}
use Rattle.lists.specs.Sums.{sum_by, count}
use Rattle.lists.specs.Chains.{chain_head, walk, Linked, settled_chain, settled_free}
use Rattle.lists.proofs.Cases.{by_cases}
use Rattle.lists.proofs.SumsLaws.{sum-append, sum-take-drop, count_head}

module _ (end : ℕ) (next : ℕ → ℕ) where
  -- one step of a walk, at any fuel
  pub walk-end : (fuel : ℕ) → walk end next fuel end ≡ []
  unfolding walk
  walk-end zero = refl
  walk-end (suc fuel) = rw (eq-eqb end end refl)

  pub walk_step : (fuel p : ℕ) → p ≢ end → walk end next (suc fuel) p ≡ p ∷ walk end next fuel (next p)
  unfolding walk
  walk_step fuel p h = rw (ne_eqb p end h)

  -- the walk from the first page of a chain finds the chain
  pub walk-Linked : (fuel : ℕ) (l : List ℕ) → Linked end next l → length l ≤ fuel → walk end next fuel (chain_head end l) ≡ l
  walk-Linked fuel [] k h = walk-end fuel
  walk-Linked zero (p ∷ l) k h = absurd (not-suc-le-zero h)
  walk-Linked (suc fuel) (p ∷ l) k h = walk_step fuel p (λ e. omega (arith, k.0)) ∙ rw k.1 (ap (λ r. p ∷ r) (walk-Linked fuel l k.2 (le_of_suc-le-suc h)))

  -- a walk that came to `end` before its fuel ran out has found a chain
  pub Linked-walk : (fuel p : ℕ) → length (walk end next fuel p) < fuel → Each (λ q. q < end) (walk end next fuel p)
      → (chain_head end (walk end next fuel p) ≡ p) × Linked end next (walk end next fuel p)
  unfolding walk
  Linked-walk zero p h b = absurd (not-suc-le-zero h)
  Linked-walk (suc fuel) p h b =
      by_cases (eqb p end)
      (λ t. rw t (sym (eqb-true p end t), tt))
      (λ t. let b' = rw t at b in let r = Linked-walk fuel (next p) (le_of_suc-le-suc (rw t at h)) b'.1 in rw t (refl, (b'.0, sym r.0, r.1)))

  -- and more fuel changes nothing
  pub walk_more : (fuel more p : ℕ) → length (walk end next fuel p) < fuel → fuel ≤ more → walk end next more p ≡ walk end next fuel p
  unfolding walk
  walk_more zero more p h g = absurd (not-suc-le-zero h)
  walk_more (suc fuel) zero p h g = absurd (not-suc-le-zero g)
  walk_more (suc fuel) (suc more) p h g = by_cases (eqb p end) (λ t. rw t) (λ t. rw t (ap (λ r. p ∷ r) (walk_more fuel more (next p) (le_of_suc-le-suc (rw t at h)) (le_of_suc-le-suc g))))

-- other pages' links do not matter to a chain
pub Linked_frame : (end : ℕ) (next next' : ℕ → ℕ) (l : List ℕ) → ((p : ℕ) → 1 ≤ count p l → next' p ≡ next p) → Linked end next l → Linked end next' l
unfolding sum_by
Linked_frame end next next' [] f k = tt
Linked_frame end next next' (p ∷ l) f k = (k.0, f p (count_head p l) ∙ k.1, Linked_frame end next next' l (λ q h. f q (omega arith)) k.2)

-- ---- settling

module _ (need : ℕ) (chain free : List ℕ) where
  pub length-settled_chain : need ≤ length chain + length free → length (settled_chain need chain free) ≡ need
  unfolding settled_chain
  length-settled_chain h = simp (length-take, length-append) (omega arith)

  pub length-settled_free : need ≤ length chain + length free → need + length (settled_free need chain free) ≡ length chain + length free
  unfolding settled_free
  length-settled_free h = simp (length-drop, length-append) (omega arith)

  pub sum_settled : (f : ℕ → ℕ) → sum_by f (settled_chain need chain free) + sum_by f (settled_free need chain free) ≡ sum_by f chain + sum_by f free
  unfolding settled_chain settled_free
  sum_settled f = sum-take-drop f need (chain ++ free) ∙ sum-append f chain free

  pub settled_free_give : need ≤ length chain → settled_free need chain free ≡ drop need chain ++ free
  unfolding settled_free
  settled_free_give h = drop-append-le need chain free h
