-- Whether all numbers of a table are settled.
use mathlib.Core.Path.{◌≡◌, sym, ap, ◌∙◌}
use mathlib.Core.Bool.{Bool, true, ◌&&◌}
use mathlib.Core.List.{List}
use Prim.Native.Nat.{ℕ, ◌+◌, ◌≤◌}
use native.Mathlib.Numerals.{add-one}
use native.Mathlib.Omega.{arith}
use lib.Dec.{eqb}
use lib.ListN.{get_or}
use Rattle.lists.proofs.TestsLaws.{and_both}
use Rattle.memo_index.specs.Index.{table_size}
use Rattle.sound_clauses.specs.Loops.{all_to}
use Rattle.sound_clauses.proofs.LoopsLaws.{all_to_zero, all_to-suc}
use Rattle.sound_balance.specs.Tables.{all_settled}

abbrev pub settled_at : List ℕ → ℕ → Bool
settled_at t q = eqb (get_or t q 0) 0

pub settled_start : (t : List ℕ) → true ≡ all_to 0 (settled_at t)
settled_start t = sym (all_to_zero (settled_at t))

pub settled_turn : (t : List ℕ) (i : ℕ) {so : Bool} → so ≡ all_to i (settled_at t) → (so && settled_at t i) ≡ all_to (i + 1) (settled_at t)
settled_turn t i {so} e =
    ap (λ (b : Bool). b && settled_at t i) e
    ∙ and_both (all_to i (settled_at t)) (settled_at t i)
    ∙ sym (all_to-suc i (settled_at t))
    ∙ ap (λ (k : ℕ). all_to k (settled_at t)) (sym (add-one i))

pub settled_end : (t : List ℕ) {i : ℕ} {so : Bool} → so ≡ all_to i (settled_at t) → i ≤ table_size → table_size ≤ i → so ≡ all_settled t
unfolding all_settled
settled_end t {i} e h k = let z : i ≡ table_size = omega arith in e ∙ ap (λ (n : ℕ). all_to n (settled_at t)) z
