-- The inequality, from the last place of the round to the first.
use mathlib.Core.Path.{◌≡◌, sym, ap, ◌∙◌}
use mathlib.Core.Bool.{Bool, true, false}
use mathlib.Core.List.{List}
use Prim.Native.Nat.{ℕ, suc, ◌+◌, ◌-◌, ◌*◌, ◌≤◌, ◌<◌}
use native.Mathlib.Omega.{arith}
use lib.Dec.{leb}
use lib.ListN.{length, get_or, take}
use lib.Seq.{get_or-take, length-take-le}
use borrow.Author.Tests.{le-leb, lt-leb}
use Rattle.lists.specs.Tests.{both}
use Rattle.lists.proofs.TestsLaws.{both-true, both_right_false}
use Rattle.rules.specs.Limits.{max_cells, full_memory, sweep_every}
use Rattle.sound_clauses.specs.Loops.{all_to}
use Rattle.sound_clauses.specs.Round.{from_place, bound_test}
use Rattle.sound_clauses.proofs.LoopsLaws.{all_to_zero, all_to-suc}
use Rattle.sound_clauses.proofs.RoundLaws.{from_end, from_step}

-- places from i on pass, and the stale entries there, with all waiting, are sum: what is left to test is the test
pub record Bounding (counts : List ℕ) (n w c sum i : ℕ) : Type 0 where
  pub total : sum ≡ from_place i (take n counts) + w
  pub same : all_to i (λ k. leb (from_place k (take n counts) + w) (sweep_every * (max_cells - 1 - k) + c + (full_memory - 1))) ≡ bound_test (take n counts) w c

pub Bounding_start : (counts : List ℕ) (n w c : ℕ) → length counts ≡ max_cells → n ≤ max_cells → Bounding counts n w c w n
unfolding bound_test
Bounding_start counts n w c l h =
    let e : length (take n counts) ≡ n = length-take-le n counts (omega arith) in
    record { total = omega (arith, from_end n (take n counts) (omega arith)); same = rw e }

module _ {counts : List ℕ} {n w c sum i : ℕ} (a : Bounding counts n w c sum i) where
  pub Bounding_end : i ≤ 0 → true ≡ bound_test (take n counts) w c
  Bounding_end h =
      let z : i ≡ 0 = omega arith in
      let p : ℕ → Bool = λ k. leb (from_place k (take n counts) + w) (sweep_every * (max_cells - 1 - k) + c + (full_memory - 1)) in
      sym (all_to_zero p) ∙ ap (λ (m : ℕ). all_to m p) (sym z) ∙ a.same

  module _ (size : length counts ≡ max_cells) (few : n ≤ max_cells) (inside : i ≤ n) (more : 0 < i) {v : ℕ} (read : v ≡ get_or counts (i - 1) 0) where
    abbrev test : ℕ → Bool
    test k = leb (from_place k (take n counts) + w) (sweep_every * (max_cells - 1 - k) + c + (full_memory - 1))

    step : sum + v ≡ from_place (i - 1) (take n counts) + w
    step =
        let e : length (take n counts) ≡ n = length-take-le n counts (omega arith) in
        let z : suc (i - 1) ≡ i = omega arith in
        omega (arith, a.total, from_step (i - 1) (take n counts) (omega arith), get_or-take n counts (i - 1) 0 (omega arith), ap (λ (m : ℕ). from_place m (take n counts)) z)

    split : both (all_to (i - 1) test) (test (i - 1)) ≡ bound_test (take n counts) w c
    split =
        let z : suc (i - 1) ≡ i = omega arith in
        sym (all_to-suc (i - 1) test) ∙ ap (λ (m : ℕ). all_to m test) z ∙ a.same

    module _ {m : ℕ} (most : m ≡ sweep_every * (max_cells - 1 - (i - 1)) + c + (full_memory - 1)) where
      pub Bounding_over : m < sum + v → false ≡ bound_test (take n counts) w c
      Bounding_over h = sym (both_right_false (all_to (i - 1) test) (lt-leb (from_place (i - 1) (take n counts) + w) (sweep_every * (max_cells - 1 - (i - 1)) + c + (full_memory - 1)) (omega (arith, step)))) ∙ split

      pub Bounding_turn : sum + v ≤ m → Bounding counts n w c (sum + v) (i - 1)
      Bounding_turn h =
          let t = le-leb (from_place (i - 1) (take n counts) + w) (sweep_every * (max_cells - 1 - (i - 1)) + c + (full_memory - 1)) (omega (arith, step)) in
          record { total = step; same = sym (both-true (all_to (i - 1) test)) ∙ ap (both (all_to (i - 1) test)) (sym t) ∙ split }
