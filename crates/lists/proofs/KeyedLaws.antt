-- A slice whose elements are rows by rising key: what a binary search by the key finds in it, and what an element put at that place makes of the rows.
use mathlib.Core.List.{List, map}
use mathlib.Core.Path.{◌≡◌, refl, sym, ap, ◌∙◌}
use Prim.Native.Nat.{ℕ, ◌+◌, ◌≤◌, ◌<◌}
use native.Mathlib.Omega.{arith}
use lib.Dec.{eqb}
use lib.ListN.{length, get_or, set, take, length-map, get_or-map}
use lib.Seq.{length-take-le, take-set-lt}
use borrow.Author.Tests.{eqb-true, eqb-false}
use Rattle.std.specs.Prelude.{Some, Result, Ok, Err, IfOk, IfErr}
use Rattle.std.specs.List.{copy_within}
use Rattle.std.specs.List.Sorted.{IsSearchInRange, IsBinarySearchResult, IsNonDecreasingBy}
use Rattle.std.specs.Ordering.{nat_cmp, ordering_index}
use Rattle.std.proofs.lemmas.Cmp.{ranked}
use Rattle.std.proofs.lemmas.List.{get_or_default}
use Rattle.std.proofs.lemmas.List.Sorted.{IsNonDecreasingBy-from_default}
use Rattle.std.proofs.lemmas.Bool.Decides.{nat_tests}
use Rattle.lists.specs.Parts.{insert_at}
use Rattle.lists.specs.Rows.{Row, Rows, Rising, rank, insert, IsAt, IsGapFor}
use Rattle.lists.proofs.Cases.{by_cases}
use Rattle.lists.proofs.MapLaws.{map-set, map-insert_at}
use Rattle.lists.proofs.ShiftLaws.{open_end, open_moved}
use Rattle.lists.proofs.SearchLaws.{Rising_order, rank_Between_at, find-rank, find-rank-none, alter-insert_at, alter-set}

module _ {T Val : Type 0} (row : T → Row Val) (d : T) (xs : List T) (rising : Rising 0 (map row xs)) (r : ℕ) where
  key_at : (i : ℕ) → (row (get_or xs i d)).key ≡ (get_or (map row xs) i (row d)).key
  key_at i = ap (λ (x : Row Val). x.key) (sym (get_or-map row xs i d))

  keys_order : (i k : ℕ) → i < k → k < length xs → (row (get_or xs i d)).key < (row (get_or xs k d)).key
  keys_order i k h f = let o = Rising_order 0 (map row xs) i k (row d) rising h (rw (length-map xs row) f) in omega (arith, key_at i, key_at k)

  keys_rise : (i k : ℕ) → i ≤ k → k < length xs → (row (get_or xs i d)).key ≤ (row (get_or xs k d)).key
  keys_rise i k h f =
      by_cases (eqb i k)
      (λ e. omega (arith, ap (λ (j : ℕ). (row (get_or xs j d)).key) (eqb-true i k e)))
      (λ e. let o = keys_order i k (omega (arith, eqb-false i k e)) f in omega arith)

  -- the comparisons with the key rise along the slice, as a binary search asks
  comparisons_rise : IsNonDecreasingBy (λ x. ordering_index (nat_cmp (row x).key r)) xs
  comparisons_rise = IsNonDecreasingBy-from_default (λ x. ordering_index (nat_cmp (row x).key r)) xs d (λ i k h f. let o = keys_rise i k h f in grind (arith, nat_tests))

  -- a place with smaller keys before it, and no smaller one from it on
  at_rank : (i : ℕ) → i ≤ length xs → ((k : ℕ) → k < i → (row (get_or xs k d)).key < r) → ((k : ℕ) → i ≤ k → k < length xs → r ≤ (row (get_or xs k d)).key) → i ≡ rank r (map row xs)
  at_rank i h below above =
      sym (rank_Between_at (map row xs) r i (row d) (rw (length-map xs row) h)
      (λ k b. let o = below k b in omega (arith, key_at k))
      (λ k b f. let o = above k b (rw (length-map xs row) at f) in omega (arith, key_at k)))

  -- a binary search by the key ends at the row that has it, or at the gap for it
  pub searched : (answer : Result ℕ ℕ) → IsSearchInRange answer (length xs) → IsBinarySearchResult (λ x. nat_cmp (row x).key r) xs answer
      → record { found : IfOk answer (IsAt (map row xs) r); absent : IfErr answer (IsGapFor (map row xs) r) }
  searched (Ok i) in_range equal =
      let same : (row (get_or xs i d)).key ≡ r = ranked _ r _ (sym (equal d)) in
      record {
        found = record {
          inside = rw (length-map xs row) in_range;
          ranks = at_rank i (omega arith) (λ k b. let o = keys_order k i b in_range in omega arith) (λ k b f. let o = keys_rise i k b f in omega arith);
          here = λ e. ap (λ (x : Row Val). x.key) (get_or_default (map row xs) i e (row d) (rw (length-map xs row) in_range)) ∙ sym (key_at i) ∙ same;
        };
        absent = tt;
      }
  searched (Err i) in_range parted =
      let sides = parted comparisons_rise in
      let below : (k : ℕ) → k < i → (row (get_or xs k d)).key < r = λ k b. ranked _ r _ (sym (sides.0 k d (omega arith) b)) in
      let above : (k : ℕ) → i ≤ k → k < length xs → r < (row (get_or xs k d)).key = λ k b f. ranked _ r _ (sym (sides.1 k d b f)) in
      let ranks = at_rank i in_range below (λ k b f. let o = above k b f in omega arith) in
      record {
        found = tt;
        absent = record {
          inside = rw (length-map xs row) in_range;
          ranks = ranks;
          absent = find-rank-none 0 r (map row xs) (row d) rising (rw (← ranks) (λ f same. let o = above i (omega arith) (rw (length-map xs row) at f) in omega (arith, key_at i)));
        };
      }

-- ---- a row put at the place that was found

module _ {Val : Type 0} (l : Rows Val) (rising : Rising 0 l) (r : ℕ) (v : Val) {i : ℕ} where
  pub insert_over : IsAt l r i → (d : Row Val) → set l i (record { key = r; val = v }) ≡ insert r v l
  insert_over at d =
      let found = find-rank 0 r l d rising (rw (← at.ranks) at.inside) (rw (← at.ranks) (at.here d)) in
      rw at.ranks (sym (alter-set (λ _. Some v) r 0 l _ v rising found refl))

  pub insert_between : IsGapFor l r i → insert_at l i (record { key = r; val = v }) ≡ insert r v l
  insert_between gap = rw gap.ranks (sym (alter-insert_at (λ _. Some v) r 0 l v rising gap.absent refl))

-- ---- the first n elements of an array, with an element put at the place that was found

module _ {T Val : Type 0} (row : T → Row Val) (d : T) (n : ℕ) (xs : List T) (e : T) {i : ℕ} (rising : Rising 0 (map row (take n xs))) where
  pub keyed_over : n ≤ length xs → IsAt (map row (take n xs)) (row e).key i → map row (take n (set xs i e)) ≡ insert (row e).key (row e).val (map row (take n xs))
  keyed_over fits at =
      let here : i < n = rw (length-map (take n xs) row, length-take-le n xs fits) at at.inside in
      ap (map row) (take-set-lt n xs i e here) ∙ map-set row (take n xs) i e ∙ insert_over (map row (take n xs)) rising (row e).key (row e).val at (row d)

  pub keyed_between : n < length xs → IsGapFor (map row (take n xs)) (row e).key i
      → map row (take (n + 1) (set (copy_within xs i n (i + 1)) i e)) ≡ insert (row e).key (row e).val (map row (take n xs))
  keyed_between room gap =
      let here : i ≤ n = rw (length-map (take n xs) row, length-take-le n xs (omega arith)) at gap.inside in
      ap (map row) (open_end i e (open_moved here room)) ∙ map-insert_at row (take n xs) i e ∙ insert_between (map row (take n xs)) rising (row e).key (row e).val gap
