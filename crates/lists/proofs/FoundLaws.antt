-- What the library's binary search answers over rows by rising key, whatever holds them: elements that have the rows' keys.
use mathlib.Core.List.{List, [], ◌∷◌, map}
use Rattle.std.proofs.Common.{◌≡◌, ℕ, ◌≤◌, ◌<◌, length, get_or, refl, sym, ap, ◌∙◌, Result, Ok, Err, IfOk, IfErr, HoldsAt, Less, Equal, Greater, nat_cmp, arith}
use Rattle.std.specs.List.Sorted.{IsSearchInRange, IsBinarySearchResult, IsNonDecreasingBy, IsPartitionPoint}
use Rattle.std.specs.Ordering.{ordering_index}
use Rattle.std.proofs.lemmas.Cmp.{ranked}
use Rattle.std.proofs.lemmas.Bool.Decides.{nat_tests}
use Rattle.std.proofs.lemmas.List.{get_or_default}
use lib.Dec.{eqb}
use lib.ListN.{length-map, get_or-map}
use borrow.Author.Tests.{eqb-true, eqb-false}
use Rattle.lists.specs.Rows.{Row, Rows, Rising, find, rank, IsAt, IsGapFor}
use Rattle.lists.proofs.Cases.{by_cases}
use Rattle.lists.proofs.SearchLaws.{Rising_order, rank-Between, find-rank-none, rank-le}

module _ {T Val : Type 0} (key : T → ℕ) (xs : List T) (rows : Rows Val) (same : map key xs ≡ map (λ (x : Row Val). x.key) rows) (rising : Rising 0 rows) (k : ℕ) where
  size : length xs ≡ length rows
  size = sym (length-map xs key) ∙ ap length same ∙ length-map rows (λ x. x.key)

  -- the rows' defaults: there are some only where there is a row
  module _ (d : T) (e : Row Val) where
    key_at : (i : ℕ) → i < length xs → key (get_or xs i d) ≡ (get_or rows i e).key
    key_at i h =
        sym (get_or-map key xs i d)
        ∙ get_or_default (map key xs) i (key d) e.key (omega (arith, length-map xs key))
        ∙ ap (λ (l : List ℕ). get_or l i e.key) same
        ∙ get_or-map (λ (x : Row Val). x.key) rows i e

    rise : (i j : ℕ) → i ≤ j → j < length xs → key (get_or xs i d) ≤ key (get_or xs j d)
    rise i j h b = by_cases (eqb i j)
        (λ t. omega (arith, ap (λ (q : ℕ). key (get_or xs q d)) (eqb-true i j t)))
        (λ t. omega (arith, size, key_at i (omega arith), key_at j b, Rising_order 0 rows i j e rising (omega (arith, eqb-false i j t)) (omega (arith, size))))

    -- as the search asks
    comparisons_rise : IsNonDecreasingBy (λ x. ordering_index (nat_cmp (key x) k)) xs
    comparisons_rise i j z h b =
        let o = rise i j h b in
        let p : key (get_or xs i z) ≡ key (get_or xs i d) = ap key (get_or_default xs i z d (omega arith)) in
        let q : key (get_or xs j z) ≡ key (get_or xs j d) = ap key (get_or_default xs j z d b) in
        let s : key (get_or xs i z) ≤ key (get_or xs j z) = omega arith in
        grind (arith, nat_tests)

    found_at : (at : ℕ) → at < length xs → HoldsAt (λ y. nat_cmp (key y) k ≡ Equal) xs at → IsAt rows k at
    found_at at h equal =
        let n = size in
        let inside : at < length rows = omega arith in
        let said : key (get_or xs at d) ≡ k = ranked _ k _ (sym (equal d)) in
        let here : (get_or rows at e).key ≡ k = sym (key_at at h) ∙ said in
        let place : rank k rows ≡ at = rank-Between {d = e} {lo = at} {hi = at} (record {
          rising = rising;
          ordered = omega arith;
          inside = omega arith;
          below = λ i b. omega (arith, here, Rising_order 0 rows i at e rising b inside);
          above = λ i b c. by_cases (eqb at i)
              (λ t. omega (arith, here, ap (λ (q : ℕ). (get_or rows q e).key) (eqb-true at i t)))
              (λ t. omega (arith, here, Rising_order 0 rows at i e rising (omega (arith, eqb-false at i t)) c));
        }) (omega arith) in
        record {
          inside = inside;
          ranks = sym place;
          here = λ z. ap (λ (x : Row Val). x.key) (get_or_default rows at z e inside) ∙ here;
        }

    gap_at : (at : ℕ) → at ≤ length xs → IsPartitionPoint (λ y. nat_cmp (key y) k ≡ Less) (λ y. nat_cmp (key y) k ≡ Greater) xs at → IsGapFor rows k at
    gap_at at h parted =
        let n = size in
        let low : (i : ℕ) → i < at → (get_or rows i e).key < k = λ i b.
        let said : key (get_or xs i d) < k = ranked _ k _ (sym (parted.0 i d (omega arith) b)) in omega (arith, key_at i (omega arith)) in
        let high : (i : ℕ) → at ≤ i → i < length rows → k < (get_or rows i e).key = λ i b c.
        let said : k < key (get_or xs i d) = ranked _ k _ (sym (parted.1 i d b (omega arith))) in omega (arith, key_at i (omega arith)) in
        let place : rank k rows ≡ at = rank-Between {d = e} {lo = at} {hi = at} (record {
          rising = rising;
          ordered = omega arith;
          inside = omega arith;
          below = low;
          above = λ i b c. omega (arith, high i b c);
        }) (omega arith) in
        record {
          inside = omega arith;
          ranks = sym place;
          absent = find-rank-none 0 k rows e rising (rw place (λ b q. omega (arith, high at (omega arith) b)));
        }

-- at no row there is only the gap
no_rows : (Val : Type 0) {T : Type 0} (key : T → ℕ) (xs : List T) → length xs ≡ 0 → (k : ℕ) (r : Result ℕ ℕ) → IsSearchInRange r (length xs)
    → IfOk r (IsAt {Val = Val} [] k) × IfErr r (IsGapFor {Val = Val} [] k)
unfolding find
no_rows Val key xs e k (Ok at) h = absurd (omega arith)
no_rows Val key xs e k (Err at) h = (tt, record { inside = omega arith; ranks = omega (arith, rank-le {Val = Val} k []); absent = refl })

pub searched_rows : {T Val : Type 0} (key : T → ℕ) (xs : List T) (rows : Rows Val) → map key xs ≡ map (λ (x : Row Val). x.key) rows → Rising 0 rows → (k : ℕ)
    → (r : Result ℕ ℕ) → IsSearchInRange r (length xs) → IsBinarySearchResult (λ y. nat_cmp (key y) k) xs r
    → IfOk r (IsAt rows k) × IfErr r (IsGapFor rows k)
searched_rows {Val = Val} key xs [] same rising k r h said = no_rows Val key xs (size {Val = Val} key xs [] same rising k) k r h
searched_rows key [] (e ∷ rows) same rising k r h said = absurd (omega (arith, size key [] (e ∷ rows) same rising k))
searched_rows key (d ∷ xs) (e ∷ rows) same rising k (Ok at) h said = (found_at key (d ∷ xs) (e ∷ rows) same rising k d e at h said, tt)
searched_rows key (d ∷ xs) (e ∷ rows) same rising k (Err at) h said = (tt, gap_at key (d ∷ xs) (e ∷ rows) same rising k d e at h (said (comparisons_rise key (d ∷ xs) (e ∷ rows) same rising k d e)))
