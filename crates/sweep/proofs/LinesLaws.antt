-- The walk along the memo's lines: the rank that it comes to, and what the line there says of an entry.
use mathlib.Core.Path.{◌≡◌, sym, ap, ◌∙◌}
use mathlib.Core.Bool.{Bool, true, false, not}
use mathlib.Core.List.{List, [], ◌∷◌}
use mathlib.Core.Logic.{◌≢◌}
use Rattle.std.specs.Prelude.{Option, Some}
use Prim.Native.Nat.{ℕ, ◌+◌, ◌≤◌, ◌<◌}
use native.Mathlib.Omega.{arith}
use lib.Dec.{eqb, ltb}
use lib.ListN.{length, get_or, length-map, get_or-map}
use borrow.Author.Tests.{eqb-true, ltb-true, lt-ltb, le-ltb, eq-eqb, ne_eqb}
use Rattle.terms.specs.Terms.{Place}
use Rattle.lists.specs.Rows.{Row, Rows, Rising, find, rank}
use Rattle.lists.specs.Tests.{one_if, both}
use Rattle.lists.proofs.Cases.{by_cases, none-some}
use Rattle.lists.proofs.SearchLaws.{rank-cons, rank-le, find-rank, find-rank-none}
use Rattle.lists.proofs.SumsLaws.{sum-le}
use Rattle.entries.specs.declared.Entry.{Entry}
use Rattle.entries.specs.Entries.{row_of as row_of_entry, place_of}
use Rattle.rules.specs.Store.{Line as StoreLine}
use Rattle.rules.specs.Sweep.{is_at, stale}
use Rattle.desk.specs.declared.Line.{Line}
use Rattle.desk.specs.Layout.{no_line}
use Rattle.memo.specs.Memo.{row_of, no_row}
use Rattle.desk.specs.Views.{last_of}
use Rattle.memo_sweep.proofs.LowerLaws.{rank_at}
use Rattle.sweep.specs.Sweep.{rows_in}

-- ---- ranks

below_le : (q r k : ℕ) → q ≤ r → one_if (ltb k q) ≤ one_if (ltb k r)
below_le q r k h = by_cases (ltb k q) (λ t. rw (t, lt-ltb k r (omega (arith, ltb-true k q t))) (omega arith)) (λ t. rw t (omega arith))

module _ {Val : Type 0} where
  pub rank_rises : (q r : ℕ) (l : Rows Val) → q ≤ r → rank q l ≤ rank r l
  unfolding rank
  rank_rises q r l h = sum-le _ _ l (λ x. below_le q r x.key h)

  -- past a key that is there
  pub rank_past : (q r : ℕ) (l : Rows Val) (v : Val) → q < r → find l q ≡ Some v → rank q l < rank r l
  unfolding find
  rank_past q r [] v h = none-some
  rank_past q r (x ∷ l) v h =
      by_cases (eqb q x.key)
      (λ t. rw t (λ e.
      let z = eqb-true q x.key t in
      rw (rank-cons q x l, rank-cons r x l, le-ltb x.key q (omega arith), lt-ltb x.key r (omega arith)) (omega (arith, rank_rises q r l (omega arith)))))
      (λ t. rw t (λ e. omega (arith, rank_past q r l v h e, rank-cons q x l, rank-cons r x l, below_le q r x.key (omega arith))))

  -- the row at i lies before the rank of r where its key is below r, and else it does not
  module _ (l : Rows Val) (r i : ℕ) (d : Row Val) (rising : Rising 0 l) (inside : i < length l) where
    key_there : find l (get_or l i d).key ≡ Some (get_or l (rank (get_or l i d).key l) d).val
    key_there =
        let k = rank_at l i d rising inside in
        find-rank 0 (get_or l i d).key l d rising (omega arith) (ap (λ (j : ℕ). (get_or l j d).key) k)

    rank_above : (get_or l i d).key < r → i < rank r l
    rank_above h = omega (arith, rank_at l i d rising inside, rank_past (get_or l i d).key r l (get_or l (rank (get_or l i d).key l) d).val h key_there)

    rank_below : r ≤ (get_or l i d).key → rank r l ≤ i
    rank_below h = omega (arith, rank_at l i d rising inside, rank_rises r (get_or l i d).key l h)

-- ---- from line to line

module _ (ls : List Line) where
  many : length (rows_in ls) ≡ length ls
  many = length-map ls row_of

  row_at : (i : ℕ) → get_or (rows_in ls) i no_row ≡ row_of (get_or ls i no_line)
  row_at i = get_or-map row_of ls i no_line

  module _ (r : ℕ) {at : ℕ} (reached : at ≤ rank r (rows_in ls)) where
    pub walk_past : length ls ≤ at → length ls ≡ rank r (rows_in ls)
    walk_past h = omega (arith, many, rank-le r (rows_in ls))

    module _ (rising : Rising 0 (rows_in ls)) (more : at < length ls) where
      radio-at : (get_or ls at no_line).radio ≡ (get_or (rows_in ls) at no_row).key
      radio-at = ap (λ (y : Row StoreLine). y.key) (sym (row_at at))

      pub walk_here : r ≤ (get_or ls at no_line).radio → at ≡ rank r (rows_in ls)
      walk_here h = omega (arith, rank_below (rows_in ls) r at no_row rising (omega (arith, many)) (omega (arith, radio-at)))

      pub walk_on : (get_or ls at no_line).radio < r → at + 1 ≤ rank r (rows_in ls)
      walk_on h = omega (arith, rank_above (rows_in ls) r at no_row rising (omega (arith, many)) (omega (arith, radio-at)))

  -- ---- the line at a radio's rank

  module _ (e : Entry) {at : ℕ} (rising : Rising 0 (rows_in ls)) (here : at ≡ rank e.radio (rows_in ls)) where
    pub stale_past : length ls ≤ at → false ≡ stale (rows_in ls) (row_of_entry e)
    stale_past h = rw (find-rank-none 0 e.radio (rows_in ls) no_row rising (λ k _. absurd (omega (arith, many))))

    module _ {x : Line} (read : x ≡ get_or ls at no_line) (more : at < length ls) where
      row_here : get_or (rows_in ls) (rank e.radio (rows_in ls)) no_row ≡ row_of x
      row_here = ap (λ (i : ℕ). get_or (rows_in ls) i no_row) (sym here) ∙ row_at at ∙ ap row_of (sym read)

      pub stale_other : x.radio ≢ e.radio → eqb x.radio e.radio ≡ stale (rows_in ls) (row_of_entry e)
      stale_other h = rw (ne_eqb x.radio e.radio h, find-rank-none 0 e.radio (rows_in ls) no_row rising (λ _ k. h (sym (ap (λ (y : Row StoreLine). y.key) row_here) ∙ k)))

      pub stale_here : {b : Bool} → x.radio ≡ e.radio → b ≡ not (is_at (last_of x) (place_of e)) → b ≡ stale (rows_in ls) (row_of_entry e)
      stale_here {b} h s =
          let f = find-rank 0 e.radio (rows_in ls) no_row rising (omega (arith, many)) (ap (λ (y : Row StoreLine). y.key) row_here ∙ h) in
          rw f (s ∙ ap (λ (o : Option Place). not (is_at o (place_of e))) (sym (ap (λ (y : Row StoreLine). y.val.last) row_here)))
