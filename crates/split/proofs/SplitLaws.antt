-- The two sides of a cut: which entries stay, walked from the first to the last, and the two cells' slots where the desk is that of a store.
use mathlib.Core.Path.{◌≡◌, refl, ap, ◌∙◌}
use mathlib.Core.Bool.{Bool, true, false}
use mathlib.Core.List.{List, [], ◌∷◌, ◌++◌, append-nil, map-append}
use Prim.Native.Nat.{ℕ, ◌+◌, ◌≤◌, ◌<◌}
use native.Mathlib.Omega.{arith}
use native.Mathlib.Numerals.{add-one}
use lib.ListN.{length, get_or, take, length-map}
use lib.Seq.{take-suc, take-length, length-take-le}
use Rattle.terms.specs.Terms.{Fix, no_page}
use Rattle.lists.specs.Rows.{Row, Rows}
use Rattle.lists.specs.Chains.{chain_head}
use Rattle.lists.specs.Sums.{keep, filter}
use Rattle.lists.proofs.Cases.{by_cases}
use Rattle.lists.proofs.SumsLaws.{length-filter-not}
use Rattle.entries.specs.declared.Entry.{Entry}
use Rattle.entries.specs.Entries.{row_of, no_entry, rows_of}
use Rattle.rules.specs.Store.{Cell, settled}
use Rattle.rules.specs.Cut.{Cut}
use Rattle.rules.specs.Flush.{low_cell, high_cell}
use Rattle.desk.specs.Layout.{slot_of}
use Rattle.split.specs.Split.{low_slot, high_slot}

-- ---- lists

module _ {A : Type 0} where
  filter_last : (p : A → Bool) (l : List A) (x : A) → filter p (l ++ (x ∷ [])) ≡ filter p l ++ keep (p x) x []
  unfolding filter
  filter_last p [] x = refl
  filter_last p (y ∷ ys) x = by_cases (p y) (λ t. rw t (ap (λ (l : List A). y ∷ l) (filter_last p ys x))) (λ t. rw t (filter_last p ys x))

-- ---- the entries of the sides

-- of the first i entries those that pass: none at first, at the next one it, too, or no other, and in the end those of all
pub side_start : (p : Row Fix → Bool) → [] ≡ filter p []
unfolding filter
side_start p = refl

module _ (p : Row Fix → Bool) (es : List Entry) {i : ℕ} where
  next : i < length es → filter p (rows_of (take (i + 1) es)) ≡ filter p (rows_of (take i es)) ++ keep (p (row_of (get_or es i no_entry))) (row_of (get_or es i no_entry)) []
  next h =
      rw (add-one, take-suc es i no_entry h)
      (ap (filter p) (map-append row_of (take i es) (get_or es i no_entry ∷ [])) ∙ filter_last p (rows_of (take i es)) (row_of (get_or es i no_entry)))

  module _ {side : Rows Fix} (so : side ≡ filter p (rows_of (take i es))) where
    pub side_more : i < length es → p (row_of (get_or es i no_entry)) ≡ true → {more : Rows Fix} → more ≡ side ++ (row_of (get_or es i no_entry) ∷ [])
        → more ≡ filter p (rows_of (take (i + 1) es))
    side_more h t e = rw (next h, t, e, so)

    pub side_same : i < length es → p (row_of (get_or es i no_entry)) ≡ false → side ≡ filter p (rows_of (take (i + 1) es))
    side_same h t = rw (next h, t, append-nil, so)

    pub side_few : i ≤ length es → length side ≤ i
    side_few h = rw so (omega (arith, length-filter-not p (rows_of (take i es)), length-map (take i es) row_of, length-take-le i es h))

    pub side_end : i ≤ length es → length es ≤ i → side ≡ filter p (rows_of es)
    side_end h k = let z : i ≡ length es = omega arith in so ∙ ap (λ (n : ℕ). filter p (rows_of (take n es))) z ∙ ap (λ (l : List Entry). filter p (rows_of l)) (take-length es)

-- ---- the slots

-- where d's slot and entries are a cell's: those of the cell's two parts, the slots also once these are settled
module _ (c : Cut) (d : Cell) where
  pub low_slot-settled : (free : List ℕ) → low_slot c (slot_of d) (chain_head no_page (settled free (low_cell c d)).chain) ≡ slot_of (settled free (low_cell c d))
  unfolding low_slot low_cell settled
  low_slot-settled free = refl

  module _ (n : ℕ) where
    pub high_slot-settled : (free : List ℕ) → high_slot c (slot_of d) n (chain_head no_page (settled free (high_cell c n d)).chain) ≡ slot_of (settled free (high_cell c n d))
    unfolding high_slot high_cell settled
    high_slot-settled free = refl
