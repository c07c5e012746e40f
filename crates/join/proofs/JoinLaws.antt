-- The joined cell: entries that go in one after the other, and the slot; both where they are those of two cells of a store.
use mathlib.Core.Path.{◌≡◌, refl, sym, ap, ◌∙◌}
use mathlib.Core.List.{List, [], ◌∷◌}
use Rattle.std.specs.Prelude.{Some}
use Prim.Native.Nat.{ℕ, suc, ◌+◌, ◌≤◌, ◌<◌}
use native.Mathlib.Omega.{arith}
use native.Mathlib.Numerals.{add-one}
use lib.ListN.{length, get_or, drop, length-map, get_or-map, drop_of_length-le}
use lib.Seq.{drop-cons}
use Rattle.terms.specs.Terms.{Fix, max_on, no_page}
use Rattle.lists.specs.Chains.{chain_head}
use Rattle.lists.specs.Rows.{Row, Rows, Rising, insert, merge}
use Rattle.lists.proofs.RowsLaws.{Rising_above, Rising-alter}
use Rattle.lists.proofs.TestsLaws.{Each-get_or}
use Rattle.entries.specs.declared.Entry.{Entry}
use Rattle.entries.specs.Entries.{row_of, fix_of, no_entry, no_row, rows_of}
use Rattle.rules.specs.Store.{Cell, settled}
use Rattle.rules.specs.Flush.{Flushed, joined}
use Rattle.rules.proofs.TilingLaws.{smaller-number}
use Rattle.desk.specs.Layout.{slot_of}
use Rattle.join.specs.Join.{joined_slot}

-- ---- the entries

merge-nil : (m : Rows Fix) → merge [] m ≡ m
unfolding merge
merge-nil m = refl

merge-cons : (x : Row Fix) (l m : Rows Fix) → merge (x ∷ l) m ≡ merge l (insert x.key x.val m)
unfolding merge
merge-cons x l m = refl

-- the first i of the entries are in, and what is left put among them is the whole
pub record Merging (from into : Rows Fix) (entries : List Entry) (i : ℕ) (all : Rows Fix) : Type 0 where
  pub shown : rows_of entries ≡ from
  pub from_rises : Rising 0 from
  pub rises : Rising 0 all
  pub room : length all ≤ length into + i
  pub list : merge (drop i from) all ≡ merge from into

module _ {from into : Rows Fix} {entries : List Entry} where
  pub merge_start : rows_of entries ≡ from → Rising 0 from → Rising 0 into → Merging from into entries 0 into
  merge_start e a b = record { shown = e; from_rises = a; rises = b; room = omega arith; list = refl }

  module _ {i : ℕ} {all : Rows Fix} (m : Merging from into entries i all) where
    many : length from ≡ length entries
    many = ap length (sym m.shown) ∙ length-map entries row_of

    pub merge_room : length from + length into ≤ max_on → i < length entries → length all < max_on
    merge_room h more = omega (arith, m.room, many)

    pub merge_few : i ≤ length entries → length all ≤ length from + length into
    merge_few h = omega (arith, m.room, many)

    pub merge_turn : i < length entries → {r : Rows Fix} → r ≡ insert (get_or entries i no_entry).radio (fix_of (get_or entries i no_entry)) all → length r ≤ length all + 1 → Merging from into entries (i + 1) r
    merge_turn more put grown =
        let e : Entry = get_or entries i no_entry in
        let here : get_or from i no_row ≡ row_of e = ap (λ (l : Rows Fix). get_or l i no_row) (sym m.shown) ∙ get_or-map row_of entries i no_entry in
        let above : 0 < (get_or from i no_row).key = Each-get_or (λ y. 0 < y.key) from i no_row (Rising_above 0 from m.from_rises) (omega (arith, many)) in
        let next : drop i from ≡ row_of e ∷ drop (i + 1) from =
        drop-cons from i no_row (omega (arith, many)) ∙ rw (add-one i) (ap (λ (y : Row Fix). y ∷ drop (suc i) from) here) in
        record {
          shown = m.shown;
          from_rises = m.from_rises;
          rises = rw put (Rising-alter (λ _. Some (fix_of e)) 0 e.radio all (omega (arith, ap (λ (y : Row Fix). y.key) here)) m.rises);
          room = omega (arith, m.room);
          list = rw put (sym (merge-cons (row_of e) (drop (i + 1) from) all) ∙ ap (λ (l : Rows Fix). merge l all) (sym next) ∙ m.list);
        }

    pub merge_end : length entries ≤ i → all ≡ merge from into
    merge_end h = sym (merge-nil all) ∙ ap (λ (l : Rows Fix). merge l all) (sym (drop_of_length-le from {i = i} (omega (arith, many)))) ∙ m.list

-- ---- two cells of a store

pub joined_slot-cell : (f : Flushed) (n : Cell) → joined_slot (slot_of f.cell) (slot_of n) (chain_head no_page (joined f n).chain) ≡ slot_of (joined f n)
unfolding joined_slot settled
joined_slot-cell f n = rw (smaller-number (settled f.store.free f.cell) n)
