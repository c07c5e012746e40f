-- The loop that writes where each line stands: the lines passed are named, and with the rest it is the whole memo.
use mathlib.Core.Path.{◌≡◌, refl, sym, ap, ◌∙◌, subst}
use mathlib.Core.List.{List, [], ◌∷◌, map}
use Rattle.std.specs.Prelude.{Option, None, Some}
use Prim.Native.Nat.{ℕ, zero, suc, ◌+◌, ◌≤◌, ◌<◌}
use native.Mathlib.Omega.{arith}
use native.Mathlib.Numerals.{add-one}
use lib.Dec.{eqb}
use lib.ListN.{length, get_or, set, take, drop, replicate, length-set, length-replicate}
use lib.Seq.{get_or-set_same, get_or-set_other, get_or-take, length-take-le}
use borrow.Author.Tests.{eqb-true, eqb-false}
use Rattle.terms.specs.Terms.{max_radio}
use Rattle.lists.specs.Rows.{Rows, Rising, UpTo, find}
use Rattle.lists.specs.Tests.{or_else}
use Rattle.lists.proofs.Cases.{by_cases}
use Rattle.lists.proofs.MapLaws.{map-drop}
use Rattle.lists.proofs.RowsLaws.{Rising_less, find_below}
use Rattle.lists.proofs.SlotsLaws.{used_cons, used_none}
use Rattle.rules.specs.Store.{Line as StoreLine}
use Rattle.rules.specs.Sweep.{stale_by, stale}
use Rattle.desk.specs.declared.Line.{Line}
use Rattle.desk.specs.Held.{Memo}
use Rattle.desk.specs.Layout.{line_slots, no_line}
use Rattle.memo.specs.Memo.{row_of, lines_of}
use Rattle.memo_index.specs.Index.{table_size, Blank, Named, line_named, judged}

-- ---- a blank table

zero_at : (n q : ℕ) → get_or (replicate {A = ℕ} n 0) q 0 ≡ 0
zero_at zero q = refl
zero_at (suc n) zero = refl
zero_at (suc n) (suc q) = zero_at n q

pub Blank_zeros : Blank (replicate {A = ℕ} table_size 0)
Blank_zeros = record { size = length-replicate {A = ℕ} table_size 0; zeros = zero_at table_size }

-- ---- a loop over the lines

-- the lines before i are named: with the rest it is the whole
pub record Indexing (m : Memo) (i : ℕ) (lines : List ℕ) : Type 0 where
  pub rise : Rising 0 (drop i (lines_of m))
  pub radios : UpTo max_radio (drop i (lines_of m))
  pub size : length lines ≡ table_size
  pub named : Named m.lines lines
  pub found : (q : ℕ) → or_else (find (drop i (lines_of m)) q) (line_named m.lines (get_or lines q 0)) ≡ find (lines_of m) q

get_or-set-le : (t : List ℕ) (k v q b : ℕ) → get_or t q 0 ≤ b → v ≤ b → get_or (set t k v) q 0 ≤ b
get_or-set-le [] k v q b h g = h
get_or-set-le (x ∷ t) zero v zero b h g = g
get_or-set-le (x ∷ t) zero v (suc q) b h g = h
get_or-set-le (x ∷ t) (suc k) v zero b h g = h
get_or-set-le (x ∷ t) (suc k) v (suc q) b h g = get_or-set-le t k v q b h g

or_none : {A : Type 0} (o : Option A) → or_else o None ≡ o
or_none None = refl
or_none (Some a) = refl

pub index_start : (m : Memo) {lines : List ℕ} → length m.lines ≡ line_slots → Rising 0 (lines_of m) → UpTo max_radio (lines_of m) → Blank lines → Indexing m 0 lines
index_start m l r u z = record {
  rise = r;
  radios = u;
  size = z.size;
  named = record { size = l; place = λ q. omega (arith, z.zeros q) };
  found = λ q. ap (λ (k : ℕ). or_else (find (lines_of m) q) (line_named m.lines k)) (z.zeros q) ∙ or_none (find (lines_of m) q);
}

pub lines_none : (m : Memo) {i : ℕ} → m.n ≤ i → drop i (lines_of m) ≡ []
unfolding lines_of
lines_none m {i} h = sym (map-drop row_of i (take m.n m.lines)) ∙ ap (map row_of) (used_none m.lines m.n i h)

pub index_end : (m : Memo) {i : ℕ} {lines : List ℕ} → Indexing m i lines → m.n ≤ i → Named m.lines lines × (judged m.lines lines ≡ stale (lines_of m))
unfolding find judged
index_end m {i} {lines} l h =
    let named : (q : ℕ) → line_named m.lines (get_or lines q 0) ≡ find (lines_of m) q = λ q.
    ap (λ (y : Rows StoreLine). or_else (find y q) (line_named m.lines (get_or lines q 0))) (sym (lines_none m h)) ∙ l.found q in
    (l.named, λ j e. stale_by (named e.key j) e.val)

module _ (m : Memo) {i : ℕ} (size : length m.lines ≡ line_slots) (few : m.n ≤ line_slots) (more : i < m.n) {line : Line} (read : line ≡ get_or m.lines i no_line) where
  pub line_next : drop i (lines_of m) ≡ row_of line ∷ drop (i + 1) (lines_of m)
  unfolding lines_of
  line_next =
      let used : List Line = take m.n m.lines in
      let l = size in
      rw read
      (sym (map-drop row_of i used) ∙ ap (map row_of) (used_cons m.lines m.n i no_line (omega arith) more)
      ∙ ap (λ (y : Rows StoreLine). row_of (get_or m.lines i no_line) ∷ y) (map-drop row_of (i + 1) used))

  module _ {lines : List ℕ} (l : Indexing m i lines) where
    radios_here : UpTo max_radio (row_of line ∷ drop (i + 1) (lines_of m))
    radios_here = subst (λ (y : Rows StoreLine). UpTo max_radio y) line_next l.radios

    pub index_radio : line.radio ≤ max_radio
    index_radio = radios_here.0

    rise_next : Rising line.radio (drop (i + 1) (lines_of m))
    rise_next = (subst (λ (y : Rows StoreLine). Rising 0 y) line_next l.rise).1

    module _ {k : ℕ} (at : k ≡ line.radio) (inside : k < table_size) where
      named_next : (q : ℕ) → or_else (find (drop (i + 1) (lines_of m)) q) (line_named m.lines (get_or (set lines k (i + 1)) q 0)) ≡ find (lines_of m) q
      unfolding find
      named_next q =
          let rest = drop (i + 1) (lines_of m) in
          let before : or_else (find (row_of line ∷ rest) q) (line_named m.lines (get_or lines q 0)) ≡ find (lines_of m) q =
          ap (λ (y : Rows StoreLine). or_else (find y q) (line_named m.lines (get_or lines q 0))) (sym line_next) ∙ l.found q in
          by_cases (eqb q line.radio)
          (λ e.
          let z : q ≡ k = eqb-true q line.radio e ∙ sym at in
          let n : get_or (set lines k (i + 1)) q 0 ≡ suc i = ap (λ (j : ℕ). get_or (set lines k (i + 1)) j 0) z ∙ get_or-set_same lines k (i + 1) 0 (omega (arith, l.size)) ∙ add-one i in
          rw (find_below q line.radio rest (omega arith) rise_next, n, ← read) (rw e at before))
          (λ e. rw (get_or-set_other lines k q (i + 1) 0 (λ z. eqb-false q line.radio e (z ∙ at))) (rw e at before))

      pub index_turn : {p : ℕ} → p ≡ i + 1 → Indexing m (i + 1) (set lines k p)
      index_turn e =
          rw e
          (record {
            rise = Rising_less 0 line.radio (drop (i + 1) (lines_of m)) (omega arith) rise_next;
            radios = radios_here.1;
            size = length-set lines k (i + 1) ∙ l.size;
            named = record { size = size; place = λ j. get_or-set-le lines k (i + 1) j line_slots (l.named.place j) (omega arith) };
            found = named_next;
          })

-- the lines in use
module _ (m : Memo) (size : length m.lines ≡ line_slots) (few : m.n ≤ line_slots) where
  used_count : length (take m.n m.lines) ≡ m.n
  used_count = length-take-le m.n m.lines (omega (arith, size))

  pub used_more : {i : ℕ} → i < length (take m.n m.lines) → i < m.n
  used_more h = omega (arith, used_count)

  pub used_end : {i : ℕ} → length (take m.n m.lines) ≤ i → m.n ≤ i
  used_end h = omega (arith, used_count)

  pub used_line : {i : ℕ} → i < length (take m.n m.lines) → get_or (take m.n m.lines) i no_line ≡ get_or m.lines i no_line
  used_line {i} h = get_or-take m.n m.lines i no_line (used_more h)
