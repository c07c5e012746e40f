-- Tiling by stripes: each cell adds 1 in its memory cells in a table of 16 by 16, and each memory cell of the cuts comes to 1.
use mathlib.Core.Path.{◌≡◌, refl, sym, ap, ap₂, ◌∙◌}
use mathlib.Core.Bool.{Bool, true, false}
use mathlib.Core.List.{List, [], ◌∷◌}
use mathlib.Core.Logic.{◌≢◌}
use Prim.Native.Nat.{ℕ, suc, ◌+◌, ◌*◌, ◌≤◌, ◌<◌, min, max}
use native.Mathlib.Omega.{arith}
use native.Mathlib.Numerals.{add-one}
use lib.Dec.{eqb, leb, ltb}
use lib.ListN.{length, get_or, set, take, replicate, length-map, length-set, get_or-map}
use lib.Seq.{take-suc, take_all, get_or-set_same, get_or-set_other, length-take-le}
use borrow.Author.Tests.{ltb-true, ltb-false, leb-true, leb-false, lt-ltb, le-ltb, eqb-true, eqb-false, eq-eqb, ne_eqb}
use Rattle.lists.specs.Parts.{tab}
use Rattle.lists.specs.Sums.{sum_by, concat}
use Rattle.lists.specs.Tests.{one_if, both, Each, all}
use Rattle.lists.proofs.Cases.{by_cases}
use Rattle.lists.proofs.PartsLaws.{length-tab, get_or-tab}
use Rattle.lists.proofs.SumsLaws.{sum-nil, sum-append}
use Rattle.lists.proofs.TestsLaws.{both_right, both_intro, both_left_false, both_right_false, all-append, all-Each}
use Rattle.std.specs.Prelude.{Option, Some}
use Rattle.rules.specs.Limits.{last_metre, max_cuts}
use Rattle.rules.specs.Grid.{stripe, Rect, Cuts, cuts_of, Box, boxes}
use Rattle.rules.specs.WellFormed.{RisingCuts}
use Rattle.desk.specs.declared.CutList.{CutList}
use Rattle.desk.specs.declared.Slot.{Slot}
use Rattle.desk.specs.Layout.{no_slot}
use Rattle.desk.specs.Views.{cuts_in, cuts_by, edges_of as rect_of}
use Rattle.sound_clauses.specs.Loops.{all_to}
use Rattle.sound_clauses.specs.Grid.{cuts_test, span_test, edges_test, tile_test, holds_box, holding_box, tile_boxes_test}
use Rattle.sound_clauses.proofs.LoopsLaws.{all_to_zero, all_to-suc, all_to-false, all_to_ext, all-all_to}
use Rattle.sound_clauses.proofs.GridLaws.{WholeBoxes, by_axis, cuts_true, edges_true, tile_boxes}
use Rattle.sound_grid.specs.Views.{rects_of}
use Rattle.boxes.specs.Boxes.{max_stripes, table_size, box_at}
use Rattle.sound_grid.specs.Sound.{several, Raised, RaisedIf, in_row, in_stripes, holders, row_once, rows_once}
use Rattle.sound_directory.specs.Sound.{slots_test, number, cuts_sound}
use Rattle.lists.proofs.SlotsLaws.{same_at, true-both}
use Rattle.sound_grid.proofs.ExtentLaws.{means_whole, extent_in, cuts_count}

-- ---- lists

all-concat : {A : Type 0} (p : A → Bool) (ls : List (List A)) → all p (concat ls) ≡ all (all p) ls
unfolding all concat
all-concat p [] = refl
all-concat p (l ∷ ls) = all-append p l (concat ls) ∙ ap (both (all p l)) (all-concat p ls)

all-tab : {A : Type 0} (p : A → Bool) (n : ℕ) (f : ℕ → A) (d : A) → all p (tab n f) ≡ all_to n (λ i. p (f i))
all-tab p n f d =
    all-all_to p (tab n f) d
    ∙ ap (λ (k : ℕ). all_to k (λ i. p (get_or (tab n f) i d))) (length-tab n f)
    ∙ all_to_ext n (λ i. p (get_or (tab n f) i d)) (λ i. p (f i)) (λ i h. ap p (get_or-tab n f i d h))

-- ---- stripes from low on, up to before i

abbrev before : ℕ → ℕ → ℕ → Bool
before low i x = both (leb low x) (ltb x i)

before_none : (low x : ℕ) → before low low x ≡ false
unfolding both
before_none low x = by_cases (leb low x) (λ t. rw (t, le-ltb x low (leb-true low x t))) (λ t. rw t)

before_next : (low i x : ℕ) → low ≤ i → one_if (before low (i + 1) x) ≡ one_if (before low i x) + one_if (eqb x i)
unfolding both
before_next low i x h =
    by_cases (leb low x)
    (λ t. by_cases (ltb x i)
    (λ u. let g = ltb-true x i u in rw (t, u, lt-ltb x (i + 1) (omega arith), ne_eqb x i (omega arith)))
    (λ u. let g = ltb-false x i u in
    by_cases (eqb x i)
    (λ v. rw (t, u, v, lt-ltb x (i + 1) (omega (arith, eqb-true x i v))))
    (λ v. rw (t, u, v, le-ltb x (i + 1) (omega (arith, eqb-false x i v))))))
    (λ t. let g = leb-false low x t in rw (t, ne_eqb x i (omega arith)))

before_end : (low high i x : ℕ) → high < i → i ≤ max low (high + 1) → before low i x ≡ both (leb low x) (leb x high)
unfolding both
before_end low high i x h k =
    by_cases (leb low x)
    (λ t. let l = leb-true low x t in
    by_cases (leb x high)
    (λ u. rw (t, u, lt-ltb x i (omega (arith, leb-true x high u))))
    (λ u. rw (t, u, le-ltb x i (omega (arith, leb-false x high u)))))
    (λ t. rw t)

sum_left : (a b c d : Bool) → one_if a ≡ one_if b + one_if c → one_if (both a d) ≡ one_if (both b d) + one_if (both c d)
unfolding both
sum_left true true c d e = by_cases c (λ t. absurd (omega (arith, ap one_if t))) (λ t. rw t (omega arith))
sum_left true false c d e = by_cases c (λ t. rw t (omega arith)) (λ t. absurd (omega (arith, ap one_if t)))
sum_left false true c d e = absurd (omega arith)
sum_left false false c d e = by_cases c (λ t. absurd (omega (arith, ap one_if t))) (λ t. rw t (omega arith))

sum_right : (d a b c : Bool) → one_if a ≡ one_if b + one_if c → one_if (both d a) ≡ one_if (both d b) + one_if (both d c)
unfolding both
sum_right true a b c e = e
sum_right false a b c e = omega arith

-- ---- a table raised

Raised_same : {t : List ℕ} (f : Box → ℕ) → length t ≡ table_size → ((m : Box) → f m ≡ 0) → Raised t t f
Raised_same f l z = record { size = l; held = λ m a b. omega (arith, z m) }

Raised_ext : {t u : List ℕ} {f : Box → ℕ} (g : Box → ℕ) → Raised t u f → ((m : Box) → f m ≡ g m) → Raised t u g
Raised_ext g r e = record { size = r.size; held = λ m a b. omega (arith, r.held m a b, e m) }

Raised_then : {t u v : List ℕ} {f g : Box → ℕ} (h : Box → ℕ) → Raised t u f → Raised u v g → ((m : Box) → h m ≡ f m + g m) → Raised t v h
Raised_then h r s e = record { size = s.size; held = λ m a b. omega (arith, r.held m a b, s.held m a b, e m) }

-- a test that fails says nothing of the table
pub raised_not : (t u : List ℕ) (f : Box → ℕ) → RaisedIf false t u f
raised_not t u f = record { raised = λ e. let z : false ≡ true = e in absurd (omega (arith, ap one_if z)) }

pub raised_size : {b : Bool} {t u : List ℕ} {f : Box → ℕ} → RaisedIf b t u f → b ≡ true → length u ≡ table_size
raised_size {b} r e = (r.raised e).size

-- one memory cell more
Raised-set : (u : List ℕ) (i row x : ℕ) → length u ≡ table_size → i < max_stripes → row < max_stripes → x ≡ min (get_or u (max_stripes * row + i) 0 + 1) several → Raised u (set u (max_stripes * row + i) x) (λ m. one_if (both (eqb m.east i) (eqb m.north row)))
unfolding both
Raised-set u i row x l h k q = record {
  size = length-set u (max_stripes * row + i) x ∙ l;
  held = λ m a b. by_cases (eqb m.east i)
      (λ t. by_cases (eqb m.north row)
      (λ v. let p : box_at m ≡ max_stripes * row + i = omega (arith, eqb-true m.east i t, eqb-true m.north row v) in
      rw (t, v) (omega (
        arith,
        q,
        ap (λ (j : ℕ). get_or u j 0) p,
        ap (λ (j : ℕ). get_or (set u (max_stripes * row + i) x) j 0) p,
        get_or-set_same u (max_stripes * row + i) x 0 (omega (arith, l)),
      )))
      (λ v. rw (t, v) (omega (arith, get_or-set_other u (max_stripes * row + i) (box_at m) x 0 (omega (arith, eqb-false m.north row v))))))
      (λ t. rw t (omega (arith, get_or-set_other u (max_stripes * row + i) (box_at m) x 0 (omega (arith, eqb-false m.east i t)))));
}

-- ---- a row

-- its memory cells from stripe west on, up to before i
unfoldable pub row_to : ℕ → ℕ → ℕ → Box → ℕ
row_to west i row m = one_if (both (before west i m.east) (eqb m.north row))

pub record RowMarked (west row : ℕ) (t : List ℕ) (i : ℕ) (u : List ℕ) : Type 0 where
  pub raised : Raised t u (row_to west i row)

pub row_start : {t : List ℕ} (west row : ℕ) → length t ≡ table_size → RowMarked west row t west t
unfolding row_to both
row_start west row l = record { raised = Raised_same (row_to west west row) l (λ m. ap (λ (b : Bool). one_if (both b (eqb m.north row))) (before_none west m.east)) }

module _ {west row : ℕ} {t : List ℕ} {i : ℕ} {u : List ℕ} (r : RowMarked west row t i u) where
  pub row_turn : {x east : ℕ} → west ≤ i → i < east + 1 → east < max_stripes → row < max_stripes → x ≡ min (get_or u (max_stripes * row + i) 0 + 1) several → RowMarked west row t (i + 1) (set u (max_stripes * row + i) x)
  unfolding row_to
  row_turn {x} w h e k q = record {
    raised = Raised_then (row_to west (i + 1) row) r.raised (Raised-set u i row x r.raised.size (omega arith) k q)
        (λ m. sum_left (before west (i + 1) m.east) (before west i m.east) (eqb m.east i) (eqb m.north row) (before_next west i m.east w));
  }

  pub row_end : (east : ℕ) → east + 1 ≤ i → i ≤ max west (east + 1) → Raised t u (in_row west east row)
  unfolding row_to in_row
  row_end east h k = Raised_ext (in_row west east row) r.raised (λ m. ap (λ (b : Bool). one_if (both b (eqb m.north row))) (before_end west east i m.east (omega (arith, h)) k))

-- ---- a rectangle of stripes

-- its rows from stripe south on, up to before j
unfoldable pub cell_to : ℕ → ℕ → ℕ → ℕ → Box → ℕ
cell_to west east south j m = one_if (both (both (leb west m.east) (leb m.east east)) (before south j m.north))

pub record CellMarked (west east south : ℕ) (t : List ℕ) (j : ℕ) (u : List ℕ) : Type 0 where
  pub raised : Raised t u (cell_to west east south j)

none_right : (a : Bool) {b : Bool} → b ≡ false → one_if (both a b) ≡ 0
none_right a e = ap one_if (both_right_false a e)

pub cell_start : {t : List ℕ} (west east south : ℕ) → length t ≡ table_size → CellMarked west east south t south t
unfolding cell_to
cell_start west east south l = record { raised = Raised_same (cell_to west east south south) l (λ m. none_right (both (leb west m.east) (leb m.east east)) (before_none south m.north)) }

module _ {west east south : ℕ} {t : List ℕ} {j : ℕ} {u : List ℕ} (r : CellMarked west east south t j u) where
  pub cell_turn : {v : List ℕ} → south ≤ j → Raised u v (in_row west east j) → CellMarked west east south t (j + 1) v
  unfolding cell_to in_row
  cell_turn w q = record {
    raised = Raised_then (cell_to west east south (j + 1)) r.raised q
        (λ m. sum_right (both (leb west m.east) (leb m.east east)) (before south (j + 1) m.north) (before south j m.north) (eqb m.north j) (before_next south j m.north w));
  }

  pub cell_end : (north : ℕ) → north + 1 ≤ j → j ≤ max south (north + 1) → Raised t u (in_stripes west east south north)
  unfolding cell_to in_stripes
  cell_end north h k = Raised_ext (in_stripes west east south north) r.raised (λ m. ap (λ (b : Bool). one_if (both (both (leb west m.east) (leb m.east east)) b)) (before_end south north j m.north (omega (arith, h)) k))

-- ---- the cells

-- those up to i have added theirs
pub record Marked (easts norths : CutList) (slots : List Slot) (t : List ℕ) (i : ℕ) (u : List ℕ) : Type 0 where
  pub raised : Raised t u (holders (cuts_by easts norths) (take i (rects_of slots)))

pub Marked_start : {t : List ℕ} (easts norths : CutList) (slots : List Slot) → length t ≡ table_size → Marked easts norths slots t 0 t
unfolding holders holding_box
Marked_start easts norths slots k = record {
  raised = Raised_same (holders (cuts_by easts norths) []) k (λ m. sum-nil (λ (r : Rect). one_if (holds_box (cuts_by easts norths) m r)));
}

-- a cell's memory cells are those of its stripes
pub slot_held : (easts norths : CutList) (x : Slot) {t u : List ℕ} {o p : Option (ℕ × ℕ)} {west east south north : ℕ}
    → o ≡ extent_in easts x.west x.east → o ≡ Some (west, east) → p ≡ extent_in norths x.south x.north → p ≡ Some (south, north)
    → Raised t u (in_stripes west east south north) → RaisedIf true t u (holders (cuts_by easts norths) (rect_of x ∷ []))
unfolding in_stripes holders holding_box sum_by holds_box cuts_in
slot_held easts norths x {west = west} {east = east} {south = south} {north = north} f g h k q =
    let w = means_whole (span_test (cuts_in easts) (rect_of x).easts) (stripe (cuts_in easts) x.west) (stripe (cuts_in easts) x.east) f g in
    let s = means_whole (span_test (cuts_in norths) (rect_of x).norths) (stripe (cuts_in norths) x.south) (stripe (cuts_in norths) x.north) h k in
    record {
      raised = λ _. Raised_ext (holders (cuts_by easts norths) (rect_of x ∷ [])) q
          (λ m. let same : in_stripes west east south north m ≡ one_if (holds_box (cuts_by easts norths) m (rect_of x)) =
          ap₂ (λ (a b : Bool). one_if (both a b))
          (ap₂ (λ (a b : ℕ). both (leb a m.east) (leb m.east b)) w.1 w.2)
          (ap₂ (λ (a b : ℕ). both (leb a m.north) (leb m.north b)) s.1 s.2) in
          omega (arith, same));
    }

holders_last : (cuts : Cuts) (rects : List Rect) (i : ℕ) (m : Box) (x : Rect) → i < length rects → holders cuts (take (i + 1) rects) m ≡ holders cuts (take i rects) m + holders cuts (get_or rects i x ∷ []) m
unfolding holders holding_box
holders_last cuts rects i m x h = rw (add-one, take-suc rects i x h) (sum-append (λ (r : Rect). one_if (holds_box cuts m r)) (take i rects) (get_or rects i x ∷ []))

module _ {easts norths : CutList} {slots : List Slot} {t u : List ℕ} {i : ℕ} (r : Marked easts norths slots t i u) where
  pub Marked_turn : {v : List ℕ} {b : Bool} → i < length slots → RaisedIf b u v (holders (cuts_by easts norths) (rect_of (get_or slots i no_slot) ∷ [])) → b ≡ true → Marked easts norths slots t (i + 1) v
  Marked_turn more q f = record {
    raised = Raised_then (holders (cuts_by easts norths) (take (i + 1) (rects_of slots))) r.raised (q.raised f)
        (λ m. holders_last (cuts_by easts norths) (rects_of slots) i m (rect_of no_slot) (omega (arith, length-map slots rect_of))
        ∙ ap (λ (y : Rect). holders (cuts_by easts norths) (take i (rects_of slots)) m + holders (cuts_by easts norths) (y ∷ []) m) (get_or-map rect_of slots i no_slot));
  }

  pub Marked_end : length slots ≤ i → RaisedIf true t u (holders (cuts_by easts norths) (rects_of slots))
  Marked_end h =
      let a : take i (rects_of slots) ≡ rects_of slots = take_all i (rects_of slots) (omega (arith, length-map slots rect_of)) in
      record { raised = λ _. Raised_ext (holders (cuts_by easts norths) (rects_of slots)) r.raised (λ m. ap (λ (l : List Rect). holders (cuts_by easts norths) l m) a) }

-- ---- held once

abbrev pub once_at : List ℕ → ℕ → ℕ → Bool
once_at table row i = eqb (get_or table (max_stripes * row + i) 0) 1

-- the memory cells of the row up to i are
pub record RowTo (table : List ℕ) (row i : ℕ) : Type 0 where
  pub done : all_to i (once_at table row) ≡ true

pub once_start : (table : List ℕ) (row : ℕ) → RowTo table row 0
once_start table row = record { done = all_to_zero (once_at table row) }

module _ {table : List ℕ} {row i : ℕ} (r : RowTo table row i) where
  pub once_fails : {columns : ℕ} → i < columns → get_or table (max_stripes * row + i) 0 ≢ 1 → false ≡ row_once table columns row
  unfolding row_once
  once_fails {columns} h f = sym (all_to-false columns (once_at table row) i h (ne_eqb (get_or table (max_stripes * row + i) 0) 1 f))

  pub once_turn : get_or table (max_stripes * row + i) 0 ≡ 1 → RowTo table row (i + 1)
  once_turn f = record { done = rw add-one (all_to-suc i (once_at table row) ∙ both_intro r.done (eq-eqb (get_or table (max_stripes * row + i) 0) 1 f)) }

  pub once_end : {columns : ℕ} → columns ≤ i → i ≤ columns → true ≡ row_once table columns row
  unfolding row_once
  once_end {columns} h k = let e : i ≡ columns = omega arith in sym r.done ∙ ap (λ (j : ℕ). all_to j (once_at table row)) e

-- the rows up to j are
pub record RowsTo (table : List ℕ) (columns j : ℕ) : Type 0 where
  pub done : all_to j (row_once table columns) ≡ true

pub rows_start : (table : List ℕ) (columns : ℕ) → RowsTo table columns 0
rows_start table columns = record { done = all_to_zero (row_once table columns) }

module _ {table : List ℕ} {columns j : ℕ} (r : RowsTo table columns j) where
  module _ {b : Bool} (said : b ≡ row_once table columns j) where
    pub rows_fail : {rows : ℕ} → j < rows → b ≡ false → false ≡ rows_once table columns rows
    unfolding rows_once
    rows_fail {rows} h f = sym (all_to-false rows (row_once table columns) j h (sym said ∙ f))

    pub rows_turn : b ≡ true → RowsTo table columns (j + 1)
    rows_turn f = record { done = rw add-one (all_to-suc j (row_once table columns) ∙ both_intro r.done (sym said ∙ f)) }

  pub rows_end : {rows : ℕ} → rows ≤ j → j ≤ rows → true ≡ rows_once table columns rows
  unfolding rows_once
  rows_end {rows} h k = let e : j ≡ rows = omega arith in sym r.done ∙ ap (λ (i : ℕ). all_to i (row_once table columns)) e

-- ---- each memory cell held once, and the clause

-- a table from nothing has its counts, as far as they are 1
held_once : {t : List ℕ} {f : Box → ℕ} → Raised (replicate table_size 0) t f → (m : Box) → m.east < max_stripes → m.north < max_stripes → eqb (get_or t (box_at m) 0) 1 ≡ eqb (f m) 1
held_once {t} {f} r m a b =
    let h = r.held m a b in
    let z = same_at {A = ℕ} 0 table_size (box_at m) in
    by_cases (eqb (f m) 1)
    (λ e. eq-eqb (get_or t (box_at m) 0) 1 (omega (arith, h, z, eqb-true (f m) 1 e)) ∙ sym e)
    (λ e. ne_eqb (get_or t (box_at m) 0) 1 (omega (arith, h, z, eqb-false (f m) 1 e)) ∙ sym e)

rows_held : {t : List ℕ} {f : Box → ℕ} (columns rows : ℕ) → columns ≤ max_stripes → rows ≤ max_stripes → Raised (replicate table_size 0) t f → rows_once t columns rows ≡ all_to rows (λ j. all_to columns (λ i. eqb (f (record { east = i; north = j })) 1))
unfolding rows_once row_once
rows_held {t} {f} columns rows h k r =
    all_to_ext rows (row_once t columns) (λ j. all_to columns (λ i. eqb (f (record { east = i; north = j })) 1))
    (λ j b. all_to_ext columns (once_at t j) (λ i. eqb (f (record { east = i; north = j })) 1) (λ i a. held_once r (record { east = i; north = j }) (omega arith) (omega arith)))

-- the test, row by row
boxes_rows : (cuts : Cuts) (rects : List Rect) → tile_boxes_test cuts rects ≡ all_to (suc (length cuts.norths)) (λ j. all_to (suc (length cuts.easts)) (λ i. eqb (holders cuts rects (record { east = i; north = j })) 1))
unfolding tile_boxes_test boxes holders
boxes_rows cuts rects =
    let p : Box → Bool = λ m. eqb (holding_box cuts m rects) 1 in
    let row : ℕ → List Box = λ j. tab (suc (length cuts.easts)) (λ i. record { east = i; north = j }) in
    all-concat p (tab (suc (length cuts.norths)) row)
    ∙ all-tab (all p) (suc (length cuts.norths)) row []
    ∙ all_to_ext (suc (length cuts.norths)) (λ j. all p (row j)) (λ j. all_to (suc (length cuts.easts)) (λ i. p (record { east = i; north = j })))
    (λ j h. all-tab p (suc (length cuts.easts)) (λ i. record { east = i; north = j }) (record { east = 0; north = 0 }))

length_cuts : (c : CutList) → length c.at ≡ max_cuts → c.n ≤ max_cuts → length (cuts_in c) ≡ c.n
unfolding cuts_in
length_cuts c l h = length-take-le c.n c.at (omega arith)

cuts_pass : (c : CutList) → cuts_sound c ≡ true → RisingCuts 0 (cuts_in c) × Each (λ x. x ≤ last_metre) (cuts_in c)
unfolding cuts_sound
cuts_pass c t = let h = cuts_true (cuts_in c) (both_right (slots_test number max_cuts c.n c.at) (cuts_test (cuts_in c)) t) in (h.1, h.2)

edges_pass : (easts norths : CutList) (rects : List Rect) → all (edges_test (cuts_by easts norths)) rects ≡ true → Each (WholeBoxes (cuts_by easts norths)) rects
edges_pass easts norths rects t = all-Each (edges_test (cuts_by easts norths)) (WholeBoxes (cuts_by easts norths)) rects (edges_true (cuts_by easts norths)) t

module _ (easts norths : CutList) (slots : List Slot) (east : cuts_sound easts ≡ true) (north : cuts_sound norths ≡ true) where
  abbrev rects : List Rect
  rects = rects_of slots

  abbrev cuts : Cuts
  cuts = cuts_by easts norths

  stripes_tile : all (edges_test cuts) rects ≡ true → tile_boxes_test cuts rects ≡ tile_test cuts rects
  stripes_tile edged =
      tile_boxes cuts rects
      (by_axis (λ a. Each (λ x. x ≤ last_metre) (cuts_of a cuts)) (cuts_pass easts east).1 (cuts_pass norths north).1)
      (by_axis (λ a. RisingCuts 0 (cuts_of a cuts)) (cuts_pass easts east).0 (cuts_pass norths north).0)
      (edges_pass easts norths rects edged)

  pub tile_not : {a : Bool} → a ≡ all (edges_test cuts) rects → a ≡ false → false ≡ both (all (edges_test cuts) rects) (tile_test cuts rects)
  tile_not edged f = sym (both_left_false (tile_test cuts rects) (sym edged ∙ f))

  pub tile_end : {t : List ℕ} {a b : Bool} → length easts.at ≡ max_cuts → length norths.at ≡ max_cuts
      → a ≡ all (edges_test cuts) rects → a ≡ true → RaisedIf a (replicate table_size 0) t (holders cuts rects)
      → b ≡ rows_once t (easts.n + 1) (norths.n + 1) → b ≡ both (all (edges_test cuts) rects) (tile_test cuts rects)
  tile_end {t} {a} k l edged f r q =
      let h = cuts_count easts east in
      let g = cuts_count norths north in
      let columns : suc (length (cuts_in easts)) ≡ easts.n + 1 = omega (arith, length_cuts easts k h) in
      let rows : suc (length (cuts_in norths)) ≡ norths.n + 1 = omega (arith, length_cuts norths l g) in
      q ∙ rows_held (easts.n + 1) (norths.n + 1) (omega arith) (omega arith) (r.raised f)
      ∙ ap₂ (λ (a b : ℕ). all_to b (λ j. all_to a (λ i. eqb (holders cuts rects (record { east = i; north = j })) 1))) (sym columns) (sym rows)
      ∙ sym (boxes_rows cuts rects)
      ∙ stripes_tile (sym edged ∙ f)
      ∙ sym (true-both (tile_test cuts rects) (sym edged ∙ f))
