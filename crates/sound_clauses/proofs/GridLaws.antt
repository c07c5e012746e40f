-- The tests of cuts, edges and tiling say just the clauses: a finite test of memory cells says that each place of the square lies in one cell.
use mathlib.Core.Path.{◌≡◌, refl, sym, ap, ap₂, ◌∙◌}
use mathlib.Core.Bool.{Bool, true}
use mathlib.Core.List.{List, [], ◌∷◌}
use Prim.Native.Nat.{ℕ, zero, suc, ◌+◌, ◌≤◌, ◌<◌}
use native.Mathlib.Omega.{arith}
use lib.Dec.{eqb, leb, ltb}
use lib.ListN.{length}
use borrow.Author.Tests.{lt-ltb, le-leb, lt-leb, ltb-true, leb-true, leb-false, eqb-true, eqb-false, eq-eqb, ne_eqb}
use Rattle.terms.specs.Terms.{Place}
use Rattle.lists.specs.Parts.{tab}
use Rattle.lists.specs.Sums.{sum_by, concat, count}
use Rattle.lists.specs.Tests.{one_if, both, Each, all}
use Rattle.lists.proofs.Cases.{by_cases}
use Rattle.lists.proofs.SumsLaws.{sum-Each, sum-map, count-cons}
use Rattle.lists.proofs.TestsLaws.{both_left, both_right, both_intro, either_cases, either_left, either_right, Each_map, Each-append, all-Each}
use Rattle.rules.specs.Limits.{last_metre, max_cuts}
use Rattle.rules.specs.Grid.{Axis, eastward, northward, along, Span, within, Rect, span_of, inside, Cuts, cuts_of, stripe, stripe_low, Box, box_of, corner_of, boxes}
use Rattle.rules.specs.Store.{Cell}
use Rattle.rules.specs.WellFormed.{RisingCuts, OnCuts, InSquare}
use Rattle.rules.proofs.TilingLaws.{stripe_between, stripe_low_lem, stripe_low_most, within-stripe, square_along, box_along, corner_square, box_corner}
use Rattle.rules.proofs.CutLaws.{stripe-le, boxes_hold}
use Rattle.sound_clauses.specs.Loops.{rises_to}
use Rattle.sound_clauses.specs.Grid.{cuts_test, place_test, low_test, high_test, span_test, edges_test, holding, tile_test, stripes, holds_box, holding_box, tile_boxes_test}
use Rattle.sound_clauses.specs.Cells.{edges_of}
use Rattle.sound_clauses.proofs.LoopsLaws.{all_every, rises_numbers, numbers_rise}

-- ---- lists

module _ {A : Type 0} where
  pub all_ext : (p q : A → Bool) (l : List A) → Each (λ x. p x ≡ q x) l → all p l ≡ all q l
  unfolding all
  all_ext p q [] e = refl
  all_ext p q (x ∷ xs) e = ap₂ both e.0 (all_ext p q xs e.1)

  pub tab-Each : (P : A → Type 0) (n : ℕ) (f : ℕ → A) → ((i : ℕ) → i < n → P (f i)) → Each P (tab n f)
  unfolding tab
  tab-Each P zero f h = tt
  tab-Each P (suc n) f h = (h 0 (omega arith), tab-Each P n (λ k. f (suc k)) (λ i b. h (suc i) (omega arith)))

  pub concat-Each : (P : A → Type 0) (ls : List (List A)) → Each (Each P) ls → Each P (concat ls)
  unfolding concat
  concat-Each P [] e = tt
  concat-Each P (l ∷ ls) e = Each-append P l (concat ls) e.0 (concat-Each P ls e.1)

pub by_axis : (P : Axis → Type 0) → P eastward → P northward → (axis : Axis) → P axis
by_axis P e n eastward = e
by_axis P e n northward = n

-- ---- cuts

pub cuts_true : (cuts : List ℕ) → cuts_test cuts ≡ true → (length cuts ≤ max_cuts) × RisingCuts 0 cuts × Each (λ c. c ≤ last_metre) cuts
unfolding cuts_test
cuts_true cuts e =
    let r = rises_numbers last_metre 0 cuts (both_right (leb (length cuts) max_cuts) (rises_to last_metre 0 cuts) e) in
    (leb-true (length cuts) max_cuts (both_left (leb (length cuts) max_cuts) (rises_to last_metre 0 cuts) e), r.0, r.1)

pub true_cuts : (cuts : List ℕ) → length cuts ≤ max_cuts → RisingCuts 0 cuts → Each (λ c. c ≤ last_metre) cuts → cuts_test cuts ≡ true
unfolding cuts_test
true_cuts cuts h r e = both_intro (le-leb (length cuts) max_cuts h) (numbers_rise last_metre 0 cuts r e)

-- ---- places

pub place_true : (p : Place) → place_test p ≡ true → InSquare p
unfolding place_test
place_true p e = (
  leb-true p.east last_metre (both_left (leb p.east last_metre) (leb p.north last_metre) e),
  leb-true p.north last_metre (both_right (leb p.east last_metre) (leb p.north last_metre) e),
)

pub true_place : (p : Place) → InSquare p → place_test p ≡ true
unfolding place_test
true_place p h = both_intro (le-leb p.east last_metre h.0) (le-leb p.north last_metre h.1)

-- ---- edges, of one direction

low_true : (cuts : List ℕ) (x : ℕ) → low_test cuts x ≡ true → 1 ≤ count x (0 ∷ cuts)
unfolding low_test
low_true cuts x e =
    either_cases (eqb x 0) (ltb 0 (count x cuts)) e
    (λ t. omega (arith, count-cons x 0 cuts, ap one_if t))
    (λ t. omega (arith, count-cons x 0 cuts, ltb-true 0 (count x cuts) t))

true_low : (cuts : List ℕ) (x : ℕ) → 1 ≤ count x (0 ∷ cuts) → low_test cuts x ≡ true
unfolding low_test
true_low cuts x h =
    by_cases (eqb x 0)
    (λ t. either_left (ltb 0 (count x cuts)) t)
    (λ t. either_right (eqb x 0) (lt-ltb 0 (count x cuts) (omega (arith, count-cons x 0 cuts, ap one_if t))))

high_true : (cuts : List ℕ) (x : ℕ) → high_test cuts x ≡ true → 1 ≤ count (x + 1) ((last_metre + 1) ∷ cuts)
unfolding high_test
high_true cuts x e =
    either_cases (eqb x last_metre) (ltb 0 (count (x + 1) cuts)) e
    (λ t. omega (arith, count-cons (x + 1) (last_metre + 1) cuts, ap one_if (eq-eqb (x + 1) (last_metre + 1) (omega (arith, eqb-true x last_metre t)))))
    (λ t. omega (arith, count-cons (x + 1) (last_metre + 1) cuts, ltb-true 0 (count (x + 1) cuts) t))

true_high : (cuts : List ℕ) (x : ℕ) → 1 ≤ count (x + 1) ((last_metre + 1) ∷ cuts) → high_test cuts x ≡ true
unfolding high_test
true_high cuts x h =
    by_cases (eqb x last_metre)
    (λ t. either_left (ltb 0 (count (x + 1) cuts)) t)
    (λ t. either_right (eqb x last_metre) (lt-ltb 0 (count (x + 1) cuts)
    (omega (arith, count-cons (x + 1) (last_metre + 1) cuts, ap one_if (ne_eqb (x + 1) (last_metre + 1) (λ z. eqb-false x last_metre t (omega arith)))))))

pub span_true : (cuts : List ℕ) (s : Span) → span_test cuts s ≡ true → OnCuts cuts s
unfolding span_test
span_true cuts s e =
    let l = low_test cuts s.low in
    let h = high_test cuts s.high in
    let o = leb s.low s.high in
    record {
      low = low_true cuts s.low (both_left l h (both_left (both l h) o e));
      high = high_true cuts s.high (both_right l h (both_left (both l h) o e));
      order = leb-true s.low s.high (both_right (both l h) o e);
    }

pub true_span : (cuts : List ℕ) (s : Span) → OnCuts cuts s → span_test cuts s ≡ true
unfolding span_test
true_span cuts s o = both_intro (both_intro (true_low cuts s.low o.low) (true_high cuts s.high o.high)) (le-leb s.low s.high o.order)

-- ---- edges, of both

-- the rectangle is one of whole memory cells
abbrev pub WholeBoxes : Cuts → Rect → Type 0
WholeBoxes cuts r = (axis : Axis) → OnCuts (cuts_of axis cuts) (span_of axis r)

pub edges_true : (cuts : Cuts) (r : Rect) → edges_test cuts r ≡ true → WholeBoxes cuts r
unfolding edges_test
edges_true cuts r e =
    let east = span_test cuts.easts r.easts in
    let north = span_test cuts.norths r.norths in
    by_axis (λ a. OnCuts (cuts_of a cuts) (span_of a r))
    (span_true cuts.easts r.easts (both_left east north e))
    (span_true cuts.norths r.norths (both_right east north e))

pub true_edges : (cuts : Cuts) (r : Rect) → WholeBoxes cuts r → edges_test cuts r ≡ true
unfolding edges_test
true_edges cuts r o = both_intro (true_span cuts.easts r.easts (o eastward)) (true_span cuts.norths r.norths (o northward))

-- ---- tiling

-- of the cells' edges it is the count of the clause
pub holding_cells : (p : Place) (cells : List Cell) → holding p (edges_of cells) ≡ sum_by (λ c. one_if (inside c.edges p)) cells
unfolding holding
holding_cells p cells = sum-map (λ r. one_if (inside r p)) (λ c. c.edges) cells

-- places of one memory cell lie in the same rectangles
inside_same : (cuts : Cuts) (r : Rect) (p q : Place) → WholeBoxes cuts r → InSquare p → InSquare q → box_of cuts p ≡ box_of cuts q → inside r p ≡ inside r q
inside_same cuts r p q o h k e = ap₂ both (side eastward) (side northward)
  where
    side : (axis : Axis) → within (span_of axis r) (along axis p) ≡ within (span_of axis r) (along axis q)
    side axis = within-stripe (cuts_of axis cuts) (span_of axis r) (along axis p) (along axis q) (o axis) (square_along axis p h) (square_along axis q k) (box_along axis cuts p q e)

module _ (cuts : Cuts) (rects : List Rect) (end : (axis : Axis) → Each (λ c. c ≤ last_metre) (cuts_of axis cuts)) where
  pub true_tile : ((p : Place) → InSquare p → holding p rects ≡ 1) → tile_test cuts rects ≡ true
  unfolding tile_test
  true_tile h = all_every (λ m. eqb (holding (corner_of cuts m) rects) 1) (boxes cuts) (λ m. eq-eqb (holding (corner_of cuts m) rects) 1 (h (corner_of cuts m) (corner_square cuts m end)))

  module _ (rise : (axis : Axis) → RisingCuts 0 (cuts_of axis cuts)) (edged : Each (WholeBoxes cuts) rects) where
    holding_corner : (p : Place) → InSquare p → holding (corner_of cuts (box_of cuts p)) rects ≡ holding p rects
    unfolding holding
    holding_corner p s =
        let q = corner_of cuts (box_of cuts p) in
        sum-Each (λ r. one_if (inside r q)) (λ r. one_if (inside r p)) rects
        (Each_map (WholeBoxes cuts) (λ r. one_if (inside r q) ≡ one_if (inside r p)) rects
        (λ r o. ap one_if (inside_same cuts r q p o (corner_square cuts (box_of cuts p) end) s (box_corner cuts p rise))) edged)

    pub tile_true : tile_test cuts rects ≡ true → (p : Place) → InSquare p → holding p rects ≡ 1
    unfolding tile_test
    tile_true e p s =
        let each = all-Each (λ m. eqb (holding (corner_of cuts m) rects) 1) (λ m. holding (corner_of cuts m) rects ≡ 1) (boxes cuts)
        (λ m t. eqb-true (holding (corner_of cuts m) rects) 1 t) e in
        sym (holding_corner p s) ∙ boxes_hold (λ m. holding (corner_of cuts m) rects ≡ 1) cuts p each

-- ---- tiling by stripes

-- the memory cells have the stripes up to the number of cuts
boxes-Each : (P : Box → Type 0) (cuts : Cuts) → ((m : Box) → m.east ≤ length cuts.easts → m.north ≤ length cuts.norths → P m) → Each P (boxes cuts)
unfolding boxes
boxes-Each P cuts h =
    let row : ℕ → List Box = λ j. tab (suc (length cuts.easts)) (λ i. record { east = i; north = j }) in
    concat-Each P (tab (suc (length cuts.norths)) row)
    (tab-Each (Each P) (suc (length cuts.norths)) row (λ j k.
    tab-Each P (suc (length cuts.easts)) (λ i. record { east = i; north = j }) (λ i b. h (record { east = i; north = j }) (omega arith) (omega arith))))

module _ (cuts : List ℕ) (s : Span) (i : ℕ) (rise : RisingCuts 0 cuts) (end : Each (λ c. c ≤ last_metre) cuts) (on : OnCuts cuts s) (few : i ≤ length cuts) where
  -- the low edge is in stripe i or lower exactly if it is not above that stripe's least coordinate
  low-stripe : leb (stripe cuts s.low) i ≡ leb s.low (stripe_low cuts i)
  low-stripe =
      let y = stripe_low cuts i in
      let at = stripe_low_lem cuts i rise few in
      by_cases (leb s.low y)
      (λ t. le-leb (stripe cuts s.low) i (omega (arith, stripe-le cuts s.low y (leb-true s.low y t))) ∙ sym t)
      (λ t. let g = leb-false s.low y t in
      lt-leb (stripe cuts s.low) i
      (omega (arith, stripe_between cuts y s.low s.low g (omega arith), on.low, count-cons s.low 0 cuts, ap one_if (ne_eqb s.low 0 (omega arith)))) ∙ sym t)

  high-stripe : leb i (stripe cuts s.high) ≡ leb (stripe_low cuts i) s.high
  high-stripe =
      let y = stripe_low cuts i in
      let at = stripe_low_lem cuts i rise few in
      by_cases (leb y s.high)
      (λ t. le-leb i (stripe cuts s.high) (omega (arith, stripe-le cuts y s.high (leb-true y s.high t))) ∙ sym t)
      (λ t. let g = leb-false y s.high t in
      lt-leb i (stripe cuts s.high)
      (omega (
        arith,
        stripe_between cuts s.high (s.high + 1) y (omega arith) (omega arith),
        on.high,
        count-cons (s.high + 1) (last_metre + 1) cuts,
        ap one_if (ne_eqb (s.high + 1) (last_metre + 1) (omega (arith, stripe_low_most cuts i end))),
      )) ∙ sym t)

  within-stripes : within (stripes cuts s) i ≡ within s (stripe_low cuts i)
  within-stripes = ap₂ both low-stripe high-stripe

module _ (cuts : Cuts) (rects : List Rect) (end : (axis : Axis) → Each (λ c. c ≤ last_metre) (cuts_of axis cuts)) (rise : (axis : Axis) → RisingCuts 0 (cuts_of axis cuts))
    (edged : Each (WholeBoxes cuts) rects) where
  -- a rectangle holds the corner of just its own memory cells
  holds_corner : (m : Box) (r : Rect) → m.east ≤ length cuts.easts → m.north ≤ length cuts.norths → WholeBoxes cuts r → holds_box cuts m r ≡ inside r (corner_of cuts m)
  unfolding holds_box corner_of
  holds_corner m r h k o =
      ap₂ both
      (within-stripes cuts.easts r.easts m.east (rise eastward) (end eastward) (o eastward) h)
      (within-stripes cuts.norths r.norths m.north (rise northward) (end northward) (o northward) k)

  pub holding_boxes : (m : Box) → m.east ≤ length cuts.easts → m.north ≤ length cuts.norths → holding_box cuts m rects ≡ holding (corner_of cuts m) rects
  unfolding holding_box holding
  holding_boxes m h k =
      sum-Each (λ r. one_if (holds_box cuts m r)) (λ r. one_if (inside r (corner_of cuts m))) rects
      (Each_map (WholeBoxes cuts) (λ r. one_if (holds_box cuts m r) ≡ one_if (inside r (corner_of cuts m))) rects (λ r o. ap one_if (holds_corner m r h k o)) edged)

  pub tile_boxes : tile_boxes_test cuts rects ≡ tile_test cuts rects
  unfolding tile_boxes_test tile_test
  tile_boxes =
      all_ext (λ m. eqb (holding_box cuts m rects) 1) (λ m. eqb (holding (corner_of cuts m) rects) 1) (boxes cuts)
      (boxes-Each (λ m. eqb (holding_box cuts m rects) 1 ≡ eqb (holding (corner_of cuts m) rects) 1) cuts (λ m h k. ap (λ (n : ℕ). eqb n 1) (holding_boxes m h k)))
