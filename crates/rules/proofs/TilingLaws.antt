-- The cells tile the square and are whole memory cells: where a place and its memory cell lie, and that a flush, a split and a join keep the tiling.
use mathlib.Core.Path.{◌≡◌, refl, sym, ap, ap₂, ◌∙◌, subst}
use mathlib.Core.Bool.{true, false}
use mathlib.Core.List.{List, [], ◌∷◌, ◌++◌, map}
use Rattle.std.specs.Prelude.{None, Some}
use Prim.Native.Nat.{ℕ, zero, suc, ◌+◌, ◌≤◌, ◌<◌, min}
use native.Mathlib.Omega.{arith}
use native.Mathlib.Nat.{le_of_suc-le-suc, not-suc-le-zero}
use lib.Dec.{eqb, leb, ltb}
use lib.ListN.{length, get_or, length-map}
use borrow.Author.Tests.{le-leb, lt-leb, ltb-true, ltb-false, leb-true, leb-false, eqb-true, eqb-false, eq-eqb, ne_eqb}
use Rattle.terms.specs.Terms.{Place}
use Rattle.lists.specs.Sort.{sort_in}
use Rattle.lists.specs.Sums.{sum_by, filter, count}
use Rattle.lists.specs.Tests.{one_if, both, either, Each}
use Rattle.lists.specs.Among.{Among}
use Rattle.lists.proofs.Cases.{by_cases, option_cases, none-some, false-true, list_cases}
use Rattle.lists.proofs.AmongLaws.{Among_head, Among_tail, sum-Among}
use Rattle.lists.proofs.SortLaws.{sum-sort_in, Each-sort_in}
use Rattle.lists.proofs.SumsLaws.{sum_const, sum-Each, count_head, sum_middle, sum_one, sum_last, sum_last_two, length-sum, sum-map, sum-add-le, Each-count, count-cons, sum-nil, first_at_unused}
use Rattle.lists.proofs.TestsLaws.{both_intro, either_cases, Each_map, Each-append, Each_middle, Each-get_or_or, bool_ext, one_if-le}
use Rattle.rules.specs.Limits.{last_metre, max_cells, max_cuts}
use Rattle.rules.specs.Grid.{Axis, eastward, northward, along, across, Span, within, Rect, span_of, with_span, inside, square, Cuts, cuts_of, with_cuts_of, stripe, stripe_low, Box, box_of, corner_of}
use Rattle.rules.specs.Store.{Cell, fresh, cell_at, others}
use Rattle.rules.specs.Cut.{Cut, through}
use Rattle.rules.specs.Flush.{add_cut, unused_number, below, Side, lower, upper, beside, hull, joined_edges, smaller, low_edges, high_edges}
use Rattle.rules.specs.WellFormed.{RisingCuts, OnCuts, InSquare}
use Rattle.rules.specs.Parts.{Edged, Tiling}
use Rattle.rules.proofs.PlaceLaws.{within-true, within-low, within-high, inside-along, rect_parts, through-low, through-high, low_span, high_span, inside_cut, hull_same, hull_touch, below_spans, joined_span, joined_comm}

-- ---- one coordinate: stripes

below_cut : (x c y d : ℕ) → x < c → c ≤ y → one_if (leb d x) + one_if (eqb c d) ≤ one_if (leb d y)
below_cut x c y d h k =
    by_cases (leb d x)
    (λ t. let g = leb-true d x t in rw (t, ne_eqb c d (λ e. omega arith), le-leb d y (omega arith)) (omega arith))
    (λ t. by_cases (eqb c d) (λ u. rw (t, u, le-leb d y (omega (arith, eqb-true c d u))) (omega arith)) (λ u. rw (t, u) (omega arith)))

-- a cut between x and y makes the stripe greater
pub stripe_between : (cuts : List ℕ) (x c y : ℕ) → x < c → c ≤ y → stripe cuts x + count c cuts ≤ stripe cuts y
unfolding stripe
stripe_between cuts x c y h k = sum-add-le (λ d. one_if (leb d x)) (λ d. one_if (eqb c d)) (λ d. one_if (leb d y)) cuts (λ d. below_cut x c y d h k)

pub stripe_most : (cuts : List ℕ) (x : ℕ) → stripe cuts x ≤ length cuts
unfolding stripe sum_by
stripe_most [] x = omega arith
stripe_most (c ∷ cuts) x = by_cases (leb c x) (λ t. rw t (omega (arith, stripe_most cuts x))) (λ t. rw t (omega (arith, stripe_most cuts x)))

stripe_below : (cuts : List ℕ) (b x : ℕ) → RisingCuts b cuts → x ≤ b → stripe cuts x ≡ 0
unfolding stripe sum_by
stripe_below [] b x r h = refl
stripe_below (c ∷ cuts) b x r h = rw (lt-leb c x (omega arith)) (omega (arith, stripe_below cuts c x r.1 (omega arith)))

cut_above : (cuts : List ℕ) (b i : ℕ) → RisingCuts b cuts → i < length cuts → b < get_or cuts i 0
cut_above [] b i r h = absurd (not-suc-le-zero h)
cut_above (c ∷ cuts) b zero r h = r.0
cut_above (c ∷ cuts) b (suc i) r h = omega (arith, cut_above cuts c i r.1 (le_of_suc-le-suc h))

stripe_cut : (cuts : List ℕ) (b i : ℕ) → RisingCuts b cuts → i < length cuts → stripe cuts (get_or cuts i 0) ≡ suc i
unfolding stripe sum_by
stripe_cut [] b i r h = absurd (not-suc-le-zero h)
stripe_cut (c ∷ cuts) b zero r h = rw (le-leb c c (omega arith)) (omega (arith, stripe_below cuts c c r.1 (omega arith)))
stripe_cut (c ∷ cuts) b (suc i) r h =
    let h' = le_of_suc-le-suc h in
    rw (le-leb c (get_or cuts i 0) (omega (arith, cut_above cuts c i r.1 h'))) (omega (arith, stripe_cut cuts c i r.1 h'))

-- the least coordinate of a stripe lies in it
pub stripe_low_lem : (cuts : List ℕ) (i : ℕ) → RisingCuts 0 cuts → i ≤ length cuts → stripe cuts (stripe_low cuts i) ≡ i
unfolding stripe_low
stripe_low_lem cuts zero r h = stripe_below cuts 0 0 r (omega arith)
stripe_low_lem cuts (suc i) r h = stripe_cut cuts 0 i r h

pub stripe_low_most : (cuts : List ℕ) (i : ℕ) → Each (λ c. c ≤ last_metre) cuts → stripe_low cuts i ≤ last_metre
unfolding stripe_low
stripe_low_most cuts i e = Each-get_or_or (λ c. c ≤ last_metre) (0 ∷ cuts) i 0 (omega arith) (omega arith, e)

-- ---- one coordinate: a span on the cuts holds whole stripes

-- x lies on the side of w that its stripe lies on
low_reached : (cuts : List ℕ) (w x y : ℕ) → 1 ≤ count w (0 ∷ cuts) → stripe cuts x ≡ stripe cuts y → w ≤ x → w ≤ y
low_reached cuts w x y c e h =
    by_cases (ltb y w)
    (λ t. let g = ltb-true y w t in absurd (omega (arith, stripe_between cuts y w x g h, count-cons w 0 cuts, ap one_if (ne_eqb w 0 (omega arith)))))
    (λ t. ltb-false y w t)

high_reached : (cuts : List ℕ) (e x y : ℕ) → 1 ≤ count (e + 1) ((last_metre + 1) ∷ cuts) → stripe cuts x ≡ stripe cuts y → y ≤ last_metre → x ≤ e → y ≤ e
high_reached cuts e x y c s l h =
    by_cases (ltb e y)
    (λ t. let g = ltb-true e y t in
    absurd (omega (arith, stripe_between cuts x (e + 1) y (omega arith) (omega arith), count-cons (e + 1) (last_metre + 1) cuts, ap one_if (ne_eqb (e + 1) (last_metre + 1) (omega arith)))))
    (λ t. ltb-false e y t)

pub within-stripe : (cuts : List ℕ) (s : Span) (x y : ℕ) → OnCuts cuts s → x ≤ last_metre → y ≤ last_metre → stripe cuts x ≡ stripe cuts y → within s x ≡ within s y
within-stripe cuts s x y o h k e =
    bool_ext (within s x) (within s y)
    (λ t. within-true s y (low_reached cuts s.low x y o.low e (within-low s x t)) (high_reached cuts s.high x y o.high e k (within-high s x t)))
    (λ t. within-true s x (low_reached cuts s.low y x o.low (sym e) (within-low s y t)) (high_reached cuts s.high y x o.high (sym e) h (within-high s y t)))

-- the high edge is a metre of the square
pub high_most : (cuts : List ℕ) (s : Span) → Each (λ c. c ≤ last_metre) cuts → OnCuts cuts s → s.high ≤ last_metre
high_most cuts s e o =
    by_cases (eqb (s.high + 1) (last_metre + 1))
    (λ t. omega (arith, eqb-true (s.high + 1) (last_metre + 1) t))
    (λ t. omega (arith, Each-count (λ c. c ≤ last_metre) (s.high + 1) cuts e (omega (arith, o.high, count-cons (s.high + 1) (last_metre + 1) cuts, ap one_if t))))

-- ---- both coordinates: a cell is whole memory cells

pub square_along : (axis : Axis) (p : Place) → InSquare p → along axis p ≤ last_metre
square_along eastward p h = h.0
square_along northward p h = h.1

pub box_along : (axis : Axis) (cuts : Cuts) (p q : Place) → box_of cuts p ≡ box_of cuts q → stripe (cuts_of axis cuts) (along axis p) ≡ stripe (cuts_of axis cuts) (along axis q)
unfolding box_of
box_along eastward cuts p q e = ap (λ (m : Box). m.east) e
box_along northward cuts p q e = ap (λ (m : Box). m.north) e

pub box_eq : (cuts : Cuts) (p q : Place) → ((axis : Axis) → stripe (cuts_of axis cuts) (along axis p) ≡ stripe (cuts_of axis cuts) (along axis q)) → box_of cuts p ≡ box_of cuts q
unfolding box_of
box_eq cuts p q h = λ i. record { east = h eastward i; north = h northward i }

-- places of one memory cell lie in one cell
pub inside_box : (cuts : Cuts) (c : Cell) (p q : Place) → Edged cuts c → InSquare p → InSquare q → box_of cuts p ≡ box_of cuts q → inside c.edges p ≡ inside c.edges q
inside_box cuts c p q g h k e = ap₂ both (side eastward) (side northward)
  where
    side : (axis : Axis) → within (span_of axis c.edges) (along axis p) ≡ within (span_of axis c.edges) (along axis q)
    side axis =
        within-stripe (cuts_of axis cuts) (span_of axis c.edges) (along axis p) (along axis q) (g.edged axis) (square_along axis p h) (square_along axis q k)
        (box_along axis cuts p q e)

pub corner_square : (cuts : Cuts) (m : Box) → ((axis : Axis) → Each (λ c. c ≤ last_metre) (cuts_of axis cuts)) → InSquare (corner_of cuts m)
unfolding corner_of
corner_square cuts m e = (stripe_low_most cuts.easts m.east (e eastward), stripe_low_most cuts.norths m.north (e northward))

-- the corner of a place's memory cell lies in that memory cell
pub box_corner : (cuts : Cuts) (p : Place) → ((axis : Axis) → RisingCuts 0 (cuts_of axis cuts)) → box_of cuts (corner_of cuts (box_of cuts p)) ≡ box_of cuts p
unfolding corner_of box_of
box_corner cuts p r =
    let east = stripe_low_lem cuts.easts (stripe cuts.easts p.east) (r eastward) (stripe_most cuts.easts p.east) in
    let north = stripe_low_lem cuts.norths (stripe cuts.norths p.north) (r northward) (stripe_most cuts.norths p.north) in
    λ i. record { east = east i; north = north i }

pub inside_corner : (cuts : Cuts) (cells : List Cell) (c : Cell) (p : Place) → Tiling cuts cells → Edged cuts c → InSquare p → inside c.edges (corner_of cuts (box_of cuts p)) ≡ inside c.edges p
inside_corner cuts cells c p t g h =
    inside_box cuts c (corner_of cuts (box_of cuts p)) p g (corner_square cuts (box_of cuts p) t.cuts_end) h (box_corner cuts p t.cuts_rise)

pub inside_square : (cuts : Cuts) (c : Cell) (p : Place) → ((axis : Axis) → Each (λ x. x ≤ last_metre) (cuts_of axis cuts)) → Edged cuts c → inside c.edges p ≡ true → InSquare p
inside_square cuts c p e g t = (side eastward, side northward)
  where
    side : (axis : Axis) → along axis p ≤ last_metre
    side axis =
        let s = span_of axis c.edges in
        omega (arith, within-high s (along axis p) (inside-along axis c.edges p t), high_most (cuts_of axis cuts) s (e axis) (g.edged axis))

pub square-inside : (p : Place) → InSquare p → inside square p ≡ true
square-inside p h = both_intro (within-true square.easts p.east (omega arith) h.0) (within-true square.norths p.north (omega arith) h.1)

pub in_square : (p : Place) → inside square p ≡ true → InSquare p
in_square p t = (within-high square.easts p.east (inside-along eastward square p t), within-high square.norths p.north (inside-along northward square p t))

-- how many of the cells hold a place: one in the square, none outside it
pub apart : (cuts : Cuts) (cells : List Cell) → Tiling cuts cells → (p : Place) → sum_by (λ c. one_if (inside c.edges p)) cells ≤ 1
apart cuts cells t p =
    by_cases (inside square p)
    (λ s. omega (arith, t.tiled p (in_square p s)))
    (λ s. omega (
      arith,
      sum-Each (λ c. one_if (inside c.edges p)) (λ _. 0) cells (Each_map (Edged cuts) (λ c. one_if (inside c.edges p) ≡ 0) cells (outside s) t.cells_edged),
      sum_const 0 cells,
    ))
  where
    outside : inside square p ≡ false → (c : Cell) → Edged cuts c → one_if (inside c.edges p) ≡ 0
    outside s c g =
        by_cases (inside c.edges p)
        (λ u. let z = square-inside p (inside_square cuts c p t.cuts_end g u) in cc)
        (λ u. ap one_if u)

-- the cell that holds the corner of a memory cell holds every place of it
pub inside_home : (cuts : Cuts) (cells : List Cell) (c : Cell) (m : Box) (p : Place) → Tiling cuts cells → Edged cuts c → inside c.edges (corner_of cuts m) ≡ true → InSquare p → box_of cuts p ≡ m
    → inside c.edges p ≡ true
inside_home cuts cells c m p t g h s e = sym (inside_corner cuts cells c p t g s) ∙ ap (λ (b : Box). inside c.edges (corner_of cuts b)) e ∙ h

-- ---- finding a cell

pub cell_at_split : (cells : List Cell) (p : Place) (d : Cell) → cell_at cells p ≡ Some d → Among cells d × (inside d.edges p ≡ true)
unfolding cell_at
cell_at_split [] p d = none-some
cell_at_split (c ∷ cs) p d =
    by_cases (inside c.edges p)
    (λ t. rw t (λ e. let z : c ≡ d = cc in rw (← z) (Among_head c cs, t)))
    (λ t. rw t (λ e. let r = cell_at_split cs p d e in (Among_tail c r.0, r.1)))

cell_at-none : (cells : List Cell) (p : Place) → cell_at cells p ≡ None → sum_by (λ c. one_if (inside c.edges p)) cells ≡ 0
unfolding cell_at sum_by
cell_at-none [] p = λ e. refl
cell_at-none (c ∷ cs) p =
    by_cases (inside c.edges p)
    (λ t. rw t (λ e. none-some (sym e)))
    (λ t. rw t (λ e. omega (arith, cell_at-none cs p e)))

pub cell_at-some : (cuts : Cuts) (cells : List Cell) (p : Place) → Tiling cuts cells → InSquare p → (d : Cell) × (cell_at cells p ≡ Some d)
cell_at-some cuts cells p t h =
    option_cases (cell_at cells p)
    (λ e. absurd (omega (arith, cell_at-none cells p e, t.tiled p h)))
    (λ d e. (d, e))

-- the cell in which a memory cell lies
pub home_some : (cuts : Cuts) (cells : List Cell) (m : Box) → Tiling cuts cells → (d : Cell) × (cell_at cells (corner_of cuts m) ≡ Some d)
home_some cuts cells m t = cell_at-some cuts cells (corner_of cuts m) t (corner_square cuts m t.cuts_end)

-- so there is a cell
pub some_cell : {cuts : Cuts} {cells : List Cell} → Tiling cuts cells → 0 < length cells
some_cell {cells = cells} t =
    let corner : Place = record { east = 0; north = 0 } in
    let f : Cell → ℕ = λ c. one_if (inside c.edges corner) in
    list_cases cells
    (λ e. absurd (omega (arith, t.tiled corner (omega arith, omega arith), ap (sum_by f) e, sum-nil f)))
    (λ c cs e. omega (arith, ap length e))

pub Tiling-Among : {cuts : Cuts} {cells : List Cell} {d : Cell} (a : Among cells d) → Tiling cuts cells → Tiling cuts (a.before ++ (d ∷ a.after))
Tiling-Among {cuts = cuts} a t = subst (Tiling cuts) a.split t

-- ---- numbers of cells

-- whether a cell has the number
abbrev number_is : ℕ → Cell → ℕ
number_is n c = one_if (eqb n c.number)

pub count_numbers : (n : ℕ) (cells : List Cell) → count n (map (λ c. c.number) cells) ≡ sum_by (λ c. one_if (eqb n c.number)) cells
count_numbers n cells = sum-map (λ x. one_if (eqb n x)) (λ c. c.number) cells

others_none : (n : ℕ) (l : List Cell) → sum_by (number_is n) l ≡ 0 → others n l ≡ l
unfolding others filter sum_by
others_none n [] h = refl
others_none n (c ∷ cs) h =
    by_cases (eqb n c.number)
    (λ t. absurd (omega (arith, ap one_if t)))
    (λ t. rw t (ap (λ (l : List Cell). c ∷ l) (others_none n cs (omega arith))))

others_one : (n : ℕ) (us : List Cell) (d : Cell) (vs : List Cell) → eqb n d.number ≡ true → sum_by (number_is n) (us ++ (d ∷ vs)) ≤ 1 → others n (us ++ (d ∷ vs)) ≡ us ++ vs
unfolding others filter sum_by
others_one n [] d vs t h = rw t (others_none n vs (omega (arith, ap one_if t)))
others_one n (c ∷ us) d vs t h =
    by_cases (eqb n c.number)
    (λ e. absurd (omega (arith, sum_middle (number_is n) us d vs, ap one_if t, ap one_if e)))
    (λ e. rw e (ap (λ (l : List Cell). c ∷ l) (others_one n us d vs t (omega arith))))

-- the cell goes, and the others stay in their order
pub others_split : (us : List Cell) (d : Cell) (vs : List Cell) → ((n : ℕ) → count n (map (λ c. c.number) (us ++ (d ∷ vs))) ≤ 1) → others d.number (us ++ (d ∷ vs)) ≡ us ++ vs
others_split us d vs h =
    others_one d.number us d vs (eq-eqb d.number d.number refl) (omega (arith, h d.number, count_numbers d.number (us ++ (d ∷ vs))))

pub others-Among : (cells : List Cell) (d : Cell) (a : Among cells d) → ((n : ℕ) → count n (map (λ c. c.number) cells) ≤ 1) → others d.number cells ≡ a.before ++ a.after
others-Among cells d a h =
    ap (others d.number) a.split
    ∙ others_split a.before d a.after (subst (λ (l : List Cell). (n : ℕ) → count n (map (λ c. c.number) l) ≤ 1) a.split h)

-- what is left names each number once, too
pub round_others : (us : List Cell) (d : Cell) (vs : List Cell) → ((n : ℕ) → count n (map (λ c. c.number) (us ++ (d ∷ vs))) ≤ 1) → (n : ℕ) → count n (map (λ c. c.number) (us ++ vs)) ≤ 1
round_others us d vs h n = omega (arith, h n, count_numbers n (us ++ (d ∷ vs)), count_numbers n (us ++ vs), sum_middle (number_is n) us d vs)

-- ---- the same cells, a cell with other entries, in another order

abbrev holds_at : Place → Cell → ℕ
holds_at p c = one_if (inside c.edges p)

pub Tiling_keeps : (cuts : Cuts) (l m : List Cell) → Tiling cuts l → length m ≤ length l
    → ((p : Place) → sum_by (λ c. one_if (inside c.edges p)) m ≡ sum_by (λ c. one_if (inside c.edges p)) l)
    → ((n : ℕ) → sum_by (λ c. one_if (eqb n c.number)) m ≤ sum_by (λ c. one_if (eqb n c.number)) l)
    → Each (Edged cuts) m → Tiling cuts m
Tiling_keeps cuts l m t few held once edged = record {
  few_cells = omega (arith, few, t.few_cells);
  few_cuts = t.few_cuts;
  cuts_rise = t.cuts_rise;
  cuts_end = t.cuts_end;
  tiled = λ p s. held p ∙ t.tiled p s;
  cells_edged = edged;
  round = λ n. omega (arith, once n, t.round n, count_numbers n l, count_numbers n m);
}

pub Edged_same : (cuts : Cuts) (d d' : Cell) → d'.number ≡ d.number → d'.edges ≡ d.edges → Edged cuts d → Edged cuts d'
Edged_same cuts d d' n e g = record {
  numbered = omega (arith, n, g.numbered);
  edged = λ axis. subst (λ (r : Rect). OnCuts (cuts_of axis cuts) (span_of axis r)) (sym e) (g.edged axis);
}

-- d goes to the end, with other entries perhaps
pub Tiling_move : (cuts : Cuts) (us : List Cell) (d : Cell) (vs : List Cell) (d' : Cell) → Tiling cuts (us ++ (d ∷ vs)) → d'.number ≡ d.number → d'.edges ≡ d.edges
    → Tiling cuts ((us ++ vs) ++ (d' ∷ []))
Tiling_move cuts us d vs d' t n e =
    let g = Each_middle (Edged cuts) us d vs t.cells_edged in
    let same : (f : Cell → ℕ) → f d' ≡ f d → sum_by f ((us ++ vs) ++ (d' ∷ [])) ≡ sum_by f (us ++ (d ∷ vs)) = λ f h. omega (arith, h, sum_last f (us ++ vs) d', sum_middle f us d vs) in
    Tiling_keeps cuts (us ++ (d ∷ vs)) ((us ++ vs) ++ (d' ∷ [])) t
    (omega (arith, length-sum (us ++ (d ∷ vs)), length-sum ((us ++ vs) ++ (d' ∷ [])), same (λ _. 1) refl))
    (λ p. same (holds_at p) (ap (λ (r : Rect). one_if (inside r p)) e))
    (λ q. omega (arith, same (number_is q) (ap (λ (k : ℕ). one_if (eqb q k)) n)))
    (Each-append (Edged cuts) (us ++ vs) (d' ∷ []) g.1 (Edged_same cuts d d' n e g.0, tt))

-- ---- split: the cuts

pub record GoodCut (cuts : Cuts) (edges : Rect) (c : Cut) : Type 0 where
  -- some of the rectangle lies on each side
  pub crosses : through (span_of c.axis edges) c.at ≡ true
  -- "valid if it exists already or its direction has fewer than 15 cuts"
  pub valid : either (ltb 0 (count c.at (cuts_of c.axis cuts))) (ltb (length (cuts_of c.axis cuts)) max_cuts) ≡ true

rising_sort_in : (b x : ℕ) (l : List ℕ) → b < x → count x l ≡ 0 → RisingCuts b l → RisingCuts b (sort_in x l)
unfolding sort_in sum_by
rising_sort_in b x [] h n r = (h, tt)
rising_sort_in b x (y ∷ ys) h n r =
    by_cases (eqb x y)
    (λ e. absurd (omega (arith, ap one_if e)))
    (λ e. by_cases (leb x y)
    (λ t. rw t (h, (omega (arith, leb-true x y t, eqb-false x y e), r.1)))
    (λ t. rw t (r.0, rising_sort_in y x ys (leb-false x y t) (omega arith) r.1)))

-- what becomes of the cuts of one direction
added : (P : List ℕ → Type 0) (c : ℕ) (cuts : List ℕ) → P cuts → (count c cuts ≡ 0 → P (sort_in c cuts)) → P (add_cut c cuts)
unfolding add_cut
added P c cuts h k = by_cases (ltb 0 (count c cuts)) (λ t. rw t h) (λ t. rw t (k (omega (arith, ltb-false 0 (count c cuts) t))))

pub rising_add_cut : (c : ℕ) (cuts : List ℕ) → 0 < c → RisingCuts 0 cuts → RisingCuts 0 (add_cut c cuts)
rising_add_cut c cuts h r = added (RisingCuts 0) c cuts r (λ n. rising_sort_in 0 c cuts h n r)

pub Each-add_cut : (P : ℕ → Type 0) (c : ℕ) (cuts : List ℕ) → P c → Each P cuts → Each P (add_cut c cuts)
Each-add_cut P c cuts h e = added (Each P) c cuts e (λ _. Each-sort_in P c cuts h e)

-- no cut goes, and c is one of them
pub count-add_cut : (c x : ℕ) (cuts : List ℕ) → count x cuts ≤ count x (add_cut c cuts)
count-add_cut c x cuts = added (λ (l : List ℕ). count x cuts ≤ count x l) c cuts (omega arith) (λ _. omega (arith, sum-sort_in (λ y. one_if (eqb x y)) c cuts))

pub has_add_cut : (c : ℕ) (cuts : List ℕ) → 1 ≤ count c (add_cut c cuts)
unfolding add_cut
has_add_cut c cuts =
    by_cases (ltb 0 (count c cuts))
    (λ t. rw t (ltb-true 0 (count c cuts) t))
    (λ t. rw t (omega (arith, sum-sort_in (λ y. one_if (eqb c y)) c cuts, ap one_if (eq-eqb c c refl))))

pub length-add_cut : (c : ℕ) (cuts : List ℕ) → either (ltb 0 (count c cuts)) (ltb (length cuts) max_cuts) ≡ true → length cuts ≤ max_cuts → length (add_cut c cuts) ≤ max_cuts
unfolding add_cut
length-add_cut c cuts v h =
    by_cases (ltb 0 (count c cuts))
    (λ t. rw t h)
    (λ t. rw t (either_cases (ltb 0 (count c cuts)) (ltb (length cuts) max_cuts) v
    (λ e. false-true (sym t ∙ e))
    (λ e. omega (arith, ltb-true (length cuts) max_cuts e, length-sum cuts, length-sum (sort_in c cuts), sum-sort_in (λ _. 1) c cuts))))

-- a fact of both directions, after one of them has changed
pub with_cuts : (P : Axis → List ℕ → Type 0) (axis : Axis) (l : List ℕ) (cuts : Cuts) → P axis l → ((a : Axis) → P a (cuts_of a cuts)) → (a : Axis) → P a (cuts_of a (with_cuts_of axis l cuts))
with_cuts P eastward l cuts h k eastward = h
with_cuts P eastward l cuts h k northward = k northward
with_cuts P northward l cuts h k eastward = k eastward
with_cuts P northward l cuts h k northward = h

with_span_lem : (P : Axis → Span → Type 0) (axis : Axis) (s : Span) (r : Rect) → P axis s → ((a : Axis) → P a (span_of a r)) → (a : Axis) → P a (span_of a (with_span axis s r))
with_span_lem P eastward s r h k eastward = h
with_span_lem P eastward s r h k northward = k northward
with_span_lem P northward s r h k eastward = k eastward
with_span_lem P northward s r h k northward = h

-- the cuts once c is made
abbrev pub cuts_with : Cut → Cuts → Cuts
cuts_with c cuts = with_cuts_of c.axis (add_cut c.at (cuts_of c.axis cuts)) cuts

pub count-cuts_with : (c : Cut) (cuts : Cuts) (axis : Axis) (x : ℕ) → count x (cuts_of axis cuts) ≤ count x (cuts_of axis (cuts_with c cuts))
count-cuts_with c cuts axis x =
    with_cuts (λ a l. count x (cuts_of a cuts) ≤ count x l) c.axis (add_cut c.at (cuts_of c.axis cuts)) cuts (count-add_cut c.at x (cuts_of c.axis cuts)) (λ a. omega arith) axis

pub has_cuts_with : (c : Cut) (cuts : Cuts) → 1 ≤ count c.at (cuts_of c.axis (cuts_with c cuts))
has_cuts_with c cuts = subst (λ (l : List ℕ). 1 ≤ count c.at l) (sym (cuts_of_same c.axis (add_cut c.at (cuts_of c.axis cuts)) cuts)) (has_add_cut c.at (cuts_of c.axis cuts))
  where
    cuts_of_same : (axis : Axis) (l : List ℕ) (k : Cuts) → cuts_of axis (with_cuts_of axis l k) ≡ l
    cuts_of_same eastward l k = refl
    cuts_of_same northward l k = refl

-- ---- split: the edges

pub OnCuts_more : (cuts cuts' : List ℕ) (s : Span) → ((x : ℕ) → count x cuts ≤ count x cuts') → OnCuts cuts s → OnCuts cuts' s
OnCuts_more cuts cuts' s h o = record {
  low = omega (arith, o.low, h s.low, count-cons s.low 0 cuts, count-cons s.low 0 cuts');
  high = omega (arith, o.high, h (s.high + 1), count-cons (s.high + 1) (last_metre + 1) cuts, count-cons (s.high + 1) (last_metre + 1) cuts');
  order = o.order;
}

pub Edged_more : (c : Cut) (cuts : Cuts) (d : Cell) → Edged cuts d → Edged (cuts_with c cuts) d
Edged_more c cuts d g = record {
  numbered = g.numbered;
  edged = λ axis. OnCuts_more (cuts_of axis cuts) (cuts_of axis (cuts_with c cuts)) (span_of axis d.edges) (count-cuts_with c cuts axis) (g.edged axis);
}

OnCuts_low : (cuts : List ℕ) (s : Span) (c : ℕ) → OnCuts cuts s → through s c ≡ true → 1 ≤ count c cuts → OnCuts cuts (low_span s c)
OnCuts_low cuts s c o t h =
    let k = through-low s c t in
    record {
      low = o.low;
      high = subst (λ (x : ℕ). 1 ≤ count x ((last_metre + 1) ∷ cuts)) {x = c} (omega arith) (omega (arith, count-cons c (last_metre + 1) cuts));
      order = omega arith;
    }

OnCuts_high : (cuts : List ℕ) (s : Span) (c : ℕ) → OnCuts cuts s → through s c ≡ true → 1 ≤ count c cuts → OnCuts cuts (high_span s c)
OnCuts_high cuts s c o t h = record { low = omega (arith, count-cons c 0 cuts); high = o.high; order = through-high s c t }

-- a cell with the edges of d, but for another span in one direction
Edged_span : (cuts : Cuts) (d l : Cell) (axis : Axis) (s : Span) → Edged cuts d → l.number < max_cells → l.edges ≡ with_span axis s d.edges → OnCuts (cuts_of axis cuts) s → Edged cuts l
Edged_span cuts d l axis s g n e o = record {
  numbered = n;
  edged = λ a. subst (λ (r : Rect). OnCuts (cuts_of a cuts) (span_of a r)) (sym e) (with_span_lem (λ b t. OnCuts (cuts_of b cuts) t) axis s d.edges o g.edged a);
}

-- ---- split: the unused number

pub unused_number_lem : (cells : List Cell) → length cells < max_cells → (unused_number cells < max_cells) × (count (unused_number cells) (map (λ c. c.number) cells) ≡ 0)
unfolding unused_number
unused_number_lem cells h =
    let r = first_at_unused max_cells (map (λ c. c.number) cells) (omega (arith, length-map cells (λ c. c.number))) in
    rw r.1 (r.2, r.3)

-- ---- split: the tiling

module _ (cuts : Cuts) (us : List Cell) (d : Cell) (vs : List Cell) (c : Cut) (t : Tiling cuts (us ++ (d ∷ vs))) (g : GoodCut cuts d.edges c) where
  split_Edged : Edged cuts d
  split_Edged = (Each_middle (Edged cuts) us d vs t.cells_edged).0

  split_most : c.at ≤ last_metre
  split_most =
      let s = span_of c.axis d.edges in
      omega (arith, through-high s c.at g.crosses, high_most (cuts_of c.axis cuts) s (t.cuts_end c.axis) (split_Edged.edged c.axis))

  -- the new cuts keep to the limits
  split_few : (axis : Axis) → length (cuts_of axis (cuts_with c cuts)) ≤ max_cuts
  split_few =
      with_cuts (λ a l. length l ≤ max_cuts) c.axis (add_cut c.at (cuts_of c.axis cuts)) cuts
      (length-add_cut c.at (cuts_of c.axis cuts) g.valid (t.few_cuts c.axis))
      t.few_cuts

  split_rise : (axis : Axis) → RisingCuts 0 (cuts_of axis (cuts_with c cuts))
  split_rise =
      with_cuts (λ a l. RisingCuts 0 l) c.axis (add_cut c.at (cuts_of c.axis cuts)) cuts
      (rising_add_cut c.at (cuts_of c.axis cuts) (omega (arith, through-low (span_of c.axis d.edges) c.at g.crosses)) (t.cuts_rise c.axis))
      t.cuts_rise

  split_end : (axis : Axis) → Each (λ x. x ≤ last_metre) (cuts_of axis (cuts_with c cuts))
  split_end =
      with_cuts (λ a l. Each (λ x. x ≤ last_metre) l) c.axis (add_cut c.at (cuts_of c.axis cuts)) cuts
      (Each-add_cut (λ x. x ≤ last_metre) c.at (cuts_of c.axis cuts) split_most (t.cuts_end c.axis))
      t.cuts_end

  module _ (l h : Cell) (few : length (us ++ (d ∷ vs)) < max_cells) (ln : l.number ≡ d.number) (le : l.edges ≡ low_edges c d.edges)
      (hn : h.number ≡ unused_number (us ++ (d ∷ vs))) (he : h.edges ≡ high_edges c d.edges) where
    split_low : Edged (cuts_with c cuts) l
    split_low =
        let g' = Edged_more c cuts d split_Edged in
        let s = span_of c.axis d.edges in
        Edged_span (cuts_with c cuts) d l c.axis (low_span s c.at) g' (omega (arith, ln, g'.numbered)) le
        (OnCuts_low (cuts_of c.axis (cuts_with c cuts)) s c.at (g'.edged c.axis) g.crosses (has_cuts_with c cuts))

    split_high : Edged (cuts_with c cuts) h
    split_high =
        let g' = Edged_more c cuts d split_Edged in
        let s = span_of c.axis d.edges in
        Edged_span (cuts_with c cuts) d h c.axis (high_span s c.at) g' (omega (arith, hn, (unused_number_lem (us ++ (d ∷ vs)) few).0)) he
        (OnCuts_high (cuts_of c.axis (cuts_with c cuts)) s c.at (g'.edged c.axis) g.crosses (has_cuts_with c cuts))

    split_held : (p : Place) → sum_by (holds_at p) ((us ++ vs) ++ (l ∷ h ∷ [])) ≡ sum_by (holds_at p) (us ++ (d ∷ vs))
    split_held p =
        omega (
          arith,
          sum_last_two (holds_at p) (us ++ vs) l h,
          sum_middle (holds_at p) us d vs,
          inside_cut c d.edges p g.crosses,
          ap (λ (r : Rect). one_if (inside r p)) le,
          ap (λ (r : Rect). one_if (inside r p)) he,
        )

    split_round : (n : ℕ) → sum_by (number_is n) ((us ++ vs) ++ (l ∷ h ∷ [])) ≤ 1
    split_round n =
        let unused = (unused_number_lem (us ++ (d ∷ vs)) few).1 in
        let low = ap (λ (k : ℕ). one_if (eqb n k)) ln in
        by_cases (eqb n h.number)
        (λ e. let z : n ≡ unused_number (us ++ (d ∷ vs)) = eqb-true n h.number e ∙ hn in
        omega (
          arith,
          sum_last_two (number_is n) (us ++ vs) l h,
          sum_middle (number_is n) us d vs,
          count_numbers n (us ++ (d ∷ vs)),
          ap (λ (k : ℕ). count k (map (λ x. x.number) (us ++ (d ∷ vs)))) z,
          unused,
          low,
          ap one_if e,
        ))
        (λ e. omega (
          arith,
          sum_last_two (number_is n) (us ++ vs) l h,
          sum_middle (number_is n) us d vs,
          count_numbers n (us ++ (d ∷ vs)),
          t.round n,
          low,
          ap one_if e,
        ))

    -- d is cut in two: the low side with its number, the other with the unused one
    pub Tiling_split : Tiling (cuts_with c cuts) ((us ++ vs) ++ (l ∷ h ∷ []))
    Tiling_split = record {
      few_cells =
          omega (arith, few, length-sum (us ++ (d ∷ vs)), length-sum ((us ++ vs) ++ (l ∷ h ∷ [])), sum_middle (λ _. 1) us d vs, sum_last_two (λ _. 1) (us ++ vs) l h);
      few_cuts = split_few;
      cuts_rise = split_rise;
      cuts_end = split_end;
      tiled = λ p s. split_held p ∙ t.tiled p s;
      cells_edged =
          Each-append (Edged (cuts_with c cuts)) (us ++ vs) (l ∷ h ∷ [])
          (Each_map (Edged cuts) (Edged (cuts_with c cuts)) (us ++ vs) (Edged_more c cuts) (Each_middle (Edged cuts) us d vs t.cells_edged).1)
          (split_low, (split_high, tt));
      round = λ n. omega (arith, split_round n, count_numbers n ((us ++ vs) ++ (l ∷ h ∷ [])));
    }

-- ---- join

-- each place of the joined rectangle lies in one of the two
inside-below : (cuts : Cuts) (axis : Axis) (d n : Cell) (p : Place) → Edged cuts d → Edged cuts n → below axis d.edges n.edges ≡ true
    → one_if (inside (joined_edges d.edges n.edges) p) ≡ one_if (inside d.edges p) + one_if (inside n.edges p)
inside-below cuts axis d n p g f b =
    let r = d.edges in
    let s = n.edges in
    let q = below_spans axis r s b in
    let whole = joined_span (across axis) r s ∙ hull_same (span_of (across axis) r) (span_of (across axis) s) q.1 in
    rect_parts axis (joined_edges r s) r s p
    (rw (joined_span axis r s) (hull_touch (span_of axis r) (span_of axis s) (along axis p) (g.edged axis).order (f.edged axis).order q.0))
    (sym whole)
    (sym q.1 ∙ sym whole)

pub inside_joined : (cuts : Cuts) (side : Side) (d n : Cell) (p : Place) → Edged cuts d → Edged cuts n → beside side d.edges n.edges ≡ true
    → one_if (inside (joined_edges d.edges n.edges) p) ≡ one_if (inside d.edges p) + one_if (inside n.edges p)
inside_joined cuts (lower axis) d n p g f b = omega (arith, inside-below cuts axis n d p f g b, ap (λ (r : Rect). one_if (inside r p)) (joined_comm d.edges n.edges))
inside_joined cuts (upper axis) d n p g f b = inside-below cuts axis d n p g f b

OnCuts-hull : (cuts : List ℕ) (s t : Span) → OnCuts cuts s → OnCuts cuts t → OnCuts cuts (hull s t)
OnCuts-hull cuts s t o q = record {
  low =
      by_cases (leb s.low t.low)
      (λ e. let k = leb-true s.low t.low e in subst (λ (x : ℕ). 1 ≤ count x (0 ∷ cuts)) {x = s.low} (omega arith) o.low)
      (λ e. let k = leb-false s.low t.low e in subst (λ (x : ℕ). 1 ≤ count x (0 ∷ cuts)) {x = t.low} (omega arith) q.low);
  high =
      by_cases (leb s.high t.high)
      (λ e. let k = leb-true s.high t.high e in subst (λ (x : ℕ). 1 ≤ count (x + 1) ((last_metre + 1) ∷ cuts)) {x = t.high} (omega arith) q.high)
      (λ e. let k = leb-false s.high t.high e in subst (λ (x : ℕ). 1 ≤ count (x + 1) ((last_metre + 1) ∷ cuts)) {x = s.high} (omega arith) o.high);
  order = omega (arith, o.order);
}

pub Edged_joined : (cuts : Cuts) (d n j : Cell) → Edged cuts d → Edged cuts n → j.number ≡ min d.number n.number → j.edges ≡ joined_edges d.edges n.edges → Edged cuts j
Edged_joined cuts d n j g f k e = record {
  numbered = omega (arith, k, g.numbered);
  edged = λ axis. subst (λ (s : Span). OnCuts (cuts_of axis cuts) s) (sym (ap (span_of axis) e ∙ joined_span axis d.edges n.edges))
      (OnCuts-hull (cuts_of axis cuts) (span_of axis d.edges) (span_of axis n.edges) (g.edged axis) (f.edged axis));
}

-- "The smaller number survives"
pub smaller-number : (d n : Cell) → (smaller d n).number ≡ min d.number n.number
smaller-number d n =
    by_cases (ltb d.number n.number)
    (λ t. let h = ltb-true d.number n.number t in rw t (omega arith))
    (λ t. let h = ltb-false d.number n.number t in rw t (omega arith))

smaller_counted : (q d n j : ℕ) → j ≡ min d n → one_if (eqb q j) ≤ one_if (eqb q d) + one_if (eqb q n)
smaller_counted q d n j e =
    by_cases (leb d n)
    (λ t. let h = leb-true d n t in let z : j ≡ d = omega arith in omega (arith, ap (λ (k : ℕ). one_if (eqb q k)) z))
    (λ t. let h = leb-false d n t in let z : j ≡ n = omega arith in omega (arith, ap (λ (k : ℕ). one_if (eqb q k)) z))

-- d and n, which stands among the others, go, and the joined cell goes to the end
pub Tiling_join : (cuts : Cuts) (us : List Cell) (d : Cell) (vs : List Cell) (n j : Cell) (a : Among (us ++ vs) n) (side : Side) → Tiling cuts (us ++ (d ∷ vs)) → beside side d.edges n.edges ≡ true
    → j.number ≡ min d.number n.number → j.edges ≡ joined_edges d.edges n.edges → Tiling cuts ((a.before ++ a.after) ++ (j ∷ []))
Tiling_join cuts us d vs n j a side t b k e =
    let old = us ++ (d ∷ vs) in
    let rest = a.before ++ a.after in
    let new = rest ++ (j ∷ []) in
    let g = Each_middle (Edged cuts) us d vs t.cells_edged in
    let f = Each_middle (Edged cuts) a.before n a.after (subst (Each (Edged cuts)) a.split g.1) in
    let before : (w : Cell → ℕ) → sum_by w old ≡ w d + w n + sum_by w rest = λ w. omega (arith, sum_middle w us d vs, sum-Among w a) in
    let after : (w : Cell → ℕ) → sum_by w new ≡ sum_by w rest + w j = λ w. sum_last w rest j in
    Tiling_keeps cuts old new t
    (omega (arith, length-sum old, length-sum new, before (λ _. 1), after (λ _. 1)))
    (λ p. omega (arith, before (holds_at p), after (holds_at p), inside_joined cuts side d n p g.0 f.0 b, ap (λ (r : Rect). one_if (inside r p)) e))
    (λ q. omega (arith, before (number_is q), after (number_is q), smaller_counted q d.number n.number j.number k))
    (Each-append (Edged cuts) rest (j ∷ []) f.1 (Edged_joined cuts d n j g.0 f.0 k e, tt))

-- ---- a fresh store

by_axis : (P : Axis → Type 0) → P eastward → P northward → (axis : Axis) → P axis
by_axis P e n eastward = e
by_axis P e n northward = n

whole_span : OnCuts [] square.easts
whole_span = record { low = count_head 0 []; high = count_head (last_metre + 1) []; order = omega arith }

pub Tiling-fresh : Tiling fresh.cuts fresh.cells
unfolding fresh
Tiling-fresh =
    let none_yet : Cuts = record { easts = []; norths = [] } in
    let whole : Cell = record { number = 0; edges = square; chain = 0 ∷ []; entries = [] } in
    record {
      few_cells = omega arith;
      few_cuts = by_axis (λ a. length (cuts_of a none_yet) ≤ max_cuts) (omega arith) (omega arith);
      cuts_rise = by_axis (λ a. RisingCuts 0 (cuts_of a none_yet)) tt tt;
      cuts_end = by_axis (λ a. Each (λ x. x ≤ last_metre) (cuts_of a none_yet)) tt tt;
      tiled = λ p s. omega (arith, sum_one (holds_at p) whole, ap one_if (square-inside p s));
      cells_edged = (record { numbered = omega arith; edged = by_axis (λ a. OnCuts (cuts_of a none_yet) (span_of a square)) whole_span whole_span }, tt);
      round = λ n. omega (arith, count_numbers n (whole ∷ []), sum_one (number_is n) whole, one_if-le (eqb n 0));
    }
