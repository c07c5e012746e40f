-- The choice of the cut keeps to the limits; what a new cut and a flush do to the memory cells and the reports that wait in them; a flush keeps the tiling.
use mathlib.Core.Path.{◌≡◌, refl, sym, ap, ◌∙◌, subst}
use mathlib.Core.Bool.{Bool, true, false, not}
use mathlib.Core.List.{List, [], ◌∷◌, ◌++◌, map}
use Rattle.std.specs.Prelude.{Option, None, Some}
use Prim.Native.Nat.{ℕ, suc, ◌+◌, ◌/◌, ◌≤◌, ◌<◌}
use native.Mathlib.Omega.{arith}
use native.Mathlib.Nat.{not-suc-le-zero}
use lib.Dec.{eqb, leb, ltb}
use lib.ListN.{length, get_or}
use borrow.Author.Tests.{lt-ltb, le-ltb, le-leb, ltb-true, ltb-false, leb-true, leb-false, eqb-true, eqb-false, eq-eqb}
use Rattle.terms.specs.Terms.{Place, Fix, page_entries}
use Rattle.lists.specs.Parts.{tab}
use Rattle.lists.specs.Rows.{Row, Rows, Rising, find, alter, count_found}
use Rattle.lists.specs.Sort.{sort_in, sort}
use Rattle.lists.specs.Sums.{filter, count}
use Rattle.lists.specs.Tests.{one_if, either, or_else, Each, best}
use Rattle.lists.proofs.Cases.{by_cases, option_cases, list_cases, none-some, or_else_cases}
use Rattle.lists.proofs.RowsLaws.{sum-alter}
use Rattle.lists.proofs.SortLaws.{length-sort, count-sort, Sorted-sort, Sorted_order, below_length, first_above-some, sum-sort_in}
use Rattle.lists.proofs.SumsLaws.{sum-cons, sum_const, sum-le, sum-filter, sum-filter_ext, length-filter, length-filter-not, count_at, Each-count, any_cases, Each_counted}
use Rattle.lists.proofs.TestsLaws.{both_left, both_right, both_intro, either_left, Each_map, Each-append, best_holds, best_none_better, not-true, Each-filter, concat-Each, Each-tab, Each_over_map}
use Rattle.rules.specs.Limits.{max_cells, max_cuts, full_box, full_memory}
use Rattle.rules.specs.Grid.{Axis, eastward, northward, along, across, Span, within, Rect, span_of, inside, Cuts, cuts_of, stripe, Box, same_box, box_of, boxes}
use Rattle.rules.specs.Store.{Report, Cell, Store}
use Rattle.rules.specs.Cut.{Cut, through, cuts_through, fits, difference, existing_cut, median, valid_at, median_cut, longer_side, chosen_cut}
use Rattle.rules.specs.Flush.{in_box, Flushed, flushed_into, grown, add_cut, split_at, neighbour, joined_with, reshaped, cell_of_box, flush}
use Rattle.rules.specs.Carry.{most_of, box_to_flush, waiting_in}
use Rattle.rules.proofs.TilingLaws.{stripe_most, box_eq, box_along, with_cuts, GoodCut, cuts_with}
use Rattle.rules.proofs.PlaceLaws.{within-low, within-high, inside-along}

-- ---- the choice: an existing cut

through_good : (axis : Axis) (cuts : Cuts) (edges : Rect) → Each (GoodCut cuts edges) (cuts_through axis cuts edges)
unfolding cuts_through
through_good axis cuts edges =
    let l = cuts_of axis cuts in
    Each_over_map (GoodCut cuts edges) (λ c. record { axis = axis; at = c }) (filter (through (span_of axis edges)) l)
    (Each-filter _ _ (through (span_of axis edges)) l (λ x n t. record { crosses = t; valid = either_left (ltb (length l) max_cuts) (lt-ltb 0 (count x l) n) }) (Each_counted l))

existing_good : (cuts : Cuts) (edges : Rect) (es : Rows Fix) (c : Cut) → existing_cut cuts edges es ≡ Some c → GoodCut cuts edges c
unfolding existing_cut
existing_good cuts edges es c =
    let east = cuts_through eastward cuts edges in
    let north = cuts_through northward cuts edges in
    let all = east ++ north in
    let good : Each (GoodCut cuts edges) (filter (fits es) all) =
    Each-filter _ _ (fits es) all (λ x g _. g) (Each-append (GoodCut cuts edges) east north (through_good eastward cuts edges) (through_good northward cuts edges)) in
    list_cases (filter (fits es) all)
    (λ n. rw n none-some)
    (λ x xs n.
    let h = subst (Each (GoodCut cuts edges)) n good in
    let better : Cut → Cut → Bool = λ y z. ltb (difference es y) (difference es z) in
    rw n (λ e. let z : best better x xs ≡ c = cc in subst (GoodCut cuts edges) z (best_holds (GoodCut cuts edges) better x xs h.0 h.1)))

-- ---- the choice: a median

-- the median is present, and greater than the least
pub median-some : (l : List ℕ) (x : ℕ) → median l ≡ Some x → (get_or (sort l) 0 0 < x) × (1 ≤ count x l)
unfolding median
median-some l x =
    let s = sort l in
    by_cases (eqb (get_or s (length l / 2) 0) (get_or s 0 0))
    (λ t. rw t (λ e. let r = first_above-some (get_or s 0 0) x s e in (r.0, omega (arith, r.1, count-sort x l))))
    (λ t. rw t (λ e.
    let z : get_or s (length l / 2) 0 ≡ x = cc in
    let some_stand : 0 < length l = list_cases l (λ n. absurd (eqb-false (get_or s (length l / 2) 0) (get_or s 0 0) t (empty n))) (λ y ys n. omega (arith, ap length n)) in
    let half : length l / 2 < length s = omega (arith, length-sort l) in (
      omega (arith, z, eqb-false (get_or s (length l / 2) 0) (get_or s 0 0) t, Sorted_order 0 s 0 (length l / 2) (Sorted-sort l) (omega arith) half),
      omega (arith, count-sort x l, count_at s (length l / 2) half, ap (λ (y : ℕ). count y s) z),
    )))
  where
    empty : l ≡ [] → get_or (sort l) (length l / 2) 0 ≡ get_or (sort l) 0 0
    empty n = rw n

valid_at-some : (axis : Axis) (cuts : Cuts) (o : Option ℕ) (c : Cut) → valid_at axis cuts o ≡ Some c
    → (x : ℕ) × (o ≡ Some x) × (record { axis = axis; at = x } ≡ c) × (either (ltb 0 (count x (cuts_of axis cuts))) (ltb (length (cuts_of axis cuts)) max_cuts) ≡ true)
valid_at-some axis cuts None c = none-some
valid_at-some axis cuts (Some x) c =
    by_cases (either (ltb 0 (count x (cuts_of axis cuts))) (ltb (length (cuts_of axis cuts)) max_cuts))
    (λ t. rw t (λ e. let z : record { axis = axis; at = x } ≡ c = cc in (x, refl, z, t)))
    (λ t. rw t none-some)

-- where every coordinate lies within a span, the median cuts it
median-through : (s : Span) (l : List ℕ) (x : ℕ) → Each (λ y. within s y ≡ true) l → median l ≡ Some x → through s x ≡ true
median-through s l x h e =
    let r = median-some l x e in
    let least = get_or (sort l) 0 0 in
    let stand : 0 < length l = omega (arith, below_length x l r.1) in
    let lowest = within-low s least (Each-count (λ y. within s y ≡ true) least l h (omega (arith, count-sort least l, count_at (sort l) 0 (omega (arith, length-sort l))))) in
    let highest = within-high s x (Each-count (λ y. within s y ≡ true) x l h r.1) in
    both_intro (lt-ltb s.low x (omega (arith, lowest, r.0))) (le-leb x s.high highest)

median_good : (axis : Axis) (cuts : Cuts) (edges : Rect) (es : Rows Fix) (c : Cut) → Each (λ e. inside edges e.val.place ≡ true) es → median_cut axis cuts es ≡ Some c → GoodCut cuts edges c
unfolding median_cut
median_good axis cuts edges es c h e =
    let l = map (λ (w : Row Fix). along axis w.val.place) es in
    let s = span_of axis edges in
    let r = valid_at-some axis cuts (median l) c e in
    let held = Each_over_map (λ y. within s y ≡ true) (λ (w : Row Fix). along axis w.val.place) es
    (Each_map (λ w. inside edges w.val.place ≡ true) (λ w. within s (along axis w.val.place) ≡ true) es (λ w t. inside-along axis edges w.val.place t) h) in
    subst (GoodCut cuts edges) r.2 (record { crosses = median-through s l r.0 held r.1; valid = r.3 })

pub chosen_good : (cuts : Cuts) (edges : Rect) (es : Rows Fix) (c : Cut) → Each (λ e. inside edges e.val.place ≡ true) es → chosen_cut cuts edges es ≡ Some c → GoodCut cuts edges c
unfolding chosen_cut
chosen_good cuts edges es c h e =
    let one = median_cut (longer_side edges) cuts es in
    let two = median_cut (across (longer_side edges)) cuts es in
    or_else_cases (existing_cut cuts edges es) (or_else one two) c e
    (existing_good cuts edges es c)
    (λ f. or_else_cases one two c f (median_good (longer_side edges) cuts edges es c h) (median_good (across (longer_side edges)) cuts edges es c h))

-- ---- memory cells: a new cut makes them finer

reached_le : (c x y : ℕ) → x ≤ y → one_if (leb c x) ≤ one_if (leb c y)
reached_le c x y h = by_cases (leb c x) (λ t. let g = leb-true c x t in rw (t, le-leb c y (omega arith)) (omega arith)) (λ t. rw t (omega arith))

pub stripe-le : (cuts : List ℕ) (x y : ℕ) → x ≤ y → stripe cuts x ≤ stripe cuts y
unfolding stripe
stripe-le cuts x y h = sum-le (λ c. one_if (leb c x)) (λ c. one_if (leb c y)) cuts (λ c. reached_le c x y h)

stripe-sort_in : (c : ℕ) (cuts : List ℕ) (x : ℕ) → stripe (sort_in c cuts) x ≡ one_if (leb c x) + stripe cuts x
unfolding stripe
stripe-sort_in c cuts x = sum-sort_in (λ d. one_if (leb d x)) c cuts

-- both parts of the sum rise with x, so they are equal where the sums are
stripe_finer : (c : ℕ) (cuts : List ℕ) (x y : ℕ) → stripe (add_cut c cuts) x ≡ stripe (add_cut c cuts) y → stripe cuts x ≡ stripe cuts y
unfolding add_cut
stripe_finer c cuts x y =
    by_cases (ltb 0 (count c cuts))
    (λ t. rw t (λ e. e))
    (λ t. rw t (λ e. by_cases (leb x y)
    (λ h. let g = leb-true x y h in omega (arith, e, stripe-sort_in c cuts x, stripe-sort_in c cuts y, stripe-le cuts x y g, reached_le c x y g))
    (λ h. let g = leb-false x y h in omega (arith, e, stripe-sort_in c cuts x, stripe-sort_in c cuts y, stripe-le cuts y x (omega arith), reached_le c y x (omega arith)))))

pub box_finer : (c : Cut) (cuts : Cuts) (p q : Place) → box_of (cuts_with c cuts) p ≡ box_of (cuts_with c cuts) q → box_of cuts p ≡ box_of cuts q
box_finer c cuts p q e = box_eq cuts p q side
  where
    side : (axis : Axis) → stripe (cuts_of axis cuts) (along axis p) ≡ stripe (cuts_of axis cuts) (along axis q)
    side axis =
        with_cuts (λ a l. stripe l (along a p) ≡ stripe l (along a q) → stripe (cuts_of a cuts) (along a p) ≡ stripe (cuts_of a cuts) (along a q))
        c.axis (add_cut c.at (cuts_of c.axis cuts)) cuts
        (stripe_finer c.at (cuts_of c.axis cuts) (along c.axis p) (along c.axis q))
        (λ a h. h) axis (box_along axis (cuts_with c cuts) p q e)

-- ---- the reports of a memory cell

pub box_same : (a b : Box) → same_box a b ≡ true → a ≡ b
box_same a b t =
    let east = eqb-true a.east b.east (both_left (eqb a.east b.east) (eqb a.north b.north) t) in
    let north = eqb-true a.north b.north (both_right (eqb a.east b.east) (eqb a.north b.north) t) in
    λ i. record { east = east i; north = north i }

pub in_box_box : (cuts : Cuts) (m : Box) (w : Row Report) → in_box cuts m w ≡ true → box_of cuts w.val.fix.place ≡ m
unfolding in_box
in_box_box cuts m w t = box_same (box_of cuts w.val.fix.place) m t

pub box_in_box : (cuts : Cuts) (m : Box) (w : Row Report) → box_of cuts w.val.fix.place ≡ m → in_box cuts m w ≡ true
unfolding in_box
box_in_box cuts m w e =
    let b = box_of cuts w.val.fix.place in
    both_intro (eq-eqb b.east m.east (ap (λ (n : Box). n.east) e)) (eq-eqb b.north m.north (ap (λ (n : Box). n.north) e))

-- after a cut no memory cell has more waiting than one had before
pub waiting_finer : (c : Cut) (cuts : Cuts) (ws : Rows Report) (k : ℕ) → ((m : Box) → waiting_in cuts ws m < k) → (m : Box) → waiting_in (cuts_with c cuts) ws m < k
unfolding waiting_in
waiting_finer c cuts ws k h m =
    any_cases (in_box (cuts_with c cuts) m) ws
    (λ e. omega (arith, e, h m))
    (λ v t.
    let b = box_of cuts v.val.fix.place in
    let finer : (w : Row Report) → one_if (in_box (cuts_with c cuts) m w) ≤ one_if (in_box cuts b w) = λ w.
    by_cases (in_box (cuts_with c cuts) m w)
    (λ u. let same = box_finer c cuts w.val.fix.place v.val.fix.place (in_box_box (cuts_with c cuts) m w u ∙ sym (in_box_box (cuts_with c cuts) m v t)) in
    omega (arith, ap one_if u, ap one_if (box_in_box cuts b w same)))
    (λ u. omega (arith, ap one_if u)) in
    omega (arith, h b, sum-le (λ w. one_if (in_box (cuts_with c cuts) m w)) (λ w. one_if (in_box cuts b w)) ws finer))

pub waiting_length : (cuts : Cuts) (ws : Rows Report) (m : Box) → length (filter (in_box cuts m) ws) ≡ waiting_in cuts ws m
unfolding waiting_in
waiting_length cuts ws m = length-filter (in_box cuts m) ws

-- one radio's report is replaced, made or discarded
pub waiting_alter : (cuts : Cuts) (g : Option Report → Option Report) (r : ℕ) (ws : Rows Report) (m : Box) → 0 < r → Rising 0 ws
    → waiting_in cuts (alter g r ws) m + count_found (λ _ w. one_if (same_box (box_of cuts w.fix.place) m)) r (find ws r)
    ≡ waiting_in cuts ws m + count_found (λ _ w. one_if (same_box (box_of cuts w.fix.place) m)) r (g (find ws r))
unfolding waiting_in in_box
waiting_alter cuts g r ws m h a = sum-alter (λ _ w. one_if (same_box (box_of cuts w.fix.place) m)) g 0 r ws h a

-- no memory cell has more than before, but for one more in that of the new place
pub waiting_new : (cuts : Cuts) (g : Option Report → Option Report) (r : ℕ) (ws : Rows Report) (w : Report) (m : Box) → 0 < r → Rising 0 ws → g (find ws r) ≡ Some w
    → waiting_in cuts (alter g r ws) m ≤ waiting_in cuts ws m + one_if (same_box (box_of cuts w.fix.place) m)
waiting_new cuts g r ws w m h a e = omega (arith, waiting_alter cuts g r ws m h a, ap (count_found (λ _ v. one_if (same_box (box_of cuts v.fix.place) m)) r) e)

pub waiting_less : (cuts : Cuts) (g : Option Report → Option Report) (r : ℕ) (ws : Rows Report) (m : Box) → 0 < r → Rising 0 ws → g (find ws r) ≡ None
    → waiting_in cuts (alter g r ws) m ≤ waiting_in cuts ws m
waiting_less cuts g r ws m h a e = omega (arith, waiting_alter cuts g r ws m h a, ap (count_found (λ _ v. one_if (same_box (box_of cuts v.fix.place) m)) r) e)

-- ---- once the reports of m wait no longer

pub waiting_drop : (cuts : Cuts) (ws : Rows Report) (m n : Box) → waiting_in cuts (filter (λ w. not (in_box cuts m w)) ws) n ≤ waiting_in cuts ws n
unfolding waiting_in
waiting_drop cuts ws m n = omega (arith, sum-filter (λ w. one_if (in_box cuts n w)) (in_box cuts m) ws)

pub waiting_gone : (cuts : Cuts) (ws : Rows Report) (m : Box) → waiting_in cuts (filter (λ w. not (in_box cuts m w)) ws) m ≡ 0
unfolding waiting_in
waiting_gone cuts ws m =
    omega (
      arith,
      sum-filter_ext (λ w. one_if (in_box cuts m w)) (λ _. 0) (λ w. not (in_box cuts m w)) ws (λ w t. ap one_if (not-true (in_box cuts m w) t)),
      sum_const 0 (filter (λ w. not (in_box cuts m w)) ws),
    )

pub length_cleared : (cuts : Cuts) (ws : Rows Report) (m : Box) → length (filter (λ w. not (in_box cuts m w)) ws) + waiting_in cuts ws m ≡ length ws
length_cleared cuts ws m = omega (arith, waiting_length cuts ws m, length-filter-not (in_box cuts m) ws)

-- ---- the memory cell with most waiting

-- the memory cell of every place is among the boxes
pub boxes_hold : (P : Box → Type 0) (cuts : Cuts) (p : Place) → Each P (boxes cuts) → P (box_of cuts p)
unfolding boxes box_of
boxes_hold P cuts p e =
    let i = stripe cuts.easts p.east in
    let j = stripe cuts.norths p.north in
    let row : ℕ → List Box = λ n. tab (suc (length cuts.easts)) (λ k. record { east = k; north = n }) in
    let rows = concat-Each P (tab (suc (length cuts.norths)) row) e in
    let ours = Each-tab (Each P) (suc (length cuts.norths)) row j rows (omega (arith, stripe_most cuts.norths p.north)) in
    Each-tab P (suc (length cuts.easts)) (λ k. record { east = k; north = j }) i ours (omega (arith, stripe_most cuts.easts p.east))

-- no memory cell of a place has more
pub most_best : (how_many : Box → ℕ) (cuts : Cuts) → (m : Box) × (most_of how_many (boxes cuts) ≡ Some m) × ((p : Place) → how_many (box_of cuts p) ≤ how_many m)
most_best how_many cuts =
    list_cases (boxes cuts)
    (λ n. absurd (boxes_hold (λ _. ⊥) cuts (record { east = 0; north = 0 }) (subst (Each (λ _. ⊥)) (sym n) tt)))
    (λ x xs n.
    let better : Box → Box → Bool = λ y z. ltb (how_many z) (how_many y) in
    let m = best better x xs in
    let None-more = best_none_better better
    (λ y z t. let g = ltb-true (how_many z) (how_many y) t in le-ltb (how_many y) (how_many z) (omega arith))
    (λ a b c t u. let g = ltb-false (how_many a) (how_many b) t in let k = ltb-false (how_many b) (how_many c) u in le-ltb (how_many a) (how_many c) (omega arith))
    x xs in
    (m, ap (most_of how_many) n, λ p. ltb-false (how_many m) (how_many (box_of cuts p)) (boxes_hold (λ z. better z m ≡ false) cuts p (subst (Each (λ z. better z m ≡ false)) (sym n) None-more))))

waiting_here : (cuts : Cuts) (w : Row Report) (ws : Rows Report) → 1 ≤ waiting_in cuts (w ∷ ws) (box_of cuts w.val.fix.place)
unfolding waiting_in
waiting_here cuts w ws =
    let b = box_of cuts w.val.fix.place in
    omega (arith, sum-cons (λ v. one_if (in_box cuts b v)) w ws, ap one_if (box_in_box cuts b w refl))

pub most_some : (cuts : Cuts) (ws : Rows Report) → 1 ≤ length ws → (m : Box) × (most_of (waiting_in cuts ws) (boxes cuts) ≡ Some m) × (1 ≤ waiting_in cuts ws m)
most_some cuts [] h = absurd (not-suc-le-zero h)
most_some cuts (w ∷ ws) h =
    let r = most_best (waiting_in cuts (w ∷ ws)) cuts in
    (r.0, r.1, omega (arith, r.2 w.val.fix.place, waiting_here cuts w ws))

-- ---- the memory cell to flush

-- none is due: neither limit is reached
pub due_none : (cuts : Cuts) (how_many : Box → ℕ) (in_all : ℕ) (p : Place) → box_to_flush cuts how_many in_all p ≡ None → (how_many (box_of cuts p) < full_box) × (in_all < full_memory)
unfolding box_to_flush
due_none cuts how_many in_all p =
    by_cases (leb full_box (how_many (box_of cuts p)))
    (λ t. rw t (λ e. none-some (sym e)))
    (λ t. by_cases (leb full_memory in_all)
    (λ u. rw (t, u) (λ e. let r = most_best how_many cuts in none-some (sym e ∙ r.1)))
    (λ u. λ e. (leb-false full_box (how_many (box_of cuts p)) t, leb-false full_memory in_all u)))

-- one is due: the place's memory cell, or, where that is not full, the one with most
pub due_some : {P : Type 0} (cuts : Cuts) (how_many : Box → ℕ) (in_all : ℕ) (p : Place) (m : Box) → box_to_flush cuts how_many in_all p ≡ Some m
    → (box_of cuts p ≡ m → full_box ≤ how_many m → P) → (how_many (box_of cuts p) < full_box → full_memory ≤ in_all → most_of how_many (boxes cuts) ≡ Some m → P) → P
unfolding box_to_flush
due_some cuts how_many in_all p m =
    by_cases (leb full_box (how_many (box_of cuts p)))
    (λ t. rw t (λ e f g. let z : box_of cuts p ≡ m = cc in f z (subst (λ (b : Box). full_box ≤ how_many b) z (leb-true full_box (how_many (box_of cuts p)) t))))
    (λ t. by_cases (leb full_memory in_all)
    (λ u. rw (t, u) (λ e f g. g (leb-false full_box (how_many (box_of cuts p)) t) (leb-true full_memory in_all u) e))
    (λ u. rw (t, u) (λ e f g. none-some e)))

-- ---- what a flush comes to: the three ways, and no other

pub reshaped_cases : (P : Store → Type 0) (f : Flushed) → P (grown f)
    → ((c : Cut) → page_entries < length f.cell.entries → length f.store.cells < max_cells → chosen_cut f.store.cuts f.cell.edges f.cell.entries ≡ Some c → P (split_at c f))
    → ((n : Cell) → length f.cell.entries ≤ page_entries → neighbour f ≡ Some n → P (joined_with f n))
    → P (reshaped f)
unfolding reshaped
reshaped_cases P f g split join =
    let e = length f.cell.entries in
    let k = length f.store.cells in
    by_cases (ltb page_entries e)
    (λ t. by_cases (ltb k max_cells)
    (λ u. option_cases (chosen_cut f.store.cuts f.cell.edges f.cell.entries)
    (λ n. rw (t, u, n) g)
    (λ c n. rw (t, u, n) (split c (ltb-true page_entries e t) (ltb-true k max_cells u) n)))
    (λ u. rw (t, u) g))
    (λ t. option_cases (neighbour f)
    (λ n. rw (t, n) g)
    (λ c n. rw (t, n) (join c (ltb-false page_entries e t) n)))

pub flush_cases : (P : Store → Type 0) (m : Box) (s : Store) → (cell_of_box s m ≡ None → P s)
    → ((d : Cell) → cell_of_box s m ≡ Some d → P (reshaped (flushed_into m s d))) → P (flush m s)
unfolding flush
flush_cases P m s f g = option_cases (cell_of_box s m) (λ n. rw n (f n)) (λ d n. rw n (g d n))

-- ---- what waits after a flush

pub reshaped-waiting : (f : Flushed) → (reshaped f).waiting ≡ f.store.waiting
unfolding grown split_at joined_with
reshaped-waiting f = reshaped_cases (λ x. x.waiting ≡ f.store.waiting) f refl (λ c _ _ _. refl) (λ n _ _. refl)

pub reshaped-tally : (f : Flushed) → (reshaped f).tally ≡ f.store.tally
unfolding grown split_at joined_with
reshaped-tally f = reshaped_cases (λ x. x.tally ≡ f.store.tally) f refl (λ c _ _ _. refl) (λ n _ _. refl)

-- a bound on every memory cell holds after the flush too, if it held of what stays
pub waiting-reshaped : (k : ℕ) (f : Flushed) → ((n : Box) → waiting_in f.store.cuts f.store.waiting n < k)
    → (n : Box) → waiting_in (reshaped f).cuts (reshaped f).waiting n < k
unfolding grown split_at joined_with
waiting-reshaped k f h =
    reshaped_cases (λ x. (n : Box) → waiting_in x.cuts x.waiting n < k) f h (λ c _ _ _. waiting_finer c f.store.cuts f.store.waiting k h) (λ n _ _. h)

-- of m's reports none stays, so m itself may be full before
pub waiting_cleared : (cuts : Cuts) (ws : Rows Report) (m : Box) (k : ℕ) → 0 < k → ((n : Box) → same_box n m ≡ false → waiting_in cuts ws n < k)
    → (n : Box) → waiting_in cuts (filter (λ w. not (in_box cuts m w)) ws) n < k
waiting_cleared cuts ws m k z h n =
    by_cases (same_box n m)
    (λ t. omega (arith, waiting_gone cuts ws m, ap (waiting_in cuts (filter (λ w. not (in_box cuts m w)) ws)) (box_same n m t)))
    (λ t. omega (arith, waiting_drop cuts ws m n, h n t))
