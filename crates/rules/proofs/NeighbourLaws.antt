-- The neighbour that is joined: it lies beside d and stands among the others, and on a side there is one at most, for two would hold the same place.
use mathlib.Core.Path.{◌≡◌, refl, sym, ap, ◌∙◌}
use mathlib.Core.Bool.{true}
use mathlib.Core.List.{List, [], ◌∷◌, ◌++◌}
use Rattle.std.specs.Prelude.{Some}
use Prim.Native.Nat.{ℕ, ◌+◌, ◌≤◌}
use native.Mathlib.Omega.{arith}
use lib.Dec.{leb}
use lib.ListN.{length}
use borrow.Author.Tests.{leb-true}
use Rattle.terms.specs.Terms.{Place}
use Rattle.lists.specs.Among.{Among}
use Rattle.lists.specs.Parts.{tab}
use Rattle.lists.specs.Sums.{sum_by}
use Rattle.lists.specs.Tests.{one_if, both, first_that, first_some}
use Rattle.lists.proofs.Cases.{by_cases, some_injective, first_some_cases}
use Rattle.lists.proofs.AmongLaws.{Each-Among, first_that-Among}
use Rattle.lists.proofs.SumsLaws.{sum_middle}
use Rattle.lists.proofs.TestsLaws.{both_left, both_right, both_intro}
use Rattle.rules.specs.Limits.{join_entries}
use Rattle.rules.specs.Grid.{Axis, eastward, northward, across, Span, within, Rect, span_of, inside, Cuts}
use Rattle.rules.specs.Store.{Cell, Store, cell_at}
use Rattle.rules.specs.Flush.{Flushed, below, Side, lower, upper, west, east, south, north, beside, joinable, sides, neighbour}
use Rattle.rules.specs.Neighbour.{OneOn, OneOnEachSide, choices, Chosen}
use Rattle.rules.specs.Parts.{Edged, Tiling}
use Rattle.rules.specs.WellFormed.{WellFormed}
use Rattle.rules.proofs.PlaceLaws.{within-true, below_spans}
use Rattle.rules.proofs.TilingLaws.{apart}
use Rattle.rules.proofs.WellLaws.{well_Tiling}

-- ---- the neighbour that is taken

-- it lies on one side of d, and stands among the others
pub record Near (f : Flushed) (n : Cell) : Type 0 where
  pub side : Side
  pub adjoins : beside side f.cell.edges n.edges ≡ true
  pub small : length f.cell.entries + length n.entries ≤ join_entries
  pub among : Among f.rest n

pub neighbour-Near : (f : Flushed) (n : Cell) → neighbour f ≡ Some n → Near f n
unfolding neighbour joinable
neighbour-Near f n e =
    first_some_cases (λ side. first_that (joinable side f.cell) f.rest) sides n e (λ side e.
    let r = first_that-Among (joinable side f.cell) f.rest n e in
    let b = beside side f.cell.edges n.edges in
    let s = length f.cell.entries + length n.entries in
    record { side = side; adjoins = both_left b (leb s join_entries) r.0; small = leb-true s join_entries (both_right b (leb s join_entries) r.0); among = r.1 })

-- ---- one on a side

cell_at_here : (us : List Cell) (c : Cell) (vs : List Cell) (p : Place) → inside c.edges p ≡ true → sum_by (λ x. one_if (inside x.edges p)) (us ++ (c ∷ vs)) ≤ 1
    → cell_at (us ++ (c ∷ vs)) p ≡ Some c
unfolding cell_at sum_by
cell_at_here [] c vs p t h = rw t
cell_at_here (u ∷ us) c vs p t h =
    by_cases (inside u.edges p)
    (λ e. absurd (omega (arith, sum_middle (λ x. one_if (inside x.edges p)) us c vs, ap one_if t, ap one_if e)))
    (λ e. rw e (cell_at_here us c vs p t (omega arith)))

-- a place by its coordinate in a direction, and in the other
abbrev place_on : Axis → ℕ → ℕ → Place
place_on eastward x y = record { east = x; north = y }
place_on northward x y = record { east = y; north = x }

inside_on : (axis : Axis) (r : Rect) (x y : ℕ) → within (span_of axis r) x ≡ true → within (span_of (across axis) r) y ≡ true → inside r (place_on axis x y) ≡ true
inside_on eastward r x y h k = both_intro h k
inside_on northward r x y h k = both_intro k h

module _ {cuts : Cuts} {cells : List Cell} (t : Tiling cuts cells) {m n : Cell} (a : Among cells m) (b : Among cells n) where
  held_by : {c : Cell} → Among cells c → (p : Place) → inside c.edges p ≡ true → cell_at cells p ≡ Some c
  held_by {c} g p h = rw g.split (cell_at_here g.before c g.after p h (rw g.split at (apart cuts cells t p)))

  ordered : {c : Cell} → Among cells c → (axis : Axis) → (span_of axis c.edges).low ≤ (span_of axis c.edges).high
  ordered g axis = ((Each-Among (Edged cuts) t.cells_edged g).edged axis).order

  -- two that share a coordinate in one direction and are alike in the other hold the same place
  one_across : (axis : Axis) (x : ℕ) → within (span_of axis m.edges) x ≡ true → within (span_of axis n.edges) x ≡ true → span_of (across axis) m.edges ≡ span_of (across axis) n.edges → m ≡ n
  one_across axis x h k e =
      let s = span_of (across axis) m.edges in
      let y = s.low in
      let l : within s y ≡ true = within-true s y (omega arith) (ordered a (across axis)) in
      let p = place_on axis x y in
      some_injective (sym (held_by a p (inside_on axis m.edges x y h l)) ∙ held_by b p (inside_on axis n.edges x y k (ap (λ (z : Span). within z y) (sym e) ∙ l)))

  -- of a rectangle's low side the high edges are the same, of its high side the low edges
  one_beside : (side : Side) (r : Rect) → beside side r m.edges ≡ true → beside side r n.edges ≡ true → m ≡ n
  one_beside (lower axis) r h k =
      let f = below_spans axis m.edges r h in
      let g = below_spans axis n.edges r k in
      let x = (span_of axis m.edges).high in
      one_across axis x (within-true (span_of axis m.edges) x (ordered a axis) (omega arith))
      (within-true (span_of axis n.edges) x (omega (arith, f.0, g.0, ordered b axis)) (omega (arith, f.0, g.0))) (f.1 ∙ sym g.1)
  one_beside (upper axis) r h k =
      let f = below_spans axis r m.edges h in
      let g = below_spans axis r n.edges k in
      let x = (span_of axis m.edges).low in
      one_across axis x (within-true (span_of axis m.edges) x (omega arith) (ordered a axis))
      (within-true (span_of axis n.edges) x (omega (arith, f.0, g.0)) (omega (arith, f.0, g.0, ordered b axis))) (sym f.1 ∙ g.1)

one_on : (s : Store) → WellFormed s → (side : Side) → OneOn s side
one_on s w side d m n a b = one_beside (well_Tiling s w) a b side d.edges

-- "on one side only one cell can make a rectangle with ours"
pub one_on_each_side : (s : Store) → WellFormed s → OneOnEachSide s
one_on_each_side s w = record { on_west = one_on s w west; on_east = one_on s w east; on_south = one_on s w south; on_north = one_on s w north }

-- ---- the worked points

pub chosen : Chosen
unfolding choices tab both first_that first_some below joinable neighbour
chosen = refl
