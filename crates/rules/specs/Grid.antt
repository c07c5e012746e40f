-- Places, rectangles, cuts and memory cells (01, "What the desk holds"), and what a range takes in (02, Job 1).
use Rattle.std.specs.Prelude.{Bool, List, ◌∷◌, ℕ, suc, eqb, leb, ltb, length, get_or}
use Rattle.terms.specs.Terms.{Place}
use Rattle.lists.specs.Parts.{tab}
use Rattle.lists.specs.Sums.{sum_by, concat}
use Rattle.lists.specs.Tests.{one_if, both, either}
use Rattle.rules.specs.Limits.{last_metre}

-- ---- places and rectangles

-- the two directions: what holds for a coordinate is stated over them, and cited for both
pub data Axis : Type 0 where
  eastward : Axis
  northward : Axis

abbrev pub along : Axis → Place → ℕ
along eastward p = p.east
along northward p = p.north

abbrev pub across : Axis → Axis
across eastward = northward
across northward = eastward

abbrev pub same_place : Place → Place → Bool
same_place p q = both (eqb p.east q.east) (eqb p.north q.north)

-- "edges are its least and greatest coordinates, both inside it", in one direction
pub record Span : Type 0 where
  pub low : ℕ
  pub high : ℕ

abbrev pub within : Span → ℕ → Bool
within s x = both (leb s.low x) (leb x s.high)

abbrev pub same_span : Span → Span → Bool
same_span s t = both (eqb s.low t.low) (eqb s.high t.high)

-- west and east edge, south and north edge
pub record Rect : Type 0 where
  pub easts : Span
  pub norths : Span

abbrev pub span_of : Axis → Rect → Span
span_of eastward r = r.easts
span_of northward r = r.norths

-- the rectangle with another span in one direction
abbrev pub with_span : Axis → Span → Rect → Rect
with_span eastward s r = record { easts = s; norths = r.norths }
with_span northward s r = record { easts = r.easts; norths = s }

abbrev pub inside : Rect → Place → Bool
inside r p = both (within r.easts p.east) (within r.norths p.north)

-- what a range takes in, in one direction: "the west and south edges are inside and the east and north edges are outside, but an east or north edge of
-- 65,535 still takes in that last line"
abbrev pub takes_in : Span → ℕ → Bool
takes_in s x = both (leb s.low x) (either (ltb x s.high) (eqb s.high last_metre))

abbrev pub covers : Rect → Place → Bool
covers r p = both (takes_in r.easts p.east) (takes_in r.norths p.north)

-- "west above east or south above north"
abbrev pub is_reversed : Rect → Bool
is_reversed r = either (ltb r.easts.high r.easts.low) (ltb r.norths.high r.norths.low)

-- the whole square
abbrev pub square : Rect
square = record { easts = record { low = 0; high = last_metre }; norths = record { low = 0; high = last_metre } }

-- ---- cuts

pub record Cuts : Type 0 where
  pub easts : List ℕ
  pub norths : List ℕ

abbrev pub cuts_of : Axis → Cuts → List ℕ
cuts_of eastward c = c.easts
cuts_of northward c = c.norths

abbrev pub with_cuts_of : Axis → List ℕ → Cuts → Cuts
with_cuts_of eastward l c = record { easts = l; norths = c.norths }
with_cuts_of northward l c = record { easts = c.easts; norths = l }

-- "a cut at c puts coordinates below c on the low side": the stripe of a coordinate, counted from 0
unfoldable pub stripe : List ℕ → ℕ → ℕ
stripe cuts x = sum_by (λ c. one_if (leb c x)) cuts

-- the least coordinate of a stripe
unfoldable pub stripe_low : List ℕ → ℕ → ℕ
stripe_low cuts i = get_or (0 ∷ cuts) i 0

-- ---- memory cells

-- "A memory cell is one stripe-by-stripe box of the cuts": its stripes
pub record Box : Type 0 where
  pub east : ℕ
  pub north : ℕ

abbrev pub same_box : Box → Box → Bool
same_box a b = both (eqb a.east b.east) (eqb a.north b.north)

-- the memory cell of a place
unfoldable pub box_of : Cuts → Place → Box
box_of cuts p = record { east = stripe cuts.easts p.east; north = stripe cuts.norths p.north }

-- its south-west corner
unfoldable pub corner_of : Cuts → Box → Place
corner_of cuts m = record { east = stripe_low cuts.easts m.east; north = stripe_low cuts.norths m.north }

-- all memory cells, the southern first, and of these the western
unfoldable pub boxes : Cuts → List Box
boxes cuts =
    concat (tab (suc (length cuts.norths)) (λ j. tab (suc (length cuts.easts)) (λ i. record { east = i; north = j })))
