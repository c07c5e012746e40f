-- Tests of cuts, edges and tiling (01, "What the desk holds", "A sound store").
use Rattle.std.specs.Prelude.{Bool, List, ℕ, ◌+◌, eqb, leb, ltb, length}
use Rattle.terms.specs.Terms.{Place}
use Rattle.lists.specs.Sums.{sum_by, count}
use Rattle.lists.specs.Tests.{one_if, both, either, all}
use Rattle.rules.specs.Limits.{last_metre, max_cuts}
use Rattle.rules.specs.Grid.{Span, within, Rect, inside, Cuts, stripe, Box, corner_of, boxes}
use Rattle.sound_clauses.specs.Loops.{rises_to}

-- "at most 15 east cuts and 15 north cuts", "cuts are rising, from 1 to 65,535": of one direction
unfoldable pub cuts_test : List ℕ → Bool
cuts_test cuts = both (leb (length cuts) max_cuts) (rises_to last_metre 0 cuts)

-- "A place is east and north, each 0 to 65,535 metres."
unfoldable pub place_test : Place → Bool
place_test p = both (leb p.east last_metre) (leb p.north last_metre)

-- ---- "A cell is a rectangle of whole memory cells", its edges "both inside it"

-- the least of a stripe
unfoldable pub low_test : List ℕ → ℕ → Bool
low_test cuts x = either (eqb x 0) (ltb 0 (count x cuts))

-- the greatest of a stripe
unfoldable pub high_test : List ℕ → ℕ → Bool
high_test cuts x = either (eqb x last_metre) (ltb 0 (count (x + 1) cuts))

unfoldable pub span_test : List ℕ → Span → Bool
span_test cuts s = both (both (low_test cuts s.low) (high_test cuts s.high)) (leb s.low s.high)

unfoldable pub edges_test : Cuts → Rect → Bool
edges_test cuts r = both (span_test cuts.easts r.easts) (span_test cuts.norths r.norths)

-- ---- "The cells tile the square"

-- how many of the rectangles hold a place
unfoldable pub holding : Place → List Rect → ℕ
holding p rects = sum_by (λ r. one_if (inside r p)) rects

-- the corner of each memory cell lies in one
unfoldable pub tile_test : Cuts → List Rect → Bool
tile_test cuts rects = all (λ m. eqb (holding (corner_of cuts m) rects) 1) (boxes cuts)

-- ---- the same by stripes: a rectangle adds 1 in each of its memory cells, and each memory cell comes to 1

-- the stripes from its low to its high edge
abbrev pub stripes : List ℕ → Span → Span
stripes cuts s = record { low = stripe cuts s.low; high = stripe cuts s.high }

-- a memory cell of the rectangle
unfoldable pub holds_box : Cuts → Box → Rect → Bool
holds_box cuts m r = both (within (stripes cuts.easts r.easts) m.east) (within (stripes cuts.norths r.norths) m.north)

unfoldable pub holding_box : Cuts → Box → List Rect → ℕ
holding_box cuts m rects = sum_by (λ r. one_if (holds_box cuts m r)) rects

unfoldable pub tile_boxes_test : Cuts → List Rect → Bool
tile_boxes_test cuts rects = all (λ m. eqb (holding_box cuts m rects) 1) (boxes cuts)
