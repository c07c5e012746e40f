-- The choice of the cut ("Split") on what the desk holds: what its fields mean, and the walks by which the choice is made.
use Rattle.std.specs.Prelude.{cond, List, [], ◌∷◌, map, ℕ, ◌+◌, ◌-◌, leb, ltb, length, Option, None, Some}
use Rattle.terms.specs.Terms.{Fix, page_entries}
use Rattle.lists.specs.Rows.{Rows}
use Rattle.lists.specs.Sums.{sum_by}
use Rattle.lists.specs.Tests.{one_if, both, or_else}
use Rattle.rules.specs.Grid.{Axis, eastward, northward, along, across, Rect, span_of, Cuts}
use Rattle.rules.specs.Cut.{Cut, through, median, valid_at}
use Rattle.cut.specs.declared.Axis.{Axis as CodeAxis}
use Rattle.cut.specs.declared.Axis.TheVariants.{Eastward, Northward}
use Rattle.cut.specs.declared.Cut.{Cut as CodeCut}
use Rattle.cut.specs.declared.Fit.{Fit}

-- ---- what the fields mean

abbrev pub axis_of : CodeAxis → Axis
axis_of Eastward = eastward
axis_of Northward = northward

abbrev pub cut_of : CodeCut → Cut
cut_of c = record { axis = axis_of c.axis; at = c.at }

-- the rows' coordinates in a direction
unfoldable pub coordinates : Axis → Rows Fix → List ℕ
coordinates axis rows = map (λ e. along axis e.val.place) rows

-- of the lists of both directions that of one
abbrev pub by_axis : List ℕ → List ℕ → Axis → List ℕ
by_axis easts norths eastward = easts
by_axis easts norths northward = norths

abbrev pub with_cuts : List ℕ → List ℕ → Cuts
with_cuts easts norths = record { easts = easts; norths = norths }

-- how many coordinates lie below one
unfoldable pub below : ℕ → List ℕ → ℕ
below at l = sum_by (λ x. one_if (ltb x at)) l

-- ---- the best of the existing cuts, walked from the first to the last

-- of n entries, with so many on the low side: the two counts' difference
abbrev pub apart : ℕ → ℕ → ℕ
apart n low = (low - (n - low)) + ((n - low) - low)

-- a cut that fits, and that difference
pub record Fitting : Type 0 where
  pub cut : Cut
  pub difference : ℕ

abbrev pub fitting_of : Fit → Fitting
fitting_of f = record { cut = cut_of f.cut; difference = f.difference }

-- of the best so far and one cut more, the better; of two that are as good the first
abbrev pub better : Option Fitting → Cut → ℕ → Option Fitting
better None c m = Some (record { cut = c; difference = m })
better (Some b) c m = cond (ltb m b.difference) (Some (record { cut = c; difference = m })) (Some b)

-- the best so far, after one cut more
unfoldable pub considered : Rect → List ℕ → Option Fitting → Cut → Option Fitting
considered d l best c =
    let low = below c.at l in
    cond (through (span_of c.axis d) c.at)
    (cond (both (leb low page_entries) (leb (length l - low) page_entries)) (better best c (apart (length l) low)) best)
    best

unfoldable pub best_from : Rect → List ℕ → Axis → Option Fitting → List ℕ → Option Fitting
best_from d l axis best [] = best
best_from d l axis best (c ∷ cs) = best_from d l axis (considered d l best (record { axis = axis; at = c })) cs

-- east cuts first
unfoldable pub best_by : Cuts → Rect → (Axis → List ℕ) → Option Fitting
best_by cuts d l = best_from d (l northward) northward (best_from d (l eastward) eastward None cuts.easts) cuts.norths

-- ---- the first valid median cut, this direction first

unfoldable pub first_valid : Axis → Cuts → (Axis → List ℕ) → Option Cut
first_valid axis cuts l = or_else (valid_at axis cuts (median (l axis))) (valid_at (across axis) cuts (median (l (across axis))))
