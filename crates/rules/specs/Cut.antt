-- The choice of the cut (01, "Split").
use Rattle.std.specs.Prelude.{Bool, cond, List, [], ◌∷◌, ◌++◌, map, ℕ, ◌+◌, ◌-◌, ◌/◌, eqb, leb, ltb, length, get_or, Option, None, Some}
use Rattle.terms.specs.Terms.{Fix, page_entries}
use Rattle.lists.specs.Rows.{Row, Rows}
use Rattle.lists.specs.Sort.{sort, first_above}
use Rattle.lists.specs.Sums.{sum_by, filter, count}
use Rattle.lists.specs.Tests.{one_if, both, either, or_else, best}
use Rattle.rules.specs.Limits.{max_cuts}
use Rattle.rules.specs.Grid.{Axis, eastward, northward, along, across, Span, Rect, span_of, Cuts, cuts_of}

-- a cut of one direction
pub record Cut : Type 0 where
  pub axis : Axis
  pub at : ℕ

-- "coordinates below c on the low side"
abbrev pub low_side : Cut → Row Fix → Bool
low_side c e = ltb (along c.axis e.val.place) c.at

unfoldable pub low_count : Rows Fix → Cut → ℕ
low_count es c = sum_by (λ e. one_if (low_side c e)) es

-- ---- "First, among existing cuts through d that leave at most 32 on each side, take the least difference"

-- some of the span on each side
abbrev pub through : Span → ℕ → Bool
through s c = both (ltb s.low c) (leb c s.high)

unfoldable pub cuts_through : Axis → Cuts → Rect → List Cut
cuts_through axis cuts d = map (λ c. record { axis = axis; at = c }) (filter (through (span_of axis d)) (cuts_of axis cuts))

unfoldable pub fits : Rows Fix → Cut → Bool
fits es c = both (leb (low_count es c) page_entries) (leb (length es - low_count es c) page_entries)

-- the two counts' difference
unfoldable pub difference : Rows Fix → Cut → ℕ
difference es c = (low_count es c - (length es - low_count es c)) + ((length es - low_count es c) - low_count es c)

abbrev best_of : (Cut → Cut → Bool) → List Cut → Option Cut
best_of better [] = None
best_of better (c ∷ cs) = Some (best better c cs)

-- "ties go to east cuts, then the lower": they come first
unfoldable pub existing_cut : Cuts → Rect → Rows Fix → Option Cut
existing_cut cuts d es =
    best_of (λ y x. ltb (difference es y) (difference es x))
    (filter (fits es) (cuts_through eastward cuts d ++ cuts_through northward cuts d))

-- ---- "try the longer side of d (east if equal), then the other"

-- "sort the n coordinates, take number ⌊n/2⌋ counting from 0; if it equals the least, take the next greater coordinate present"
unfoldable pub median : List ℕ → Option ℕ
median l =
    cond (eqb (get_or (sort l) (length l / 2) 0) (get_or (sort l) 0 0))
    (first_above (get_or (sort l) 0 0) (sort l))
    (Some (get_or (sort l) (length l / 2) 0))

-- "That cut is valid if it exists already or its direction has fewer than 15 cuts."
abbrev pub valid_at : Axis → Cuts → Option ℕ → Option Cut
valid_at axis cuts None = None
valid_at axis cuts (Some c) =
    cond (either (ltb 0 (count c (cuts_of axis cuts))) (ltb (length (cuts_of axis cuts)) max_cuts)) (Some (record { axis = axis; at = c })) None

unfoldable pub median_cut : Axis → Cuts → Rows Fix → Option Cut
median_cut axis cuts es = valid_at axis cuts (median (map (λ e. along axis e.val.place) es))

abbrev pub longer_side : Rect → Axis
longer_side d = cond (ltb (d.easts.high - d.easts.low) (d.norths.high - d.norths.low)) northward eastward

-- "Take the first valid cut and look no further."
unfoldable pub chosen_cut : Cuts → Rect → Rows Fix → Option Cut
chosen_cut cuts d es =
    or_else (existing_cut cuts d es)
    (or_else (median_cut (longer_side d) cuts es) (median_cut (across (longer_side d)) cuts es))
