-- Squares that share a line (02, Job 1): "Controllers cut the map into squares and add up the counts."
use Rattle.std.specs.Prelude.{Option, ◌≡◌, ℕ, ◌+◌, ◌≤◌, ◌<◌, eqb}
use Rattle.terms.specs.Terms.{Place, Fix}
use Rattle.lists.specs.Rows.{Row, Rows, Rising}
use Rattle.lists.specs.Sums.{sum_by}
use Rattle.lists.specs.Tests.{one_if}
use Rattle.rules.specs.Limits.{last_metre}
use Rattle.rules.specs.Grid.{Axis, Rect, span_of, with_span}
use Rattle.rules.specs.Carry.{list_of}

-- the two parts of a rectangle that is cut at c in one direction
abbrev pub low_part : Axis → ℕ → Rect → Rect
low_part axis c r = with_span axis (record { low = (span_of axis r).low; high = c }) r

abbrev pub high_part : Axis → ℕ → Rect → Rect
high_part axis c r = with_span axis (record { low = c; high = (span_of axis r).high }) r

-- the cut lies in the rectangle, and below the last metre: a range that ends there takes in the last line, and so does the one that begins there
pub record CutAt (axis : Axis) (r : Rect) (c : ℕ) : Type 0 where
  pub above : (span_of axis r).low ≤ c
  pub below : c ≤ (span_of axis r).high
  pub not_last : c < last_metre

-- the lists of the two parts together are the list of the whole: whatever is summed over it is summed over them, the count and each radio's place alike
abbrev pub AddUp : Type 0
AddUp = (minute : ℕ) (latest : ℕ → Option Fix) (on : Rows (Unit {0})) (axis : Axis) (r : Rect) (c : ℕ) → CutAt axis r c → (f : Row Place → ℕ)
    → sum_by f (list_of r minute latest on) ≡ sum_by f (list_of (low_part axis c r) minute latest on) + sum_by f (list_of (high_part axis c r) minute latest on)

-- how often a list names a radio
abbrev pub times_in : ℕ → Rows Place → ℕ
times_in radio l = sum_by (λ x. one_if (eqb radio x.key)) l

-- and no radio stands in both, nor twice in one
abbrev pub NotTwice : Type 0
NotTwice = (minute : ℕ) (latest : ℕ → Option Fix) (on : Rows (Unit {0})) → Rising 0 on → (axis : Axis) (r : Rect) (c : ℕ) → CutAt axis r c → (radio : ℕ)
    → times_in radio (list_of (low_part axis c r) minute latest on) + times_in radio (list_of (high_part axis c r) minute latest on) ≤ 1
