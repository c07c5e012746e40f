-- The entries of all cells, as the pages hold them, and what they add in a table by radio.
use Rattle.std.specs.Prelude.{Bool, true, false, List, map, ℕ}
use Rattle.terms.specs.Terms.{Fix}
use Rattle.lists.specs.Rows.{Row, Rows}
use Rattle.lists.specs.Sums.{sum_by}
use Rattle.lists.specs.Tests.{one_if}
use Rattle.page.specs.Buffer.{entries_from}
use Rattle.desk.specs.Held.{Directory}
use Rattle.desk.specs.Views.{slots_in}
use Rattle.sound_balance.specs.Tables.{half}

-- of each cell of the directory, in the order of the round
unfoldable pub rows_read : List ℕ → Directory → List (Rows Fix)
rows_read b d = map (λ s. entries_from b s.first) (slots_in d)

-- ---- what is found of a radio: two counts in one number

-- of an entry: in the low half if it isn't stale, else in the high half
abbrev pub weight : Bool → ℕ
weight true = half
weight false = 1

abbrev pub weigh : (Row Fix → Bool) → Row Fix → ℕ
weigh old e = weight (old e)

-- how many of the entries are stale
unfoldable pub stale_sum : (Row Fix → Bool) → Rows Fix → ℕ
stale_sum old es = sum_by (λ e. one_if (old e)) es
