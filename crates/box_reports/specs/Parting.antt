-- The waiting reports of a memory cell apart from the others (01, "How a record is carried out").
use Rattle.std.specs.Prelude.{Bool, not, List, ◌++◌, ◌≡◌, ℕ, ◌-◌, length, take, drop}
use Rattle.lists.specs.Sums.{filter}
use Rattle.rules.specs.Grid.{Cuts, Box}
use Rattle.rules.specs.Flush.{in_box}
use Rattle.rules.specs.Limits.{full_memory}
use Rattle.desk.specs.declared.Report.{Report}
use Rattle.desk.specs.Layout.{slotted, no_report}
use Rattle.waiting.specs.Waiting.{row_of}

-- a report of m, as it stands in its slot
abbrev pub waits_in : Cuts → Box → Report → Bool
waits_in cuts m x = in_box cuts m (row_of x)

-- of the first i reports so many have gone into an array that was blank; the others have moved up over them, and every further slot is as it was
pub record Parting (goes : Report → Bool) (old : List Report) (i gone : ℕ) (left taken : List Report) : Type 0 where
  pub count : gone ≡ length (filter goes (take i old))
  pub rest : left ≡ filter (λ x. not (goes x)) (take i old) ++ drop (i - gone) old
  pub went : taken ≡ slotted full_memory no_report (filter goes (take i old))
