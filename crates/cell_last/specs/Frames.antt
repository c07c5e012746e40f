-- The grid's frame with another part: what writes every field of it.
use Rattle.std.specs.Prelude.{ℕ}
use Rattle.desk.specs.declared.CutList.{CutList}
use Rattle.desk.specs.declared.Frame.{Frame}

abbrev pub with_easts : CutList → Frame → Frame
with_easts easts f = record { easts = easts; norths = f.norths; cells = f.cells; free = f.free }

abbrev pub with_norths : CutList → Frame → Frame
with_norths norths f = record { easts = f.easts; norths = norths; cells = f.cells; free = f.free }

-- another number of cells and another front of the free chain
abbrev pub with_count : ℕ → ℕ → Frame → Frame
with_count n free f = record { easts = f.easts; norths = f.norths; cells = n; free = free }
