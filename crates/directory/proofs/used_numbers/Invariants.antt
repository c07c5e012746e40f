use mathlib.Core.Path.{◌≡◌}
use lib.ListN.{take}
use Rattle.directory.specs.Directory.{used_numbers}
use Rattle.directory.proofs.used_numbers.Given as goal

-- The numbers of the cells so far are marked.
abbrev pub invariant-loop-cell : goal.invariant-loop-cell
invariant-loop-cell l = l.used ≡ used_numbers (take l.cell-index l.cells)
