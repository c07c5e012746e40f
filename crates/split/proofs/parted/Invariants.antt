use mathlib.Core.Bool.{not}
use mathlib.Core.Path.{◌≡◌}
use lib.ListN.{take}
use Rattle.lists.specs.Sums.{filter}
use Rattle.entries.specs.Entries.{rows_of}
use Rattle.rules.specs.Cut.{low_side}
use Rattle.cut.specs.Choice.{cut_of}
use Rattle.split.proofs.parted.Given as goal

-- Each side has those of the entries so far that are its own.
abbrev pub invariant-loop-entry : goal.invariant-loop-entry
invariant-loop-entry l =
    (l.low ≡ filter (low_side (cut_of l.cut)) (rows_of (take l.entry-index l.entries)))
    × (l.high ≡ filter (λ e. not (low_side (cut_of l.cut) e)) (rows_of (take l.entry-index l.entries)))
