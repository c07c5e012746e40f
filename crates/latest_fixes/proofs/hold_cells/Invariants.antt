use mathlib.Core.Path.{◌≡◌}
use lib.ListN.{take}
use Rattle.memo_index.specs.Index.{judged}
use Rattle.range_places.specs.Places.{over}
use Rattle.latest_fixes.specs.Fixes.{fixes_in, slot_told}
use Rattle.latest_fixes.proofs.hold_cells.Given as goal

-- The cells passed lie over the fixes.
abbrev pub invariant-loop-cell : goal.invariant-loop-cell
invariant-loop-cell l =
    fixes_in l.fixes
    ≡ over (slot_told l.telling.seats.now (judged l.telling.memo.now l.telling.lines.now) l.pages) (take l.cell-index l.cells) (fixes_in l.initial.fixes)
