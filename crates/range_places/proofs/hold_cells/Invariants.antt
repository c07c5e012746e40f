use lib.ListN.{take}
use mathlib.Core.Path.{◌≡◌}
use Rattle.memo_index.specs.Index.{judged}
use Rattle.range_places.specs.Places.{sought_of, places_in, over, slot_over}
use Rattle.range_places.proofs.hold_cells.Given as goal

-- The cells passed lie over the table, as far as the rectangle touches them.
abbrev pub invariant-loop-cell : goal.invariant-loop-cell
invariant-loop-cell l = places_in l.table ≡ over (slot_over (judged l.looking.memo.now l.looking.lines.now) l.pages (sought_of l.looking.search)) (take l.cell-index l.cells) (places_in l.initial.table)
