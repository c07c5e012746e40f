use mathlib.Core.Path.{◌≡◌}
use lib.ListN.{take}
use Rattle.latest_places.specs.Latest.{places_by, lines_over}
use Rattle.latest_places.proofs.hold_lines.Given as goal

-- The lines passed lie over the table.
abbrev pub invariant-loop-line : goal.invariant-loop-line
invariant-loop-line l = places_by l.table.easts l.table.norths ≡ lines_over (take l.line-index l.lines) (places_by l.initial.table.easts l.initial.table.norths)
