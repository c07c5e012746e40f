use mathlib.Core.Path.{◌≡◌}
use lib.ListN.{drop}
use Rattle.sound_pages.specs.Walks.{slots_test}
use Rattle.sound_pages.proofs.walk_slots.Given as goal

-- The slots that are left, from the marks made, pass or fail as all do.
abbrev pub invariant-loop-slot : goal.invariant-loop-slot
invariant-loop-slot l = slots_test l.highest l.pages l.marks (drop l.slot-index l.cells) ≡ slots_test l.highest l.pages l.initial.marks l.cells
