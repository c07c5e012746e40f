use mathlib.Core.Path.{◌≡◌}
use Rattle.sound_pages.specs.Walks.{free_test, front_test}
use Rattle.sound_pages.proofs.walk_free.Given as goal

-- What is still to be tested, from the marks made, is the whole chain; each run leaves less of it.
abbrev pub invariant-loop-fuel : goal.invariant-loop-fuel
invariant-loop-fuel l = free_test l.fuel l.pages l.marks l.p ≡ front_test l.pages l.initial.marks l.front

abbrev pub decreases-loop-fuel : goal.decreases-loop-fuel
decreases-loop-fuel l = l.fuel
