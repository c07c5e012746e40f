use mathlib.Core.Path.{◌≡◌}
use Rattle.terms.specs.Terms.{no_page}
use Rattle.sound_pages.specs.Walks.{free_test}
use Rattle.sound_pages.proofs.walk_run.Given as goal

-- What is still to be tested, from the marks made, is the chain from the run's first page on.
abbrev pub invariant-loop-left : goal.invariant-loop-left
invariant-loop-left l = (l.p ≡ no_page → ⊥) × (free_test l.left l.pages l.marks l.p ≡ free_test l.fuel l.pages l.initial.marks l.first)
