use mathlib.Core.Path.{◌≡◌}
use Prim.Native.Nat.{◌-◌}
use Rattle.terms.specs.Terms.{pages}
use Rattle.page.specs.Page.{number_of}
use Rattle.sound_pages.specs.Walks.{chain_test, slot_test}
use Rattle.sound_pages.proofs.walk_chain.Given as goal

-- What is still to be tested, from the marks made, is the whole chain.
abbrev pub invariant-loop-met : goal.invariant-loop-met
invariant-loop-met l = chain_test l.highest (pages - l._met) l.pages l.s l.marks (number_of l.kind) l.low l.p ≡ slot_test l.highest l.pages l.initial.marks l.s
