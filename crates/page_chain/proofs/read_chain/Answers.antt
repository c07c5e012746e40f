use mathlib.Core.Path.{◌≡◌}
use native.Mathlib.Omega.{arith}
use borrow.Author.Rules.{rules}
use Rattle.terms.specs.Terms.{pages}
use Rattle.page_chain.proofs.WalkLaws.{Walking_start, Walking_turn, Walking_ended, Walking_not_there, Walking_out}
use Rattle.page_chain.proofs.read_chain.Goals as goal

pub loop-n-init : goal.loop-n-init
loop-n-init c = Walking_start _ _ _ (search rules)

pub returns-then-p : goal.returns-then-p
returns-then-p c = Walking_ended c.loop-n.invariant (search rules)

pub returns-then-not-is_there : goal.returns-then-not-is_there
returns-then-not-is_there c = Walking_not_there c.loop-n.invariant (search rules) c.if-p.false c.is_there.ensures (search rules)

pub loop-n-preserved : goal.loop-n-preserved
loop-n-preserved c = search Walking_turn

pub returns : goal.returns
returns c = let e : c.loop-n.n ≡ pages = omega arith in Walking_out (rw e at c.loop-n.invariant) (search rules) c.bound_end.ensures
