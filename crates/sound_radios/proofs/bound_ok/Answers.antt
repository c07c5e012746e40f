use Rattle.sound_radios.proofs.BoundLaws.{Bounding_start, Bounding_over, Bounding_turn, Bounding_end}
use borrow.Author.Rules.{rules}
use Rattle.sound_radios.proofs.bound_ok.Goals as goal

pub loop-i-init : goal.loop-i-init
loop-i-init c = (search rules, search (Bounding_start, rules))

pub returns-then-bound_at-sum : goal.returns-then-bound_at-sum
returns-then-bound_at-sum c = search Bounding_over

pub loop-i-preserved : goal.loop-i-preserved
loop-i-preserved c = (search rules, search Bounding_turn)

pub returns : goal.returns
returns c = search Bounding_end
