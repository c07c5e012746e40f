use borrow.Author.Rules.{rules}
use Rattle.tally.proofs.TickLaws.{tick_counts, tick_sweep, tick_sweeps}
use Rattle.tally.proofs.tick.Goals as goal

pub returns-then-c-lt-SWEEP_EVERY-clause-counted : goal.returns-then-c-lt-SWEEP_EVERY-clause-counted
returns-then-c-lt-SWEEP_EVERY-clause-counted c = λ x. tick_counts x (search rules)

pub sweep_front-requires : goal.sweep_front-requires
sweep_front-requires c = tick_sweep c.requires (search rules)

pub returns-clause-counted : goal.returns-clause-counted
returns-clause-counted c = λ x. tick_sweeps x (search rules) c.sweep_front.ensures.reset c.sweep_front.ensures.laid
