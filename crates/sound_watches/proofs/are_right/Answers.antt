use borrow.Author.Rules.{rules}
use Rattle.sound_watches.proofs.SoundLaws.{Upright_start, Upright_turn, reversed_then, Upright_end}
use Rattle.sound_watches.proofs.are_right.Goals as goal

pub loop-watch-init : goal.loop-watch-init
loop-watch-init c = Upright_start _

pub returns-then-is_reversed-clause-right : goal.returns-then-is_reversed-clause-right
returns-then-is_reversed-clause-right c = reversed_then c.args.watches.now _ (search rules) c.is_reversed.ensures c.area_of.ensures c.if-is_reversed.true

pub loop-watch-preserved : goal.loop-watch-preserved
loop-watch-preserved c = Upright_turn _ _ c.loop-watch.invariant c.is_reversed.ensures c.area_of.ensures c.if-is_reversed.false

pub returns-clause-right : goal.returns-clause-right
returns-clause-right c = Upright_end c.args.watches.now _ c.loop-watch.invariant (search rules)
