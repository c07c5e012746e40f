use borrow.Author.Rules.{rules}
use Rattle.sound_watches.proofs.SoundLaws.{Unset_start, Unset_turn, Unset_end}
use Rattle.sound_watches.proofs.are_unset.Goals as goal

pub loop-watch-init : goal.loop-watch-init
loop-watch-init c = Unset_start _

pub loop-watch-preserved : goal.loop-watch-preserved
loop-watch-preserved c = Unset_turn _ _ c.loop-watch.invariant (c.is_unset.ensures c.if-not-is_unset.false)

pub returns : goal.returns
returns c = λ _. Unset_end c.args.watches.now _ (search rules) c.loop-watch.invariant (search rules)
