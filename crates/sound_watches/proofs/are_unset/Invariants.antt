use Rattle.sound_watches.proofs.SoundLaws.{Unset}
use Rattle.sound_watches.proofs.are_unset.Given as goal

abbrev pub invariant-loop-watch : goal.invariant-loop-watch
invariant-loop-watch l = Unset l.watches l.watch-index
