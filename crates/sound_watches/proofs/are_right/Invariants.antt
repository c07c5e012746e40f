use Rattle.sound_watches.proofs.SoundLaws.{Upright}
use Rattle.sound_watches.proofs.are_right.Given as goal

abbrev pub invariant-loop-watch : goal.invariant-loop-watch
invariant-loop-watch l = Upright l.watches l.watch-index
