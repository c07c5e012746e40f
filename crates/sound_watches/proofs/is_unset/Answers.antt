use borrow.Author.Rules.{rules}
use Rattle.sound_watches.proofs.SoundLaws.{zero_watch}
use Rattle.sound_watches.proofs.is_unset.Goals as goal

pub returns : goal.returns
returns c = zero_watch c.args.watch.now (search rules) c.is_unused.ensures
