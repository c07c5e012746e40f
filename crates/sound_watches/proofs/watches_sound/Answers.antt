use borrow.Author.Rules.{rules}
use Rattle.sound_watches.proofs.SoundLaws.{clear_returns, right_returns, Same_returns}
use Rattle.sound_watches.proofs.watches_sound.Goals as goal

pub returns-then-are_unset : goal.returns-then-are_unset
returns-then-are_unset c = λ s. clear_returns s.store _ (search rules) c.are_unset.ensures c.if-are_unset.true

pub returns-then-not-are_right : goal.returns-then-not-are_right
returns-then-not-are_right c = λ s. right_returns s.store _ c.are_right.ensures.long c.are_right.ensures.right c.if-not-are_right.true

pub returns : goal.returns
returns c = λ s. Same_returns s.store _ c.are_right.ensures.long c.are_right.ensures.right c.if-not-are_right.false (c.lay_out.ensures s) c.eq.ensures
