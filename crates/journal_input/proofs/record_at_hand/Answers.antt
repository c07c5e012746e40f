use Rattle.std.proofs.Common.{rules}
use Rattle.journal_input.proofs.Bringing.{whole_behind}
use Rattle.journal_input.proofs.record_at_hand.Goals as goal

pub returns-clause-whole : goal.returns-clause-whole
returns-clause-whole g c =
    whole_behind _ _ _ _ _ _ (search rules) c.record_length-length.ensures.value c.filled-2.ensures.brings c.filled-2.ensures.enough
