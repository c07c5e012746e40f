use Rattle.std.proofs.Common.{rules}
use Rattle.journal_replay.proofs.ReplayLaws.{called_at_hand}
use Rattle.journal_printer.proofs.call.Goals as goal

pub returns-clause-record : goal.returns-clause-record
returns-clause-record c = called_at_hand c.requires.1 (search rules) c.carry.ensures
