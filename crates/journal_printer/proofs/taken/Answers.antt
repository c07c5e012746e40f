use Rattle.journal_replay.proofs.ReplayLaws.{next_left, next_within}
use Rattle.journal_printer.proofs.taken.Goals as goal

pub returns-clause-rest : goal.returns-clause-rest
returns-clause-rest c = next_left c.args.bytes.now 0 c.args.number c.next_record.ensures

pub returns-clause-within : goal.returns-clause-within
returns-clause-within c = (next_within c.args.bytes.now 0 c.args.number c.requires.some c.requires.record c.next_record.ensures).1
