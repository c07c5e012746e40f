use Rattle.std.proofs.Common.{arith, rules}
use Rattle.carry.proofs.CountLaws.{record_count}
use Rattle.journal_replay.proofs.ReplayLaws.{call_at_hand, answer_fits, stepped}
use Rattle.journal_replay.proofs.step.Goals as goal

pub write_answer-requires : goal.write_answer-requires
write_answer-requires c = (search rules, record_count c.carry-answer.ensures)

pub next_record-requires : goal.next_record-requires
next_record-requires c =
    (search rules, call_at_hand c.requires.0 (λ i. (c.type_inv.journal i).fits) c.requires.1 c.requires.2 c.carry-answer.ensures)

pub listed_bytes-requires : goal.listed_bytes-requires
listed_bytes-requires c = record_count c.carry-answer.ensures

pub overflow_add-result : goal.overflow_add-result
overflow_add-result c =
    let f = answer_fits c.requires.0 (λ i. (c.type_inv.journal i).fits) c.requires.1 c.requires.2 c.carry-answer.ensures c.write_answer.ensures c.next_record.ensures c.listed_bytes.ensures in
    omega arith

pub returns : goal.returns
returns c =
    stepped c.requires.0 (λ i. (c.type_inv.journal i).fits) c.requires.1 c.requires.2 c.carry-answer.ensures c.write_answer.ensures c.next_record.ensures c.listed_bytes.ensures
