use Rattle.std.proofs.Common.{arith, drop, ◌∙◌, sym}
use Rattle.journal_replay.proofs.ReplayLaws.{at_hand, rest_whole, next_field}
use Rattle.journal_replay.proofs.next_record.Goals as goal

pub read-requires : goal.read-requires
read-requires c =
    let journal = c.args.journal.now in
    let here = c.requires.1 (λ e. c.if-number.false (e ∙ sym c.number.ensures)) in
    rw (rest_whole journal c.args.at) (omega (arith, at_hand (drop c.args.at journal) here))

pub returns : goal.returns
returns c = next_field c.args.journal.now c.args.at c.args.number (λ e. c.if-number.false (e ∙ sym c.number.ensures)) c.read.ensures
