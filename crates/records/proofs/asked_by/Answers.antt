use Rattle.records.proofs.RecordsLaws.{head_there, laid, told_3, told_4, told_5, told_6, told_12, told_13, told_7, told_8, told_9, told_10, told_none, count_on}
use mathlib.Core.Path.{sym, ◌∙◌}
use Rattle.desk.specs.Held.{on_with}
use Rattle.std.proofs.lemmas.Result.{err_from_is_err_and}
use borrow.Author.Rules.{rules}
use Rattle.records.proofs.asked_by.Goals as goal

pub returns-then-not_at_hand : goal.returns-then-not_at_hand
returns-then-not_at_hand c = search told_3

pub kind_field-requires : goal.kind_field-requires
kind_field-requires c = search head_there

pub returns-in_err-kind : goal.returns-in_err-kind
returns-in_err-kind c = let p = err_from_is_err_and c.from_residual.result c.from_residual.ensures.1 in
    rw p.1 (told_4 _ _ _ _ _ c.not_at_hand.ensures (search rules) c.kind_field.ensures (p.2 ∙ c.in_err-kind.ensures.0, c.in_err-kind.ensures.1))

pub length_field-requires : goal.length_field-requires
length_field-requires c = search head_there

pub returns-then-length_field-length : goal.returns-then-length_field-length
returns-then-length_field-length c = search (told_5, c.in_ok-kind.ensures)

pub invariant_of-record-clause-of_kind : goal.invariant_of-record-clause-of_kind
invariant_of-record-clause-of_kind c = sym (c.in_ok-kind.ensures ∙ c.kind_field.ensures)

pub invariant_of-record-clause-whole : goal.invariant_of-record-clause-whole
invariant_of-record-clause-whole c = search (laid, c.in_ok-kind.ensures)

pub returns-then-no_radio : goal.returns-then-no_radio
returns-then-no_radio c = search told_6

pub returns-then-no_fix : goal.returns-then-no_fix
returns-then-no_fix c = search told_12

pub returns-then-too_early : goal.returns-then-too_early
returns-then-too_early c = search told_13

pub returns-then-reversed : goal.returns-then-reversed
returns-then-reversed c = search told_7

pub returns-then-on_already : goal.returns-then-on_already
returns-then-on_already c = search told_8

pub returns-then-not_on : goal.returns-then-not_on
returns-then-not_on c = search told_9

pub returns-then-no_room : goal.returns-then-no_room
returns-then-no_room c = search (told_10, count_on (on_with c.args.n c.args.radios.now))

pub returns : goal.returns
returns c = search (told_none, count_on (on_with c.args.n c.args.radios.now))
