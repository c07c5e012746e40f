use mathlib.Core.Path.{ap, ◌∙◌}
use Rattle.records.specs.declared.Asked.{Asked}
use Rattle.records.specs.Asked.{asks, asked_in, asked_of}
use Rattle.range.proofs.StoreLaws.{range_asks}
use Rattle.desk.specs.Held.{desk_ledger}
use Rattle.desk.proofs.UniqueLaws.{Sound_ledger}
use Rattle.carry.proofs.CallLaws.{record_asks, on_asked, report_asked, off_asked, on_Updates, report_Updates, off_Updates, refused_returns, on_returns, report_returns, off_returns, range_returns}
use Rattle.carry.proofs.carry_sound.Goals as goal

pub asked_by-requires : goal.asked_by-requires
asked_by-requires c = record_asks c.args.desk.now c.requires

pub sign_on-requires : goal.sign_on-requires
sign_on-requires c = on_asked c.args.desk.now c.requires c.args.bytes.now c.args.buffer.now (λ i. (c.type_inv.bytes i).fits) c.asked_by.ensures _ _ (ap asked_of c.in-Ok-SignOn.is ∙ ap (λ (a : Asked). asks (asked_in a)) c.in-Ok-SignOn.field-0-is)

pub update-requires : goal.update-requires
update-requires c = on_Updates c.args.desk.now c.requires c.args.bytes.now c.args.buffer.now (λ i. (c.type_inv.bytes i).fits) c.asked_by.ensures _ _ (ap asked_of c.in-Ok-SignOn.is ∙ ap (λ (a : Asked). asks (asked_in a)) c.in-Ok-SignOn.field-0-is)

pub reported-requires : goal.reported-requires
reported-requires c = report_asked c.args.desk.now c.requires c.args.bytes.now c.args.buffer.now (λ i. (c.type_inv.bytes i).fits) c.asked_by.ensures _ _ (ap asked_of c.in-Ok-Report.is ∙ ap (λ (a : Asked). asks (asked_in a)) c.in-Ok-Report.field-0-is)

pub update-requires-in-Ok-Report : goal.update-requires-in-Ok-Report
update-requires-in-Ok-Report c = report_Updates c.args.desk.now c.requires c.args.bytes.now c.args.buffer.now (λ i. (c.type_inv.bytes i).fits) c.asked_by.ensures _ _ (ap asked_of c.in-Ok-Report.is ∙ ap (λ (a : Asked). asks (asked_in a)) c.in-Ok-Report.field-0-is)

pub sign_off-requires : goal.sign_off-requires
sign_off-requires c = off_asked c.args.desk.now c.requires c.args.bytes.now c.args.buffer.now (λ i. (c.type_inv.bytes i).fits) c.asked_by.ensures _ _ (ap asked_of c.in-Ok-SignOff.is ∙ ap (λ (a : Asked). asks (asked_in a)) c.in-Ok-SignOff.field-0-is)

pub update-requires-in-Ok-SignOff : goal.update-requires-in-Ok-SignOff
update-requires-in-Ok-SignOff c = off_Updates c.args.desk.now c.requires c.args.bytes.now c.args.buffer.now (λ i. (c.type_inv.bytes i).fits) c.asked_by.ensures _ _ (ap asked_of c.in-Ok-SignOff.is ∙ ap (λ (a : Asked). asks (asked_in a)) c.in-Ok-SignOff.field-0-is)

pub list-requires : goal.list-requires
list-requires c = let s = Sound_ledger c.requires in
    let a = range_asks s.store _ (desk_ledger c.args.desk.now) s.well s.laid s.held in
    (a.0, a.2, a.3)

pub returns-in-Err : goal.returns-in-Err
returns-in-Err c = λ x. refused_returns c.args.desk.now x c.args.bytes.now c.args.buffer.now (λ i. (c.type_inv.bytes i).fits) c.asked_by.ensures _ (ap asked_of c.in-Err.is) c.refused.ensures

pub returns-in-Ok-SignOn : goal.returns-in-Ok-SignOn
returns-in-Ok-SignOn c = λ x.
    on_returns c.args.desk.now x c.args.bytes.now c.args.buffer.now (λ i. (c.type_inv.bytes i).fits) c.asked_by.ensures c.sign_on.new.desk c.sign_on.ensures.watches c.accepted.ensures _ _ (ap asked_of c.in-Ok-SignOn.is ∙ ap (λ (a : Asked). asks (asked_in a)) c.in-Ok-SignOn.field-0-is) c.sign_on.ensures.done c.update.ensures

pub returns-in-Ok-Report : goal.returns-in-Ok-Report
returns-in-Ok-Report c = λ x.
    report_returns c.args.desk.now x c.args.bytes.now c.args.buffer.now (λ i. (c.type_inv.bytes i).fits) c.asked_by.ensures c.reported.new.desk c.reported.ensures.watches c.accepted-in-Ok-Report.ensures _ _ (ap asked_of c.in-Ok-Report.is ∙ ap (λ (a : Asked). asks (asked_in a)) c.in-Ok-Report.field-0-is) c.reported.ensures.done c.update-in-Ok-Report.ensures

pub returns-in-Ok-SignOff : goal.returns-in-Ok-SignOff
returns-in-Ok-SignOff c = λ x.
    off_returns c.args.desk.now x c.args.bytes.now c.args.buffer.now (λ i. (c.type_inv.bytes i).fits) c.asked_by.ensures c.sign_off.new.desk c.sign_off.ensures.watches c.accepted-in-Ok-SignOff.ensures _ _ (ap asked_of c.in-Ok-SignOff.is ∙ ap (λ (a : Asked). asks (asked_in a)) c.in-Ok-SignOff.field-0-is) c.sign_off.ensures.done c.update-in-Ok-SignOff.ensures

pub returns-in-Ok-Range : goal.returns-in-Ok-Range
returns-in-Ok-Range c = λ x.
    range_returns c.args.desk.now x c.args.bytes.now c.args.buffer.now (λ i. (c.type_inv.bytes i).fits) c.asked_by.ensures _ _ c.list.result (ap asked_of c.in-Ok-Range.is ∙ ap (λ (a : Asked). asks (asked_in a)) c.in-Ok-Range.field-0-is) c.list.ensures.told c.list.ensures.no_watch
