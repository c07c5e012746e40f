use Rattle.desk.specs.Held.{desk_ledger}
use Rattle.memo_index.proofs.IndexLaws.{Blank_zeros}
use Rattle.sound_radios.proofs.KnownLaws.{known}
use Rattle.sound_radios.proofs.SoundLaws.{on_asks, lines_asks, new_asks, cells_asks, bound_asks, radios_off, radios_fail, radios_bound}
use Rattle.sound_radios.proofs.radios_sound.Goals as goal

-- What desk and pages have shown lets the tables be filled (`known`); then the low halves show who is on, and the table is settled, and the inequality holds, exactly if the entries pass.
pub on_due-requires : goal.on_due-requires
on_due-requires c = on_asks (known c.args.pages.now (desk_ledger c.args.desk.now) c.requires.0 c.requires.1 c.requires.2)

pub lines_due-requires : goal.lines_due-requires
lines_due-requires c = let a = lines_asks (known c.args.pages.now (desk_ledger c.args.desk.now) c.requires.0 c.requires.1 c.requires.2) Blank_zeros in
    (a.0, a.1, a.2, a.3)

pub tally_new-requires : goal.tally_new-requires
tally_new-requires c = new_asks (known c.args.pages.now (desk_ledger c.args.desk.now) c.requires.0 c.requires.1 c.requires.2)

pub returns-then-not-tally_new : goal.returns-then-not-tally_new
returns-then-not-tally_new c = radios_off (known c.args.pages.now (desk_ledger c.args.desk.now) c.requires.0 c.requires.1 c.requires.2) Blank_zeros c.on_due.ensures c.lines_due.ensures.0 c.tally_new.ensures.1 c.if-not-tally_new.true

pub tally_cells-counts-requires : goal.tally_cells-counts-requires
tally_cells-counts-requires c = cells_asks (known c.args.pages.now (desk_ledger c.args.desk.now) c.requires.0 c.requires.1 c.requires.2) c.lines_due.ensures.1

pub returns-then-not-all_settled : goal.returns-then-not-all_settled
returns-then-not-all_settled c = radios_fail (known c.args.pages.now (desk_ledger c.args.desk.now) c.requires.0 c.requires.1 c.requires.2) Blank_zeros c.on_due.ensures c.lines_due.ensures.0 c.tally_new.ensures.1 c.if-not-tally_new.false _ c.lines_due.ensures.2 c.tally_new.ensures.0 c.tally_cells-counts.ensures.0 c.tally_cells-counts.ensures.1 c.all_settled.ensures c.if-not-all_settled.true

pub bound_ok-requires : goal.bound_ok-requires
bound_ok-requires c = bound_asks (known c.args.pages.now (desk_ledger c.args.desk.now) c.requires.0 c.requires.1 c.requires.2)

pub returns : goal.returns
returns c = radios_bound (known c.args.pages.now (desk_ledger c.args.desk.now) c.requires.0 c.requires.1 c.requires.2) Blank_zeros c.on_due.ensures c.lines_due.ensures.0 c.tally_new.ensures.1 c.if-not-tally_new.false _ c.lines_due.ensures.2 c.tally_new.ensures.0 c.tally_cells-counts.ensures.0 c.tally_cells-counts.ensures.1 c.all_settled.ensures c.if-not-all_settled.false c.bound_ok.ensures
