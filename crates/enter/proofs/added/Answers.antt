use borrow.Author.Rules.{rules}
use Rattle.enter.proofs.EnterLaws.{memo_ready, memo_roomy, missing_fits, adds_raised, adds_placed}
use Rattle.enter.proofs.added.Goals as goal

pub insert-requires : goal.insert-requires
insert-requires c = record { rising = c.requires.0.room.rows_rise; room = search missing_fits }

pub raised-requires : goal.raised-requires
raised-requires c = search memo_roomy

pub placed-requires : goal.placed-requires
placed-requires c = search memo_ready

pub returns-then-report-eq0 : goal.returns-then-report-eq0
returns-then-report-eq0 c =
    adds_raised _ _ _ c.args.report c.requires.0 c.requires.1 c.entry_of.ensures c.insert.ensures.rows (search rules) (rw c.place_of-place.ensures at c.raised.ensures)

pub returns : goal.returns
returns c =
    adds_placed _ _ _ c.args.report c.requires.0 c.requires.1 c.entry_of.ensures c.insert.ensures.rows (search rules) (rw c.place_of-place.ensures at c.placed.ensures)
