use borrow.Author.Rules.{rules}
use Rattle.sound_rows.proofs.ColumnsLaws.{reports_fall, reports_unmarked, reports_dated}
use Rattle.sound_rows.proofs.reports_ok.Goals as goal

pub returns-then-not-rises : goal.returns-then-not-rises
returns-then-not-rises c = reports_fall c.args.waiting.now c.told-waiting c.fits-waiting _ c.requires _ c.column.ensures.0 c.rises.ensures (search rules)

pub returns-then-not-are_marks : goal.returns-then-not-are_marks
returns-then-not-are_marks c = reports_unmarked c.args.waiting.now c.told-waiting c.fits-waiting _ c.requires _ c.column.ensures.0 c.rises.ensures
    (search rules) c.column-2.ensures.0 c.are_marks.ensures (search rules)

pub returns : goal.returns
returns c = reports_dated c.args.waiting.now c.told-waiting c.fits-waiting _ c.requires _ c.column.ensures.0 c.rises.ensures
    (search rules) c.column-2.ensures.0 c.are_marks.ensures
    (search rules) c.column-3.ensures.0 c.column-4.ensures.0 c.are_dated.ensures
