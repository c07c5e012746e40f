use Rattle.rules.specs.Watches.{fresh_watched}
use Rattle.desk.specs.Making.{found}
use Rattle.spreadsheet_read.proofs.ReadLaws.{stopped_laid, signed_laid, fresh-Holds}
use Rattle.spreadsheet_read.proofs.SigningLaws.{Sound_of}
use Rattle.spreadsheet_read.proofs.read_lines.Goals as goal

pub returns-in-Some : goal.returns-in-Some
returns-in-Some c = rw (c.counted.ensures, c.number.ensures) (stopped_laid c.args.table.now (found c.args.desk.now c.args.pages.now) c.in-Some.ensures)

pub sign_on_all-requires : goal.sign_on_all-requires
sign_on_all-requires c = Sound_of (fresh-Holds c.lay_out.ensures.desk c.lay_out.ensures.pages)

pub returns : goal.returns
returns c =
    rw c.numbered.ensures
    (signed_laid c.args.table.now (found c.args.desk.now c.args.pages.now) c.in_default.ensures
    (c.sign_on_all.ensures fresh_watched (fresh-Holds c.lay_out.ensures.desk c.lay_out.ensures.pages)))
