use borrow.Author.Rules.{rules}
use Rattle.desk.specs.Making.{found}
use Rattle.spreadsheet_read.proofs.ReadLaws.{Reads_size, Reads_bad, Reads_lines}
use Rattle.spreadsheet_read.proofs.read_lent.Goals as goal

pub returns-then-pages-ne-BUFFER_BYTES : goal.returns-then-pages-ne-BUFFER_BYTES
returns-then-pages-ne-BUFFER_BYTES c = rw c.refused.ensures (Reads_size c.args.file.now (found c.args.desk.now c.args.pages.now) (search rules))

pub returns-in-Ok : goal.returns-in-Ok
returns-in-Ok c = Reads_lines c.args.file.now (found c.args.desk.now c.args.pages.now) c.gather.new.table (search rules) c.in-Ok.ensures.ok c.read_lines.ensures

pub returns-in-Err : goal.returns-in-Err
returns-in-Err c = rw (c.counted.ensures, c.number.ensures) (Reads_bad c.args.file.now (found c.args.desk.now c.args.pages.now) c.in-Err.bad.line (search rules) c.in-Err.ensures.err)
