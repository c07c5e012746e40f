use borrow.Author.Rules.{rules}
use Rattle.spreadsheet_write.proofs.WriteLaws.{Wrote_short, Wrote_whole}
use Rattle.spreadsheet_write.proofs.write_rows.Goals as goal

pub returns-then-buffer-bytes : goal.returns-then-buffer-bytes
returns-then-buffer-bytes c = Wrote_short _ _ c.file_length-bytes.ensures (search rules) (rw c.number.ensures at c.counted.ensures)

pub returns : goal.returns
returns c = search Wrote_whole
