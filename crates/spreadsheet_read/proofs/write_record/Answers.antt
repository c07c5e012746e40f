use Rattle.csv_order.specs.Table.{listed_of}
use Rattle.spreadsheet_read.proofs.SigningLaws.{record_written}
use Rattle.spreadsheet_read.proofs.write_record.Goals as goal

pub returns : goal.returns
returns c = record_written c.args.bytes.now (listed_of c.args.x) c.told-bytes c.write.ensures (rw c.number.ensures at c.write-2.ensures) c.write-3.ensures c.write-4.ensures c.write-5.ensures c.write_wide.ensures
