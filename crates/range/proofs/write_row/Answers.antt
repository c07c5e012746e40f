use Rattle.range.proofs.ListLaws.{put_row_lem}
use Rattle.range.proofs.write_row.Goals as goal

pub returns : goal.returns
returns c = search put_row_lem
