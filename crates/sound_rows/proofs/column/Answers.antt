use Rattle.sound_rows.proofs.ColumnsLaws.{column_slice}
use Rattle.sound_rows.proofs.column.Goals as goal

pub returns : goal.returns
returns c = column_slice c.args.waiting.now c.args.k c.requires c.told-waiting
