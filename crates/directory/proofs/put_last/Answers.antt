use Rattle.directory.proofs.CellLaws.{push_directory}
use Rattle.directory.proofs.put_last.Goals as goal

pub returns : goal.returns
returns c = push_directory c.requires.0 c.args.slot c.requires.1
