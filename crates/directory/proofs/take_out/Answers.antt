use borrow.Author.Rules.{rules}
use Rattle.directory.proofs.CellLaws.{close_directory}
use Rattle.directory.proofs.take_out.Goals as goal

pub returns : goal.returns
returns c = close_directory c.requires.0 c.args.at c.requires.1 c.requires.2 (search rules)
