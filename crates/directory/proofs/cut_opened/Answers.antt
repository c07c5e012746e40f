use borrow.Author.Rules.{rules}
use Rattle.directory.proofs.CutsLaws.{cut_open}
use Rattle.directory.proofs.cut_opened.Goals as goal

pub returns : goal.returns
returns c = cut_open c.args.cuts c.args.place c.args.at c.requires.0 (search rules) c.requires.1 c.requires.2 (search rules)
