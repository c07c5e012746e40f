use borrow.Author.Rules.{rules}
use Rattle.box_due.proofs.DueLaws.{most_found}
use Rattle.box_due.proofs.fullest.Goals as goal

pub returns : goal.returns
returns c = search (most_found, rules)
