use Rattle.page.specs.Page.{used, count}
use borrow.Author.Rules.{rules}
use Rattle.page.proofs.entry_count.Goals as goal

pub returns : goal.returns
unfolding count used
returns c = search rules
