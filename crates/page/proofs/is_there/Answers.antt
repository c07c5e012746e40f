use mathlib.Core.Path.{◌∙◌}
use borrow.Author.Tests.{le-ltb}
use Rattle.page.proofs.ChainLaws.{past_there, in_there}
use Rattle.page.proofs.is_there.Goals as goal

pub returns-then-at-lt-PAGES : goal.returns-then-at-lt-PAGES
returns-then-at-lt-PAGES c = search in_there

pub returns-else-at-lt-PAGES : goal.returns-else-at-lt-PAGES
returns-else-at-lt-PAGES c = le-ltb _ _ c.if-at-lt-PAGES.false ∙ past_there _ _ c.if-at-lt-PAGES.false
