use borrow.Author.Tests.{eq-eqb, ne_eqb}
use Rattle.fresh.proofs.free_after.Goals as goal

pub returns-then-p-eq-PAGES : goal.returns-then-p-eq-PAGES
returns-then-p-eq-PAGES c = rw (eq-eqb _ _ c.if-p-eq-PAGES.true)

pub returns : goal.returns
returns c = rw (ne_eqb _ _ c.if-p-eq-PAGES.false)
