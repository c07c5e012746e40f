use Rattle.page.specs.Page.{next}
use Rattle.page.proofs.ChainLaws.{there_bounds}
use Rattle.page.proofs.next_page.Goals as goal

pub page_at-requires : goal.page_at-requires
page_at-requires c = there_bounds _ _ c.requires

pub returns : goal.returns
unfolding next
returns c = cc
