use Rattle.page_write.proofs.WriteLaws.{lent_free}
use Rattle.page_write.proofs.free_page.Goals as goal

pub returns : goal.returns
returns c = search lent_free
