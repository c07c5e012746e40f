use Rattle.page_write.proofs.WriteLaws.{free_end}
use Rattle.page_write.proofs.fill_free.Goals as goal

pub returns : goal.returns
returns c = search free_end
