use Rattle.page_write.proofs.WriteLaws.{lent_entries}
use Rattle.page_write.proofs.write_page.Goals as goal

pub returns : goal.returns
returns c = search lent_entries
