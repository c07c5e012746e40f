use Rattle.page_write.proofs.WriteLaws.{put_entry}
use Rattle.page_write.proofs.write_entry.Goals as goal

pub returns : goal.returns
returns c = search put_entry
