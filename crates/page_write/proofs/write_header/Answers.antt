use Rattle.page_write.proofs.WriteLaws.{put_head}
use Rattle.page_write.proofs.write_header.Goals as goal

pub returns : goal.returns
returns c = search put_head
