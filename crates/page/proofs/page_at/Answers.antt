use Rattle.page.proofs.ChainLaws.{page_slice}
use Rattle.page.proofs.page_at.Goals as goal

pub returns : goal.returns
returns c = page_slice c.args.buffer.now c.args.p c.requires.1
