use Rattle.page_write.proofs.WriteLaws.{cleared}
use Rattle.page_write.proofs.clear.Goals as goal

pub returns : goal.returns
returns c = cleared c.args.page.now c.args.from c.requires (c.fill.ensures.after (λ y e. e))
