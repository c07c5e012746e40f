use Rattle.page.specs.Page.{entry_at}
use Rattle.page.proofs.read_entry.Goals as goal

pub returns : goal.returns
unfolding entry_at
returns c = cc
