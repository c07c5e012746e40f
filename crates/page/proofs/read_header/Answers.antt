use Rattle.page.specs.Page.{used, kind, next, cell}
use Rattle.page.proofs.read_header.Goals as goal

pub returns : goal.returns
unfolding used kind next cell
returns c = cc
