use Rattle.settle.proofs.LoopLaws.{kind_first_lem, kind_further_lem}
use Rattle.settle.proofs.kind_at.Goals as goal

pub returns-then-k-eq0 : goal.returns-then-k-eq0
returns-then-k-eq0 c = search kind_first_lem

pub returns-else-k-eq0 : goal.returns-else-k-eq0
returns-else-k-eq0 c = search kind_further_lem
