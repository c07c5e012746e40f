use Rattle.boxes.proofs.StripesLaws.{further_yes, further_no}
use Rattle.boxes.proofs.further.Goals as goal

pub returns-then-cut-x : goal.returns-then-cut-x
returns-then-cut-x c = search further_yes

pub returns-else-cut-x : goal.returns-else-cut-x
returns-else-cut-x c = search further_no
