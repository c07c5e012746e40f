use Rattle.boxes.proofs.StripesLaws.{boxed}
use Rattle.boxes.proofs.boxes_of.Goals as goal

pub returns : goal.returns
returns c = search boxed
