use Rattle.boxes.proofs.BoxLaws.{box_laid}
use Rattle.boxes.proofs.box_of.Goals as goal

pub returns : goal.returns
returns c = search box_laid
