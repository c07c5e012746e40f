use Rattle.directory.proofs.CutsLaws.{corner_laid}
use Rattle.directory.proofs.corner_of.Goals as goal

pub returns : goal.returns
returns c = search corner_laid
