use Rattle.fresh.proofs.BeginLaws.{all_written}
use Rattle.fresh.proofs.write_pages.Goals as goal

pub returns : goal.returns
returns c = search all_written
