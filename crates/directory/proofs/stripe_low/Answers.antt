use Rattle.directory.proofs.CutsLaws.{low_first, low_cut}
use Rattle.directory.proofs.stripe_low.Goals as goal

pub returns-then-i-eq0 : goal.returns-then-i-eq0
returns-then-i-eq0 c = search low_first

pub returns-else-i-eq0 : goal.returns-else-i-eq0
returns-else-i-eq0 c = search low_cut
