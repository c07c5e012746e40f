use Rattle.range_places.proofs.TableLaws.{seen_in, seen_out}
use Rattle.range_places.proofs.Search.seen.Goals as goal

pub returns-then-is_covered-self : goal.returns-then-is_covered-self
returns-then-is_covered-self c = search seen_in

pub returns-else-is_covered-self : goal.returns-else-is_covered-self
returns-else-is_covered-self c = search seen_out
