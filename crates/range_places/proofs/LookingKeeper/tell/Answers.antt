use Rattle.range_places.proofs.TableLaws.{entry_stale, entry_held}
use Rattle.range_places.proofs.LookingKeeper.tell.Goals as goal

pub returns-then-is_stale : goal.returns-then-is_stale
returns-then-is_stale c = search entry_stale

pub returns : goal.returns
returns c = search entry_held
