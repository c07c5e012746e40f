use Rattle.latest_fixes.proofs.FixLaws.{entry_stale, entry_held}
use Rattle.latest_fixes.proofs.TellingKeeper.tell.Goals as goal

pub returns-then-is_stale : goal.returns-then-is_stale
returns-then-is_stale c = search entry_stale

pub returns : goal.returns
returns c = search entry_held
