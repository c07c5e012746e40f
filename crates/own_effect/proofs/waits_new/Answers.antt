use Rattle.own_effect.proofs.OwnLaws.{new_missing, new_found}
use Rattle.own_effect.proofs.waits_new.Goals as goal

pub returns-in-Some : goal.returns-in-Some
returns-in-Some c = search new_found

pub returns-in-None : goal.returns-in-None
returns-in-None c = search new_missing
