use borrow.Author.Rules.{rules}
use Rattle.latest_places.proofs.TellLaws.{told_place}
use Rattle.latest_places.proofs.hold.Goals as goal

pub returns : goal.returns
returns c = told_place _ _ _ c.args.place (search rules) (search rules) c.requires
