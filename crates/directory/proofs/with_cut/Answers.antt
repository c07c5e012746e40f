use Rattle.directory.proofs.CutsLaws.{place_inside, cut_there, cut_room, cut_made}
use borrow.Author.Rules.{rules}
use Rattle.directory.proofs.with_cut.Goals as goal

pub stripe_low-requires : goal.stripe_low-requires
stripe_low-requires c = (search rules, search place_inside)

pub returns-then-stripe_low-at : goal.returns-then-stripe_low-at
returns-then-stripe_low-at c = search cut_there

pub cut_opened-requires : goal.cut_opened-requires
cut_opened-requires c = (search rules, search place_inside, search cut_room)

pub returns : goal.returns
returns c = search cut_made
