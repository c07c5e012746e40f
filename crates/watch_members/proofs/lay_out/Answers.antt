use Rattle.std.proofs.Common.{◌∙◌}
use Rattle.rules.specs.Watches.{latest_place}
use Rattle.desk.specs.Held.{desk_ledger}
use Rattle.desk.specs.Views.{watches_in}
use Rattle.desk.proofs.WatchesLaws.{length_in}
use Rattle.watch_members.proofs.MembersLaws.{Numbers-Taken}
use Rattle.watch_members.proofs.NumbersLaws.{none_Numbered}
use Rattle.watch_members.proofs.OnLaws.{few_on, once_on, only_on}
use Rattle.watch_members.proofs.lay_out.Goals as goal

pub number_each-requires : goal.number_each-requires
number_each-requires c = (few_on (desk_ledger c.args.desk.now) c.args.pages.now c.requires, none_Numbered _)

pub lay_members-requires : goal.lay_members-requires
lay_members-requires c = let ledger = desk_ledger c.args.desk.now in
    (few_on ledger c.args.pages.now c.requires, once_on ledger c.args.pages.now c.requires)

pub returns : goal.returns
returns c = let l = watches_in c.args.desk.now.watches in
    let n = length_in c.args.desk.now.watches ∙ c.lay_areas.ensures.long in
    λ sound. c.lay_members.ensures (latest_place sound.store) l n c.lay_areas.ensures.laid (only_on (desk_ledger c.args.desk.now) c.args.pages.now sound)
    (Numbers-Taken _ _ l _ n c.lay_areas.ensures.laid (c.places_on.ensures sound) c.number_each.ensures)
