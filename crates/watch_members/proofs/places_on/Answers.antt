use Rattle.desk.specs.Held.{desk_ledger}
use Rattle.range.proofs.StoreLaws.{range_asks}
use Rattle.watch_members.proofs.OnLaws.{few_on, small_on, places_found}
use Rattle.watch_members.proofs.places_on.Goals as goal

-- The table by radio has the latest place of each radio on; the two columns are taken for these alone.
pub hold_latest-requires : goal.hold_latest-requires
hold_latest-requires c = let sound = c.requires in
    (range_asks sound.store c.args.pages.now (desk_ledger c.args.desk.now) sound.well sound.laid sound.held).0

pub column_on-requires : goal.column_on-requires
column_on-requires c = let ledger = desk_ledger c.args.desk.now in
    (few_on ledger c.args.pages.now c.requires, small_on ledger c.args.pages.now c.requires)

pub column_on-requires-2 : goal.column_on-requires-2
column_on-requires-2 c = let ledger = desk_ledger c.args.desk.now in
    (few_on ledger c.args.pages.now c.requires, small_on ledger c.args.pages.now c.requires)

pub returns : goal.returns
returns c = λ sound. places_found (desk_ledger c.args.desk.now) c.args.pages.now sound _ _ (c.hold_latest.ensures c.args.desk.now.on sound) c.column_on.ensures c.column_on-2.ensures
