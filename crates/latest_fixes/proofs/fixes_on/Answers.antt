use native.Mathlib.Omega.{arith}
use Rattle.desk.specs.Held.{desk_ledger}
use Rattle.memo_index.proofs.IndexLaws.{Blank_zeros}
use Rattle.latest_fixes.specs.Fixes.{fixes_in}
use Rattle.latest_fixes.proofs.OnLaws.{readable, few_on, used_few, used_rise, used_small, fixes_found}
use Rattle.latest_fixes.proofs.fixes_on.Goals as goal

-- The fixes of a sound ledger's radios on: what stood there at the start is written over throughout (`fixes_found`).

pub shared_ref_as_front-radios : goal.shared_ref_as_front-radios
shared_ref_as_front-radios c = omega (arith, few_on (desk_ledger c.args.desk.now) c.args.pages.now c.requires)

pub seat_all-requires : goal.seat_all-requires
seat_all-requires c =
    let ledger = desk_ledger c.args.desk.now in
    let pages = c.args.pages.now in
    (used_few ledger pages c.requires, used_rise ledger pages c.requires, used_small ledger pages c.requires, Blank_zeros)

pub hold_all-requires : goal.hold_all-requires
hold_all-requires c = (c.seat_all.ensures.places, readable (desk_ledger c.args.desk.now) c.args.pages.now c.requires)

pub returns : goal.returns
returns c = λ sound. fixes_found (desk_ledger c.args.desk.now) c.args.pages.now sound (fixes_in c.args.fixes.now) c.seat_all.ensures c.hold_all.ensures
