use Rattle.records.proofs.RecordsLaws.{place_told, fix_east, fix_west, fix_other}
use Rattle.records.proofs.Record.no_fix.Goals as goal

pub place-place-requires : goal.place-place-requires
place-place-requires c = search place_told

pub returns-then-place-eq0 : goal.returns-then-place-eq0
returns-then-place-eq0 c = search fix_east

pub returns-else-place-eq0 : goal.returns-else-place-eq0
returns-else-place-eq0 c = search fix_west

pub returns-in-SignOff : goal.returns-in-SignOff
returns-in-SignOff c = search fix_other
