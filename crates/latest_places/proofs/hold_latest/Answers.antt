use Rattle.desk.specs.Held.{desk_ledger, ledger_memo}
use Rattle.desk.specs.Views.{slots_in}
use Rattle.latest_places.proofs.LatestLaws.{latest_told, all_told}
use Rattle.latest_places.proofs.TellLaws.{lines_radios}
use Rattle.latest_places.proofs.hold_latest.Goals as goal

pub hold_cells-requires : goal.hold_cells-requires
unfolding slots_in
hold_cells-requires c = c.requires.entry_radios

pub hold_lines-requires : goal.hold_lines-requires
hold_lines-requires c = lines_radios (ledger_memo (desk_ledger c.args.desk.now)) c.requires.line_radios

pub returns : goal.returns
unfolding slots_in
returns c = λ on s r t.
    latest_told (record (desk_ledger c.args.desk.now) { on = on }) c.args.pages.now s _ r t _ _
    (all_told (record (desk_ledger c.args.desk.now) { on = on }) c.args.pages.now _ _ _ _ c.hold_cells.ensures c.hold_lines.ensures c.hold_reports.ensures)
