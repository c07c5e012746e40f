use Rattle.csv_grammar.specs.Csv.{radio_name, east_name, north_name, after_header}
use Rattle.csv_reader.proofs.EndLaws.{then_none, then_some, column_none, column_some}
use Rattle.csv_reader.proofs.header_end.Goals as goal

pub returns-in_err-east : goal.returns-in_err-east
unfolding after_header
returns-in_err-east c = rw c.from_residual.ensures (column_none radio_name _ c.in_err-east.ensures)

pub returns-in_err-north : goal.returns-in_err-north
unfolding after_header
returns-in_err-north c = rw c.from_residual-in_err-north.ensures (column_some radio_name _ c.in_ok-east.ensures (column_none east_name _ c.in_err-north.ensures))

pub returns-in_err-minute : goal.returns-in_err-minute
unfolding after_header
returns-in_err-minute c =
    rw c.from_residual-in_err-minute.ensures
    (column_some radio_name _ c.in_ok-east.ensures (column_some east_name _ c.in_ok-north.ensures (column_none north_name _ c.in_err-minute.ensures)))

pub returns-in_err-end : goal.returns-in_err-end
unfolding after_header
returns-in_err-end c =
    rw c.from_residual-in_err-end.ensures
    (column_some radio_name _ c.in_ok-east.ensures
    (column_some east_name _ c.in_ok-north.ensures (column_some north_name _ c.in_ok-minute.ensures (then_none _ c.in_err-end.ensures))))

pub returns : goal.returns
unfolding after_header
returns c =
    column_some radio_name _ c.in_ok-east.ensures
    (column_some east_name _ c.in_ok-north.ensures (column_some north_name _ c.in_ok-minute.ensures (then_some _ c.in_ok-end.ensures c.line_end.ensures)))
