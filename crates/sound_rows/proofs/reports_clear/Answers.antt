use Rattle.sound_rows.proofs.ColumnsLaws.{radios_unclear, easts_unclear, norths_unclear, marks_unclear, lows_unclear, highs_clear}
use Rattle.sound_rows.proofs.reports_clear.Goals as goal

pub returns-then-not-column_clear : goal.returns-then-not-column_clear
returns-then-not-column_clear c = search radios_unclear

pub returns-then-not-column_clear-2 : goal.returns-then-not-column_clear-2
returns-then-not-column_clear-2 c = search easts_unclear

pub returns-then-not-column_clear-3 : goal.returns-then-not-column_clear-3
returns-then-not-column_clear-3 c = search norths_unclear

pub returns-then-not-column_clear-4 : goal.returns-then-not-column_clear-4
returns-then-not-column_clear-4 c = search marks_unclear

pub returns-then-not-column_clear-5 : goal.returns-then-not-column_clear-5
returns-then-not-column_clear-5 c = search lows_unclear

pub returns : goal.returns
returns c = search highs_clear
