use mathlib.Core.Path.{sym}
use native.Mathlib.Omega.{arith}
use Rattle.csv_grammar.specs.Csv.{and_then}
use Rattle.csv_reader.specs.Reading.{line_from}
use Rattle.csv_reader.proofs.FieldLaws.{inner_most, last_most}
use Rattle.csv_reader.proofs.line_of.Goals as goal

pub returns-in_err-radio : goal.returns-in_err-radio
unfolding line_from and_then
returns-in_err-radio c = rw (c.from_residual.ensures, ← c.in_err-radio.ensures)

pub returns-in_err-east : goal.returns-in_err-east
unfolding line_from and_then
returns-in_err-east c = rw (c.from_residual-in_err-east.ensures, ← c.in_ok-radio.ensures, ← c.in_err-east.ensures)

pub returns-in_err-north : goal.returns-in_err-north
unfolding line_from and_then
returns-in_err-north c = rw (c.from_residual-in_err-north.ensures, ← c.in_ok-radio.ensures, ← c.in_ok-east.ensures, ← c.in_err-north.ensures)

pub returns-in_err-minute : goal.returns-in_err-minute
unfolding line_from and_then
returns-in_err-minute c = rw (c.from_residual-in_err-minute.ensures, ← c.in_ok-radio.ensures, ← c.in_ok-east.ensures, ← c.in_ok-north.ensures, ← c.in_err-minute.ensures)

pub overflow_cast-result : goal.overflow_cast-result
overflow_cast-result c = omega (arith, inner_most 1 4095 _ (sym c.in_ok-radio.ensures))

pub overflow_cast-result-2 : goal.overflow_cast-result-2
overflow_cast-result-2 c = omega (arith, inner_most 0 65535 _ (sym c.in_ok-east.ensures))

pub overflow_cast-result-3 : goal.overflow_cast-result-3
overflow_cast-result-3 c = omega (arith, inner_most 0 65535 _ (sym c.in_ok-north.ensures))

pub overflow_cast-result-4 : goal.overflow_cast-result-4
overflow_cast-result-4 c = omega (arith, last_most 4294967295 _ (sym c.in_ok-minute.ensures))

pub returns : goal.returns
unfolding line_from and_then
returns c = rw (← c.in_ok-radio.ensures, ← c.in_ok-east.ensures, ← c.in_ok-north.ensures, ← c.in_ok-minute.ensures)
