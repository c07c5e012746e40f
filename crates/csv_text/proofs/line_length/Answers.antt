use native.Mathlib.Omega.{arith}
use Rattle.csv_text.proofs.LineLaws.{line_takes}
use Rattle.csv_text.proofs.NumberLaws.{length-decimal-le}
use Rattle.csv_text.proofs.line_length.Goals as goal

pub overflow_add-result : goal.overflow_add-result
overflow_add-result c = omega (arith, length-decimal-le c.args.radio, length-decimal-le c.args.fix.place.east, length-decimal-le c.args.fix.place.north, length-decimal-le c.args.fix.minute)

pub overflow_add-result-2 : goal.overflow_add-result-2
overflow_add-result-2 c = omega (arith, length-decimal-le c.args.radio, length-decimal-le c.args.fix.place.east, length-decimal-le c.args.fix.place.north, length-decimal-le c.args.fix.minute)

pub overflow_add-result-3 : goal.overflow_add-result-3
overflow_add-result-3 c = omega (arith, length-decimal-le c.args.radio, length-decimal-le c.args.fix.place.east, length-decimal-le c.args.fix.place.north, length-decimal-le c.args.fix.minute)

pub overflow_add-result-4 : goal.overflow_add-result-4
overflow_add-result-4 c = omega (arith, length-decimal-le c.args.radio, length-decimal-le c.args.fix.place.east, length-decimal-le c.args.fix.place.north, length-decimal-le c.args.fix.minute)

pub returns : goal.returns
returns c = search line_takes
