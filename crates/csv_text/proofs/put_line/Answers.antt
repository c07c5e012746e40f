use native.Mathlib.Omega.{arith}
use Rattle.csv_text.proofs.LineLaws.{length-line_of, line_put}
use Rattle.csv_text.proofs.put_line.Goals as goal

pub put_field-second-requires : goal.put_field-second-requires
put_field-second-requires c = omega (arith, length-line_of c.args.radio c.args.fix.place.east c.args.fix.place.north c.args.fix.minute)

pub put_field-third-requires : goal.put_field-third-requires
put_field-third-requires c = omega (arith, length-line_of c.args.radio c.args.fix.place.east c.args.fix.place.north c.args.fix.minute)

pub put_field-fourth-requires : goal.put_field-fourth-requires
put_field-fourth-requires c = omega (arith, length-line_of c.args.radio c.args.fix.place.east c.args.fix.place.north c.args.fix.minute)

pub put_number-end-requires : goal.put_number-end-requires
put_number-end-requires c = omega (arith, length-line_of c.args.radio c.args.fix.place.east c.args.fix.place.north c.args.fix.minute)

pub put_end-requires : goal.put_end-requires
put_end-requires c = omega (arith, length-line_of c.args.radio c.args.fix.place.east c.args.fix.place.north c.args.fix.minute)

pub returns : goal.returns
returns c = let l = length-line_of c.args.radio c.args.fix.place.east c.args.fix.place.north c.args.fix.minute in (
  line_put _ _ _ _ _ _ c.requires c.put_field-second.ensures c.put_field-third.ensures c.put_field-fourth.ensures c.put_number-end.ensures c.put_end.ensures.0,
  omega arith,
)
