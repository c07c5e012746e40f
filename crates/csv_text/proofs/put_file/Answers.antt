use native.Mathlib.Omega.{arith}
use lib.ListN.{length}
use Rattle.csv_text.specs.Text.{rows_in}
use Rattle.csv_text.proofs.FileLaws.{header_room, Lined_start, Lined_room, Lined_turn, Lined_end}
use Rattle.csv_text.proofs.put_file.Goals as goal

pub put_header-at-requires : goal.put_header-at-requires
put_header-at-requires c = header_room (rows_in (length c.args.radios.now) c.args.radios.now c.args.fixes.now) c.args.buffer.now c.requires.1

pub loop-i-init : goal.loop-i-init
loop-i-init c = Lined_start _ _ _ _ (omega arith) c.put_header-at.ensures.1

pub put_line-at-requires : goal.put_line-at-requires
put_line-at-requires c = omega (arith, Lined_room c.loop-i.invariant c.loop-i-test.true)

pub loop-i-preserved : goal.loop-i-preserved
loop-i-preserved c = Lined_turn c.loop-i.invariant c.loop-i-test.true c.put_line-at.ensures

pub returns : goal.returns
returns c = search Lined_end
