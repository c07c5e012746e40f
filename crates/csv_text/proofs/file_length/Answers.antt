use native.Mathlib.Omega.{arith}
use Rattle.csv_text.proofs.FileLaws.{Counted_start, Counted_turn, Counted_end, line_small}
use Rattle.csv_text.proofs.file_length.Goals as goal

pub loop-i-init : goal.loop-i-init
loop-i-init c = Counted_start c.args.radios.now c.args.fixes.now

pub overflow_add-total : goal.overflow_add-total
overflow_add-total c = let l = c.loop-i.invariant in omega (arith, l.few, line_small c.args.radios.now c.args.fixes.now c.loop-i.i c.line_length-total.ensures)

pub loop-i-preserved : goal.loop-i-preserved
loop-i-preserved c = Counted_turn c.loop-i.invariant c.line_length-total.ensures

pub returns : goal.returns
returns c = Counted_end c.loop-i.invariant (omega arith) (omega arith)
