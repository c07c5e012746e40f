use mathlib.Core.Path.{refl}
use native.Mathlib.Omega.{arith}
use Rattle.cell_last.proofs.CellsLaws.{out_puts}
use Rattle.cell_split.proofs.SlotsLaws.{last_puts, sides_return}
use Rattle.cell_split.proofs.split_cells.Goals as goal

pub put_last-requires : goal.put_last-requires
put_last-requires c = out_puts c.args.n c.args.cells.now _ c.args.at c.take_out.ensures c.requires.1 (omega (arith, c.requires.2))

pub put_last-requires-2 : goal.put_last-requires-2
put_last-requires-2 c = (last_puts c.args.n c.args.cells.now c.args.at c.requires.1 c.take_out.ensures c.low_slot-low.result c.put_last.ensures, c.requires.2)

pub returns : goal.returns
returns c = sides_return c.args.n c.args.cells.now c.args.at c.requires.1 c.take_out.ensures c.low_slot-low.result c.put_last.ensures _ _ _ _ refl c.low_slot-low.ensures c.high_slot-high.ensures c.put_last-2.ensures
