use Rattle.cell_last.proofs.CellsLaws.{out_puts}
use Rattle.cell_join.proofs.SlotsLaws.{joined_return}
use Rattle.cell_join.proofs.joined_cells.Goals as goal

pub put_last-requires : goal.put_last-requires
put_last-requires c = out_puts c.args.n c.args.rest.now _ c.args.k c.take_out.ensures c.requires.1 c.requires.2

pub returns : goal.returns
returns c = joined_return c.args.n c.args.rest.now c.args.k c.joined_slot-joined.result _ c.requires.1 c.take_out.ensures c.joined_slot-joined.ensures c.put_last.ensures
