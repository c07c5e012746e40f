use mathlib.Core.Path.{refl}
use Rattle.cell_join.proofs.NearLaws.{near_asks, near_merges, near_joins, near_some, near_puts, near_returns}
use Rattle.cell_join.proofs.join.Goals as goal

pub sweep_chain-lines-requires : goal.sweep_chain-lines-requires
sweep_chain-lines-requires c = near_asks c.requires.1 refl c.read_chain-other.result c.read_chain-other.ensures.0 c.read_chain-other.ensures.2

pub merge-requires : goal.merge-requires
merge-requires c = near_merges c.requires.1 refl c.read_chain-other.result c.read_chain-other.ensures.0 c.sweep_chain-lines.ensures

pub join_pages-ends-requires : goal.join_pages-ends-requires
join_pages-ends-requires c =
    (c.requires.0, c.read_chain-other.ensures.2, near_joins c.requires.1 refl c.read_chain-other.result c.read_chain-other.ensures.0 c.sweep_chain-lines.ensures _ c.merge.ensures.rows)

pub overflow_sub-n : goal.overflow_sub-n
overflow_sub-n c = near_some c.requires.1

pub joined_cells-requires : goal.joined_cells-requires
joined_cells-requires c = near_puts c.requires.1

pub returns-clause-laid : goal.returns-clause-laid
returns-clause-laid c = λ x.
    let b = near_joins x refl c.read_chain-other.result c.read_chain-other.ensures.0 c.sweep_chain-lines.ensures _ c.merge.ensures.rows in
    near_returns x refl c.read_chain-other.result c.read_chain-other.ensures.0 c.sweep_chain-lines.ensures (c.join_pages-ends.ensures b) c.joined_cells.ensures c.with_cells-desk.ensures
