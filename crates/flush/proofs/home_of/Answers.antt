use Rattle.desk.specs.Held.{grid_in}
use Rattle.flush.proofs.FlushLaws.{home_found}
use Rattle.flush.proofs.home_of.Goals as goal

pub returns : goal.returns
returns c = let e = c.args in
    home_found (grid_in e.frame e.cells.now) e.m _ c.corner_of-corner.ensures c.cell_at.ensures
