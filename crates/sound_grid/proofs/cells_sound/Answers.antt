use borrow.Author.Rules.{rules}
use Rattle.sound_grid.proofs.ExtentLaws.{cuts_count}
use Rattle.sound_grid.proofs.TileLaws.{tile_not, tile_end}
use Rattle.sound_grid.proofs.cells_sound.Goals as goal

pub returns-then-not-mark_cells : goal.returns-then-not-mark_cells
returns-then-not-mark_cells c = search tile_not

pub rows_once-requires : goal.rows_once-requires
rows_once-requires c = (search (cuts_count, rules), search (cuts_count, rules))

pub returns : goal.returns
returns c = search (tile_end, rules)
