use borrow.Author.Rules.{rules}
use Rattle.lists.proofs.SlotsLaws.{passed_true}
use Rattle.sound_grid.proofs.SoundLaws.{cells_room, grid_east, grid_north, grid_cells, grid_tile}
use Rattle.sound_grid.proofs.grid_sound.Goals as goal

pub returns-then-not-cuts_sound : goal.returns-then-not-cuts_sound
returns-then-not-cuts_sound c = record { test = search grid_east; shape = (search rules, search rules, search rules) }

pub returns-then-not-cuts_sound-2 : goal.returns-then-not-cuts_sound-2
returns-then-not-cuts_sound-2 c = record { test = search grid_north; shape = (search rules, search rules, search rules) }

pub returns-then-not-directory_sound : goal.returns-then-not-directory_sound
returns-then-not-directory_sound c = record { test = search grid_cells; shape = (search rules, search rules, search rules) }

pub shared_ref_as_front-cells_sound : goal.shared_ref_as_front-cells_sound
shared_ref_as_front-cells_sound c = search cells_room

pub cells_sound-requires : goal.cells_sound-requires
cells_sound-requires c = (search passed_true, search passed_true)

pub returns : goal.returns
returns c = record { test = search grid_tile; shape = (search rules, search rules, search rules) }
