use Rattle.sound_grid.proofs.ExtentLaws.{cuts_tested, cuts_count, extent_room, edges_east, edges_north, edges_whole}
use Rattle.sound_grid.proofs.TileLaws.{raised_not, slot_held}
use Rattle.sound_grid.proofs.mark_slot.Goals as goal

pub shared_ref_as_front-east_cuts : goal.shared_ref_as_front-east_cuts
shared_ref_as_front-east_cuts c = search cuts_count

pub shared_ref_as_front-north_cuts : goal.shared_ref_as_front-north_cuts
shared_ref_as_front-north_cuts c = search cuts_count

pub extent_of-requires : goal.extent_of-requires
extent_of-requires c = search cuts_tested

pub returns-in_default : goal.returns-in_default
returns-in_default c = (search edges_east, search raised_not)

pub extent_of-requires-2 : goal.extent_of-requires-2
extent_of-requires-2 c = search cuts_tested

pub returns-in_default-extent_of : goal.returns-in_default-extent_of
returns-in_default-extent_of c = (search edges_north, search raised_not)

pub mark_cell-requires : goal.mark_cell-requires
mark_cell-requires c = (search extent_room, search extent_room)

pub returns : goal.returns
returns c = (search edges_whole, search slot_held)
