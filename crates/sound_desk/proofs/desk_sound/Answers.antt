use borrow.Author.Rules.{rules}
use Rattle.desk.specs.Held.{desk_ledger}
use Rattle.sound_grid.proofs.SoundLaws.{grid_east_room, grid_north_room}
use Rattle.lists.proofs.Cases.{false-true}
use Rattle.sound_desk.proofs.DeskLaws.{desk_grid, desk_radios, desk_memo, desk_tally}
use Rattle.sound_desk.proofs.desk_sound.Goals as goal

pub returns-then-not-grid_sound : goal.returns-then-not-grid_sound
returns-then-not-grid_sound c = record { test = search desk_grid; shape = false-true }

pub radios_sound-requires : goal.radios_sound-requires
radios_sound-requires c = (search grid_east_room, search grid_north_room)

pub returns-then-not-radios_sound : goal.returns-then-not-radios_sound
returns-then-not-radios_sound c = record { test = search desk_radios; shape = false-true }

pub returns-then-not-memo_sound : goal.returns-then-not-memo_sound
returns-then-not-memo_sound c = record { test = search desk_memo; shape = false-true }

pub returns : goal.returns
returns c = record {
  test = search (desk_tally (desk_ledger c.args.desk.now));
  shape = λ _. record { easts = search rules; norths = search rules; cells = search rules; waiting = search rules; memo = search rules; on = search rules };
}
