use Rattle.sound_desk.proofs.DeskLaws.{waiting_room, radios_waiting, radios_heard, radios_few}
use borrow.Author.Rules.{rules}
use Rattle.sound_desk.proofs.radios_sound.Goals as goal

pub returns-then-not-waiting_sound : goal.returns-then-not-waiting_sound
returns-then-not-waiting_sound c = search radios_waiting

pub returns-then-not-on_sound : goal.returns-then-not-on_sound
returns-then-not-on_sound c = search radios_heard

pub few_sound-requires : goal.few_sound-requires
few_sound-requires c = (search rules, search rules, search waiting_room)

pub returns : goal.returns
returns c = search radios_few
