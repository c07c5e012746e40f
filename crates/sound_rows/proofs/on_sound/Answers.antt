use Rattle.sound_rows.proofs.CodeLaws.{on_row}
use Rattle.sound_rows.proofs.on_sound.Goals as goal

pub returns : goal.returns
returns c = search on_row
