use borrow.Author.Rules.{rules}
use Rattle.sound_directory.proofs.CutsLaws.{row_cuts}
use Rattle.sound_directory.proofs.cuts_sound.Goals as goal

pub returns : goal.returns
returns c = row_cuts c.args.c (search rules) c.row_sound.ensures
