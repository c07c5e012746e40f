use borrow.Author.Rules.{rules}
use mathlib.Core.Bool.{not}
use mathlib.Core.Path.{refl, ap}
use Rattle.rules.specs.Calls.{writes}
use Rattle.desk.proofs.CallLaws.{size_answers, unsound_answers, Sound_answers}
use Rattle.desk.proofs.UniqueLaws.{Sound_ledger}
use Rattle.spreadsheet_write.proofs.WriteLaws.{Wrote_carried}
use Rattle.spreadsheet_write.proofs.write_lent.Goals as goal

pub returns-then-pages-ne-BUFFER_BYTES : goal.returns-then-pages-ne-BUFFER_BYTES
returns-then-pages-ne-BUFFER_BYTES c = size_answers c.args.desk.now c.args.pages.now writes c.args.buffer.now (search rules) refl c.refused.ensures

pub returns-then-not-sound : goal.returns-then-not-sound
returns-then-not-sound c = unsound_answers c.args.desk.now c.args.pages.now writes c.args.buffer.now (search rules) c.sound.ensures.1 (ap not c.if-not-sound.true) refl c.refused-then-not-sound.ensures

pub write_sound-requires : goal.write_sound-requires
write_sound-requires c = Sound_ledger (c.sound.ensures.0 (search rules))

pub returns : goal.returns
returns c =
    Sound_answers c.args.desk.now c.args.pages.now writes c.args.buffer.now (c.sound.ensures.0 (search rules))
    (Wrote_carried c.args.desk.now c.args.pages.now c.args.buffer.now c.write_sound.ensures)
