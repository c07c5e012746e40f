use borrow.Author.Rules.{rules}
use Rattle.desk.proofs.CallLaws.{size_answers, unsound_answers, Sound_answers, Sound_by}
use Rattle.rules.specs.Calls.{hands}
use mathlib.Core.Path.{refl}
use Rattle.carry.proofs.carry.Goals as goal

pub returns-then-pages-ne-BUFFER_BYTES : goal.returns-then-pages-ne-BUFFER_BYTES
returns-then-pages-ne-BUFFER_BYTES c = size_answers c.args.desk.now c.args.pages.now (hands c.args.bytes.now) c.args.buffer.now (search rules) refl c.refused.ensures

pub returns-then-not-sound : goal.returns-then-not-sound
returns-then-not-sound c = unsound_answers c.args.desk.now c.args.pages.now (hands c.args.bytes.now) c.args.buffer.now (search rules) c.sound.ensures.1 (search rules) refl c.refused-then-not-sound.ensures

pub carry_sound-requires : goal.carry_sound-requires
carry_sound-requires c = Sound_by c.sound.result c.sound.ensures.0 (search rules)

pub returns : goal.returns
returns c = Sound_answers c.args.desk.now _ _ _ (Sound_by c.sound.result c.sound.ensures.0 (search rules)) c.carry_sound.ensures
