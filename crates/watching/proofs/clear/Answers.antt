use borrow.Author.Rules.{rules}
use mathlib.Core.Bool.{not}
use mathlib.Core.List.{[]}
use mathlib.Core.Path.{refl, ap}
use Rattle.desk.proofs.CallLaws.{size_answers, unsound_answers, Sound_answers}
use Rattle.watching.proofs.clear.Goals as goal

pub returns-then-pages-ne-BUFFER_BYTES : goal.returns-then-pages-ne-BUFFER_BYTES
returns-then-pages-ne-BUFFER_BYTES c = size_answers c.args.desk.now c.args.pages.now _ [] (search rules) refl c.refused.ensures

pub returns-then-not-sound : goal.returns-then-not-sound
returns-then-not-sound c = unsound_answers c.args.desk.now c.args.pages.now _ [] (search (rules, c.if-pages-ne-BUFFER_BYTES.false)) c.sound.ensures.1 (ap not c.if-not-sound.true) refl c.refused-then-not-sound.ensures

pub returns : goal.returns
returns c = Sound_answers c.args.desk.now c.args.pages.now _ [] (c.sound.ensures.0 c.if-not-sound.false) (c.clear_sound.ensures c.args.pages.now)
