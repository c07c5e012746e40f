use borrow.Author.Rules.{rules}
use Rattle.sound.proofs.SoundLaws.{ledger_unsound, ledger_passed, watches_say}
use Rattle.sound.proofs.sound.Goals as goal

pub returns-then-not-ledger_sound : goal.returns-then-not-ledger_sound
returns-then-not-ledger_sound c = ledger_unsound c.args.desk.now c.args.pages.now c.ledger_sound.ensures.1 (search rules)

pub watches_sound-requires : goal.watches_sound-requires
watches_sound-requires c = ledger_passed _ c.ledger_sound.ensures.0 (search rules)

pub returns : goal.returns
returns c = watches_say c.args.desk.now c.args.pages.now (ledger_passed _ c.ledger_sound.ensures.0 (search rules)) c.watches_sound.ensures
