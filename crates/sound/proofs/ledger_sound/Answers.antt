use borrow.Author.Rules.{rules}
use Rattle.desk.specs.Held.{desk_ledger}
use Rattle.sound.proofs.SoundLaws.{desk_unsound, pages_unsound, desk_passed, pages_passed, radios_say}
use Rattle.sound.proofs.ledger_sound.Goals as goal

pub returns-then-not-desk_sound : goal.returns-then-not-desk_sound
returns-then-not-desk_sound c = desk_unsound (desk_ledger c.args.desk.now) c.args.pages.now c.desk_sound.ensures.test (search rules)

pub returns-then-not-pages_sound : goal.returns-then-not-pages_sound
returns-then-not-pages_sound c = pages_unsound (desk_ledger c.args.desk.now) c.args.pages.now c.pages_sound.ensures (search rules)

pub radios_sound-requires : goal.radios_sound-requires
radios_sound-requires c = let d = desk_ledger c.args.desk.now in (
  c.desk_sound.ensures.shape (search rules),
  desk_passed d c.desk_sound.ensures.test (search rules),
  pages_passed d c.args.pages.now c.pages_sound.ensures (search rules),
)

pub returns : goal.returns
returns c =
    radios_say (desk_ledger c.args.desk.now) c.args.pages.now c.pages_sound.ensures (search rules) (c.desk_sound.ensures.shape (search rules)) c.desk_sound.ensures.test (search rules)
    c.radios_sound.ensures
