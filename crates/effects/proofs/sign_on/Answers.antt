use mathlib.Core.Path.{ap}
use Rattle.desk.specs.declared.Desk.{Desk}
use Rattle.desk.specs.Held.{desk_ledger}
use Rattle.own_effect.proofs.StoreLaws.{on_asks}
use Rattle.effects.proofs.OwnLaws.{on_follows, on_done}
use Rattle.effects.proofs.sign_on.Goals as goal

pub signed_on-requires : goal.signed_on-requires
signed_on-requires c = let x = c.requires in on_asks x.sound.store (desk_ledger c.args.desk.now) x.sound.held x.sound.well x.signs.room

pub followed-requires : goal.followed-requires
followed-requires c =
    on_follows c.requires (c.signed_on.ensures.waits, c.signed_on.ensures.is_on) (ap (λ (d : Desk). desk_ledger (record d { parts = record d.parts { highest = c.args.fix.minute } })) c.signed_on.ensures.kept)

pub returns-clause-done : goal.returns-clause-done
returns-clause-done c = λ x.
    on_done x (c.signed_on.ensures.waits, c.signed_on.ensures.is_on) (ap (λ (d : Desk). desk_ledger (record d { parts = record d.parts { highest = c.args.fix.minute } })) c.signed_on.ensures.kept) c.followed.ensures.laid
