use mathlib.Core.Path.{ap}
use Rattle.desk.specs.declared.Desk.{Desk}
use Rattle.desk.specs.Held.{desk_ledger}
use Rattle.own_effect.proofs.StoreLaws.{off_asks}
use Rattle.effects.proofs.OwnLaws.{off_follows, off_done}
use Rattle.effects.proofs.sign_off.Goals as goal

pub signed_off-requires : goal.signed_off-requires
signed_off-requires c = let x = c.requires in off_asks x.sound.store (desk_ledger c.args.desk.now) x.sound.held x.sound.well c.args.radio

pub ticked-requires : goal.ticked-requires
ticked-requires c = let own = c.signed_off.ensures in
    off_follows c.requires (own.waits, own.counted, own.is_off) (ap (λ (d : Desk). desk_ledger (record d { parts = record d.parts { highest = c.args.minute } })) own.kept)

pub returns-clause-done : goal.returns-clause-done
returns-clause-done c = λ x. let own = c.signed_off.ensures in
    off_done x (own.waits, own.counted, own.is_off) (ap (λ (d : Desk). desk_ledger (record d { parts = record d.parts { highest = c.args.minute } })) own.kept) c.ticked.ensures.laid
