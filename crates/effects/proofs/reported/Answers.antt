use mathlib.Core.Path.{ap}
use Rattle.desk.specs.declared.Desk.{Desk}
use Rattle.desk.specs.Held.{desk_ledger}
use Rattle.own_effect.proofs.StoreLaws.{report_asks}
use Rattle.effects.proofs.OwnLaws.{report_follows, report_done}
use Rattle.effects.proofs.reported.Goals as goal

pub reported-requires : goal.reported-requires
reported-requires c = let x = c.requires in report_asks x.sound.store (desk_ledger c.args.desk.now) x.sound.held x.sound.well

pub followed-requires : goal.followed-requires
followed-requires c =
    report_follows c.requires c.reported.ensures.waits (ap (λ (d : Desk). desk_ledger (record d { parts = record d.parts { highest = c.args.fix.minute } })) c.reported.ensures.kept)

pub returns-clause-done : goal.returns-clause-done
returns-clause-done c = λ x.
    report_done x c.reported.ensures.waits (ap (λ (d : Desk). desk_ledger (record d { parts = record d.parts { highest = c.args.fix.minute } })) c.reported.ensures.kept) c.followed.ensures.laid
