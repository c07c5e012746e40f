use mathlib.Core.Path.{ap}
use Rattle.desk.specs.declared.Desk.{Desk}
use Rattle.desk.specs.Held.{desk_ledger}
use Rattle.effects.proofs.EffectLaws.{flush_follows, flush_done}
use Rattle.effects.proofs.followed.Goals as goal

pub after_report-requires : goal.after_report-requires
after_report-requires c = c.requires.before

pub ticked-requires : goal.ticked-requires
ticked-requires c = flush_follows c.requires c.after_report.ensures.laid (ap (λ (d : Desk). desk_ledger d) c.after_report.ensures.kept)

pub returns-clause-laid : goal.returns-clause-laid
returns-clause-laid c = λ x.
    flush_done x c.after_report.ensures.laid (ap (λ (d : Desk). desk_ledger d) c.after_report.ensures.kept) c.ticked.ensures.laid
