use mathlib.Core.Path.{sym, ap, subst}
use Rattle.rules.specs.Sweep.{tick}
use Rattle.desk.specs.declared.Desk.{Desk}
use Rattle.desk.specs.Held.{Ledger, desk_ledger}
use Rattle.desk.specs.Laid.{LaidLedger}
use Rattle.effects.proofs.EffectLaws.{tally_returns}
use Rattle.effects.proofs.ticked.Goals as goal

pub tick-requires : goal.tick-requires
tick-requires c = c.requires.before

pub returns-clause-laid : goal.returns-clause-laid
returns-clause-laid c = λ x.
    subst (λ (l : Ledger). LaidLedger (tick x.before.store) l c.tick.new.pages) (sym (ap (λ (d : Desk). desk_ledger d) c.tick.ensures.kept)) (tally_returns x c.tick.ensures.counted)
