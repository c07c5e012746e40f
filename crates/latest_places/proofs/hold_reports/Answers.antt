use mathlib.Core.Path.{◌∙◌}
use borrow.Author.Rules.{rules}
use Rattle.desk.specs.Held.{waiting_with}
use Rattle.latest_places.proofs.TellLaws.{reports_start, reports_radio, reports_turn, reports_end}
use Rattle.latest_places.proofs.hold_reports.Goals as goal

pub loop-i-init : goal.loop-i-init
loop-i-init c = reports_start (waiting_with c.args.n c.args.waiting.now) _

pub hold-requires : goal.hold-requires
hold-requires c = reports_radio (waiting_with c.args.n c.args.waiting.now) (search rules) c.requires.0 c.loop-i.i (search rules) c.report_at-report.ensures c.requires.1

pub loop-i-preserved : goal.loop-i-preserved
loop-i-preserved c = reports_turn (waiting_with c.args.n c.args.waiting.now) (search rules) c.requires.0 c.loop-i.i (search rules) c.report_at-report.ensures _ _ _ c.loop-i.invariant c.hold.ensures

pub returns : goal.returns
returns c = c.loop-i.invariant ∙ reports_end (waiting_with c.args.n c.args.waiting.now) _ _ (search rules)
