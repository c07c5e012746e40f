use mathlib.Core.Path.{◌∙◌}
use native.Mathlib.Omega.{arith}
use borrow.Author.Rules.{rules}
use Rattle.desk.specs.Held.{waiting_with}
use Rattle.range_places.specs.Places.{sought_of}
use Rattle.range_places.proofs.TableLaws.{reports_start, reports_radios, reports_turn, reports_end}
use Rattle.range_places.proofs.hold_reports.Goals as goal

pub loop-i-init : goal.loop-i-init
loop-i-init c = (search rules, reports_start (sought_of c.args.search) (waiting_with c.args.n c.args.waiting.now) _)

pub bounds-table-report : goal.bounds-table-report
bounds-table-report c = let h = reports_radios (sought_of c.args.search) (waiting_with c.args.n c.args.waiting.now) (search rules) c.requires.0 c.loop-i.i (search rules) c.report_at-report.ensures c.requires.1 in omega arith

pub loop-i-preserved : goal.loop-i-preserved
loop-i-preserved c = let h = reports_radios (sought_of c.args.search) (waiting_with c.args.n c.args.waiting.now) (search rules) c.requires.0 c.loop-i.i (search rules) c.report_at-report.ensures c.requires.1 in
    (search rules, reports_turn (sought_of c.args.search) (waiting_with c.args.n c.args.waiting.now) (search rules) c.requires.0 c.loop-i.i (search rules) c.report_at-report.ensures _ _ _ c.loop-i.invariant.0 h c.wide_of-minute.ensures (search rules) c.loop-i.invariant.1)

pub returns : goal.returns
returns c = c.loop-i.invariant.1 ∙ reports_end (sought_of c.args.search) (waiting_with c.args.n c.args.waiting.now) _ _ (search rules)
