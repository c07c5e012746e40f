use borrow.Author.Rules.{rules}
use Rattle.desk.specs.Held.{waiting_with}
use Rattle.latest_fixes.specs.Fixes.{fixes_in}
use Rattle.latest_fixes.proofs.FixLaws.{reports_start, reports_radios, reports_turn, reports_end}
use Rattle.latest_fixes.proofs.hold_reports.Goals as goal

pub loop-i-init : goal.loop-i-init
loop-i-init c = reports_start c.args.seats.now (waiting_with c.args.n c.args.waiting.now) (fixes_in c.args.fixes.now)

pub hold-requires : goal.hold-requires
hold-requires c = (
  reports_radios c.args.seats.now (waiting_with c.args.n c.args.waiting.now) (fixes_in c.args.fixes.now) (search rules) c.requires.1 c.loop-i.i (search rules) c.report_at-report.ensures c.requires.2,
  search rules,
)

pub loop-i-preserved : goal.loop-i-preserved
loop-i-preserved c =
    reports_turn c.args.seats.now (waiting_with c.args.n c.args.waiting.now) (fixes_in c.args.fixes.now) (search rules) c.requires.1 c.loop-i.i (search rules) c.report_at-report.ensures
    c.loop-i.fixes c.hold.new.fixes c.wide_of.ensures c.loop-i.invariant c.hold.ensures

pub returns : goal.returns
returns c = reports_end c.args.seats.now (waiting_with c.args.n c.args.waiting.now) (fixes_in c.args.fixes.now) c.loop-i.i (fixes_in c.loop-i.fixes) (search rules) c.loop-i.invariant
