use native.Mathlib.Omega.{arith}
use Rattle.box_reports.proofs.PartingLaws.{part_end, part_at_start, part_at_goes, part_at_stays}
use borrow.Author.Rules.{rules}
use Rattle.box_reports.proofs.moved_apart.Goals as goal

pub loop-i-init : goal.loop-i-init
loop-i-init c = (search rules, part_at_start _ _ _ c.requires.1)

pub loop-i-preserved-then-goes : goal.loop-i-preserved-then-goes
loop-i-preserved-then-goes c =
    let i = c.loop-i.invariant in
    (omega (arith, i.0), part_at_goes c.args.waiting.now i.1 (search rules) (omega (arith, c.requires.0)) c.report_at-report.ensures c.in_box-goes.ensures (search rules) c.put_report.ensures)

pub loop-i-preserved : goal.loop-i-preserved
loop-i-preserved c =
    let i = c.loop-i.invariant in
    (omega (arith, i.0), part_at_stays c.args.waiting.now i.1 (search rules) (omega (arith, c.requires.0)) c.report_at-report.ensures c.in_box-goes.ensures (search rules) c.put_report-in-loop-i.ensures)

pub returns : goal.returns
returns c = let i = c.loop-i.invariant in (part_end _ (i.1.so _ c.boxes_of-at.ensures) (search rules) (search rules), search rules)
