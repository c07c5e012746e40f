use mathlib.Core.Path.{◌∙◌, sym, ap}
use mathlib.Core.Bool.{not}
use native.Mathlib.Omega.{arith}
use Rattle.split.proofs.SplitLaws.{side_start, side_more, side_same, side_few}
use Rattle.split.proofs.parted.Goals as goal
use Rattle.split.proofs.parted.Goals.{then-is_low, else-is_low}

pub loop-entry-init : goal.loop-entry-init
loop-entry-init c = (c.clear.ensures ∙ side_start _, c.clear-2.ensures ∙ side_start _)

pub push-requires : goal.push-requires
push-requires c = omega (arith, side_few _ c.args.entries.now c.loop-entry.invariant.0 (omega arith))

pub push-requires-else-is_low : goal.push-requires-else-is_low
push-requires-else-is_low c = omega (arith, side_few _ c.args.entries.now c.loop-entry.invariant.1 (omega arith))

pub loop-entry-preserved : goal.loop-entry-preserved
loop-entry-preserved c =
    let v = c.loop-entry.invariant in
    let es = c.args.entries.now in
    let more = c.loop-entry-test.true in
    elim c.if-is_low.branch [
      | then-is_low w ↦ let low = sym c.is_low.ensures ∙ w.if-is_low.true in (
        w.low-is ∙ side_more _ es v.0 more low w.push.ensures,
        w.high-is ∙ side_same _ es v.1 more (ap not low),
      )
      | else-is_low w ↦ let high = sym c.is_low.ensures ∙ w.if-is_low.false in (
        w.low-is ∙ side_same _ es v.0 more high,
        w.high-is ∙ side_more _ es v.1 more (ap not high) w.push-else-is_low.ensures,
      )
    ]

pub returns-clause-few : goal.returns-clause-few
returns-clause-few c =
    let v = c.loop-entry.invariant in
    (omega (arith, side_few _ c.args.entries.now v.0 (omega arith)), omega (arith, side_few _ c.args.entries.now v.1 (omega arith)))
