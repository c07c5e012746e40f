use native.Mathlib.Omega.{arith}
use Rattle.memo_sweep.proofs.LowerLaws.{up_start, up_Plain, up_goes, up_stays, up_end}
use borrow.Author.Rules.{rules}
use Rattle.memo_sweep.proofs.moved_up.Goals as goal

pub loop-i-init : goal.loop-i-init
loop-i-init c = (search rules, search rules, search up_start)

pub lowered_line-requires : goal.lowered_line-requires
lowered_line-requires c = search up_Plain

pub loop-i-preserved-in_default : goal.loop-i-preserved-in_default
loop-i-preserved-in_default c =
    let i = c.loop-i.invariant in
    (omega (arith, i.0), search rules, up_goes _ c.requires.0.0 _ i.2 (search rules) c.requires.0.2 c.requires.0.1 i.0 c.lowered_line.ensures c.in_default.is)

pub loop-i-preserved : goal.loop-i-preserved
loop-i-preserved c =
    let i = c.loop-i.invariant in
    (omega (arith, i.0), search rules, up_stays _ c.requires.0.0 _ i.2 (search rules) c.requires.0.2 c.requires.0.1 i.0 c.lowered_line.ensures c.in-Some.is)

pub returns : goal.returns
returns c = (search up_end, search rules)
