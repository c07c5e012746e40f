use native.Mathlib.Omega.{arith}
use borrow.Author.Rules.{rules}
use Rattle.range.proofs.ListLaws.{on_radios, keep_start, keep_turn, keep_end}
use Rattle.range.proofs.found_on.Goals as goal

pub loop-i-init : goal.loop-i-init
loop-i-init c = (search rules, search (keep_start, rules))

pub bounds-table-radio : goal.bounds-table-radio
bounds-table-radio c = let h = on_radios c.args.radios.now c.args.n c.loop-i.i (search rules) c.requires.1 (search rules) c.requires.2 in omega arith

pub loop-i-preserved : goal.loop-i-preserved
loop-i-preserved c = let h = c.is_some.ensures in (search rules, keep_turn c.loop-i.invariant.1 (search rules) c.requires.1 (search rules) c.loop-i.invariant.0 c.is_some.ensures c.one_if-kept.ensures.0)

pub returns : goal.returns
returns c = (search (keep_end, rules), search rules, search rules)
