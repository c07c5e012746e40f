use borrow.Author.Rules.{rules}
use native.Mathlib.Omega.{arith}
use Rattle.csv_text.proofs.NumberLaws.{Going_start, Going_turn, Going_end}
use Rattle.csv_text.proofs.put_number.Goals as goal

pub loop-i-init : goal.loop-i-init
loop-i-init c = (search rules, Going_start c.args.buffer.now c.args.at c.args.n c.digits_of.ensures c.requires)

pub loop-i-preserved : goal.loop-i-preserved
loop-i-preserved c = let l = c.loop-i.invariant in (omega arith, Going_turn l.1 c.loop-i-test.true l.0 c.digit.ensures)

pub returns : goal.returns
returns c = (Going_end c.loop-i.invariant.1 (omega arith), search rules)
