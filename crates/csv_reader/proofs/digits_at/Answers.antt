use native.Mathlib.Omega.{arith}
use borrow.Author.Rules.{rules}
use Rattle.csv_reader.proofs.NumberLaws.{digits_end, digits_stop, digits_turn}
use Rattle.csv_reader.proofs.digits_at.Goals as goal

pub returns-then-not-is_ascii_digit : goal.returns-then-not-is_ascii_digit
returns-then-not-is_ascii_digit c = search (digits_stop, c.is_ascii_digit.ensures.value)

pub loop-i-preserved : goal.loop-i-preserved
loop-i-preserved c = (search rules, search (digits_turn, c.is_ascii_digit.ensures.value))

pub returns : goal.returns
returns c = let l = c.loop-i.invariant in digits_end c.args.file.now c.args.from c.loop-i.number c.loop-i.i l.1 l.0 (search rules) (omega arith)
