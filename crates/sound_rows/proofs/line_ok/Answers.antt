use native.Mathlib.Omega.{arith}
use borrow.Author.Rules.{rules}
use Rattle.sound_rows.proofs.CodeLaws.{line_unmissed, line_placed, line_unmarked, line_east, line_north}
use Rattle.sound_rows.proofs.line_ok.Goals as goal

pub returns-then-x-eq0 : goal.returns-then-x-eq0
returns-then-x-eq0 c = search line_unmissed

pub returns-in-1 : goal.returns-in-1
returns-in-1 c = line_placed c.args.x (search rules) (search rules) (omega arith) (omega arith)

pub returns-then-x-eq0-2 : goal.returns-then-x-eq0-2
returns-then-x-eq0-2 c = line_north c.args.x (search rules) (search rules) (search rules)

pub returns-else-x-eq0-2 : goal.returns-else-x-eq0-2
returns-else-x-eq0-2 c = line_east c.args.x (search rules) (search rules)

pub returns-in_default : goal.returns-in_default
returns-in_default c = line_unmarked c.args.x (omega arith) (omega arith)
