use native.Mathlib.Omega.{arith}
use borrow.Author.Rules.{rules}
use Rattle.range.proofs.ListLaws.{on_radios, row_told, Writing_start, Writing_turn, Writing_end}
use Rattle.range.proofs.write_rows.Goals as goal

pub loop-i-init : goal.loop-i-init
loop-i-init c = (search rules, Writing_start c.args.table.now c.args.found.now c.args.n _)

pub bounds-table-radio : goal.bounds-table-radio
bounds-table-radio c = let h = on_radios c.args.found.now c.args.n c.loop-i.i (search rules) c.requires.1 (search rules) c.requires.2 in omega arith

pub loop-i-preserved : goal.loop-i-preserved
loop-i-preserved c = (search rules, Writing_turn c.args.table.now c.args.found.now c.args.n _ c.loop-i.i (search rules) c.requires.1 (search rules) c.requires.3 c.loop-i.invariant.1 (row_told _ _ _ _ _ c.unwrap_or-place.ensures c.write_row.ensures))

pub returns : goal.returns
returns c = Writing_end c.args.table.now c.args.found.now c.args.n _ _ (search rules) c.loop-i.invariant.1
