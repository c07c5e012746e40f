use borrow.Author.Rules.{rules}
use Rattle.page_write.proofs.WriteLaws.{Writing_start, Writing_turn, Writing_end}
use Rattle.page_write.proofs.fill_page.Goals as goal

pub loop-i-init : goal.loop-i-init
loop-i-init c = Writing_start _ _ (search rules) (search rules)

pub loop-i-preserved : goal.loop-i-preserved
loop-i-preserved c = Writing_turn c.loop-i.invariant _ (search rules) (search rules) c.write_entry.ensures

pub returns : goal.returns
returns c = Writing_end c.loop-i.invariant c.args.page.now c.args.kind c.args.next c.args.cell (search rules) (search rules) (search rules) (search rules) c.write_header.ensures c.clear.ensures
