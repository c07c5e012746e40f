use borrow.Author.Rules.{rules}
use Rattle.desk.specs.Views.{slots_in}
use Rattle.memo_index.proofs.IndexLaws.{Blank_zeros}
use Rattle.latest_fixes.proofs.FixLaws.{all_held}
use Rattle.latest_fixes.proofs.hold_all.Goals as goal

pub index_lines-requires : goal.index_lines-requires
index_lines-requires c = (search rules, search rules, search rules, Blank_zeros)

pub hold_cells-requires : goal.hold_cells-requires
unfolding slots_in
hold_cells-requires c = c.requires.1.entry_radios

pub returns : goal.returns
unfolding slots_in
returns c = all_held _ _ _ _ _ _ _ _ c.index_lines.ensures.1 c.hold_cells.ensures c.hold_reports.ensures
