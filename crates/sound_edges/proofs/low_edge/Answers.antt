use borrow.Author.Rules.{rules}
use Rattle.sound_edges.proofs.EdgeLaws.{low_first, low_loose, low_room, low_cut}
use Rattle.sound_edges.proofs.low_edge.Goals as goal

pub returns-then-x-eq0 : goal.returns-then-x-eq0
returns-then-x-eq0 c = search low_first

pub returns-in_err-before : goal.returns-in_err-before
returns-in_err-before c = search (low_loose, rules)

pub overflow_add-result : goal.overflow_add-result
overflow_add-result c = search (low_room, rules)

pub returns : goal.returns
returns c = search (low_cut, rules)
