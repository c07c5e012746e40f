use Rattle.desk.specs.Held.{memo_in}
use Rattle.memo_index.proofs.IndexLaws.{Indexing}
use Rattle.memo_index.proofs.index_lines.Given as goal

-- The lines so far are named (`Indexing`).
abbrev pub invariant-loop-i : goal.invariant-loop-i
invariant-loop-i l = Indexing (memo_in l.fn.n l.fn.memo) l.i l.lines
