use borrow.Author.Rules.{rules}
use native.Mathlib.Omega.{arith}
use Rattle.memo.proofs.MemoLaws.{used_rising, held_room, raise_set, raise_open}
use Rattle.memo.proofs.raised.Goals as goal

pub lookup-requires : goal.lookup-requires
lookup-requires c = used_rising c.args.n c.args.lines.now c.requires.0.2

pub overflow_add-lines : goal.overflow_add-lines
overflow_add-lines c = omega (arith, held_room c.requires.0.0 c.requires.0.2 c.in-Ok.ensures.held c.requires.1)

-- where the radio has a line, `alter` is `set` at its place; where it has none, `insert_at` at the place for it
pub returns-in-Ok : goal.returns-in-Ok
returns-in-Ok c = raise_set c.requires.0.0 c.requires.0.2 c.in-Ok.ensures.held _ c.new.ensures

pub returns-in-Err : goal.returns-in-Err
returns-in-Err c = raise_open c.requires.0.0 c.requires.0.2 c.in-Err.ensures.missing _ c.requires.0.1 (search rules) c.new-in-Err.ensures
