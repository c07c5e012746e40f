use native.Mathlib.Omega.{arith}
use Rattle.desk.specs.Held.{memo_in}
use Rattle.memo_sweep.proofs.LowerLaws.{lower_none, lower_end, used_unmarked, none_used, first_inside}
use borrow.Author.Rules.{rules}
use Rattle.memo_sweep.proofs.lowered.Goals as goal

pub returns-then-none_marked : goal.returns-then-none_marked
returns-then-none_marked c =
    lower_none (memo_in c.args.n c.args.lines.now) c.args.marks.now c.requires.0 c.requires.2 (none_used c.args.marks.now c.args.n (omega arith) (c.none_marked.ensures.0 (search rules)))

pub moved_up-k-requires : goal.moved_up-k-requires
moved_up-k-requires c =
    let h = c.first_marked-first.ensures in
    let k = first_inside c.args.marks.now c.args.n (omega arith) h.0 in
    (search rules, k, used_unmarked c.args.marks.now c.args.n (omega arith) _ k h.1)

pub returns : goal.returns
returns c = lower_end (memo_in c.args.n c.args.lines.now) c.requires.0 c.moved_up-k.ensures.0 (search rules) (search rules) (search rules) (c.fill.ensures.after (λ y e. e))
