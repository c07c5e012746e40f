use mathlib.Core.Path.{refl}
use Rattle.memo_index.proofs.JudgeLaws.{judge_no_line, judge_slot, judge_in}
use borrow.Author.Rules.{rules}
use Rattle.memo_index.proofs.is_stale.Goals as goal

pub returns-then-at-eq-NO_LINE : goal.returns-then-at-eq-NO_LINE
returns-then-at-eq-NO_LINE c = search judge_no_line

pub bounds-memo-at : goal.bounds-memo-at
bounds-memo-at c = search judge_slot

pub returns : goal.returns
returns c = judge_in _ _ _ c.radio_index-k.ensures.0 (search rules) refl c.is_elsewhere.ensures
