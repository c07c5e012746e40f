use mathlib.Core.Path.{refl}
use borrow.Author.Rules.{rules}
use Rattle.sound_rows.proofs.CodeLaws.{memo_long, memo_unclear, memo_lines}
use Rattle.sound_rows.proofs.memo_sound.Goals as goal

pub returns-then-n-gt-LINE_SLOTS : goal.returns-then-n-gt-LINE_SLOTS
returns-then-n-gt-LINE_SLOTS c = record { test = search memo_long; shape = search rules }

pub returns-then-not-lines_unused : goal.returns-then-not-lines_unused
returns-then-not-lines_unused c = record { test = memo_unclear _ (search rules) _ (λ x. refl) c.lines_unused.ensures (search rules); shape = search rules }

pub returns : goal.returns
returns c = record { test = memo_lines _ (search rules) _ (λ x. refl) c.lines_unused.ensures (search rules) (search rules) c.lines_ok.ensures; shape = search rules }
