use mathlib.Core.Path.{ap, ◌∙◌}
use borrow.Author.Rules.{rules}
use Rattle.page_layout.specs.Layout.{top}
use Rattle.page_layout.proofs.TestLaws.{top_turn, top_end, rest_lent}
use Rattle.page_layout.proofs.top_from.Goals as goal

pub loop-byte-preserved : goal.loop-byte-preserved
loop-byte-preserved c = search (top_turn, rules)

pub returns : goal.returns
returns c = top_end _ _ _ c.loop-byte-test.false c.loop-byte.invariant ∙ ap top (rest_lent c.args.page.now c.args.from)
