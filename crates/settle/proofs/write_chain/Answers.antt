use native.Mathlib.Omega.{arith}
use borrow.Author.Rules.{rules}
use mathlib.Core.Path.{◌∙◌}
use Rattle.settle.proofs.LoopLaws.{Writing_start, Writing_below, Writing_from, Writing_held, Writing_turn, Writing_end}
use Rattle.settle.proofs.write_chain.Goals as goal

pub loop-k-init : goal.loop-k-init
loop-k-init c = (search rules, Writing_start _ _ _ _ _ (search rules) (search rules) (search rules) (search rules))

pub slice_bounds-write_page-count : goal.slice_bounds-write_page-count
slice_bounds-write_page-count c = omega (arith, c.min-end.ensures, Writing_from c.args.entries.now c.loop-k.invariant.1 c.loop-k-test.true)

pub slice_bounds-write_page-start : goal.slice_bounds-write_page-start
slice_bounds-write_page-start c = omega (arith, c.min-end.ensures, Writing_from c.args.entries.now c.loop-k.invariant.1 c.loop-k-test.true)

pub write_page-requires : goal.write_page-requires
write_page-requires c =
    let w = c.loop-k.invariant.1 in
    (search rules, Writing_below c.args.entries.now w c.loop-k-test.true, Writing_held c.args.entries.now w c.loop-k-test.true c.min-end.ensures)

pub loop-k-preserved : goal.loop-k-preserved
loop-k-preserved c = (
  search rules,
  Writing_turn _ c.loop-k.invariant.1 c.loop-k-test.true (c.number.ensures ∙ c.kind_at.ensures) c.min-end.ensures c.write_page.ensures,
)

pub returns : goal.returns
returns c = Writing_end _ c.loop-k.invariant.1 c.loop-k-test.false
