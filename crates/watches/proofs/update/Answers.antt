use mathlib.Core.Bool.{not, ◌&&◌}
use mathlib.Core.Path.{◌≡◌, ap, ◌∙◌}
use native.Mathlib.Omega.{arith}
use lib.ListN.{length-set}
use borrow.Author.Rules.{rules}
use Rattle.watches.proofs.UpdateLaws.{bits_turn, Turned_start, Turned_turn, Turned_end}
use Rattle.watches.proofs.update.Goals as goal

pub loop-w-init : goal.loop-w-init
loop-w-init c = (search rules, omega arith, omega arith, λ places l n e. Turned_start places l _ _ _ n e)

pub loop-w-preserved : goal.loop-w-preserved
loop-w-preserved c = let inv = c.loop-w.invariant in
    let more = c.loop-w-test.true in
    let is = c.takes_in-is.result in
    let was = c.is_member-was.result in (
      length-set _ _ _ ∙ inv.0,
      bits_turn (is && not was) _ more (search rules) inv.1 c.with_bit-gained.ensures,
      bits_turn (was && not is) _ more (search rules) inv.2 c.with_bit-lost.ensures,
      λ places l n e. Turned_turn (inv.3 places l n e) more (search rules) c.requires
          c.takes_in-is.ensures c.is_member-was.ensures c.put_member.ensures
          c.with_bit-gained.ensures c.with_bit-lost.ensures,
    )

pub returns : goal.returns
returns c = λ places l n e. Turned_end (c.loop-w.invariant.3 places l n e) (search rules) n
