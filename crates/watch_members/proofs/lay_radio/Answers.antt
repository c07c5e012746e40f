use Rattle.std.proofs.Common.{sym, ◌∙◌, rules}
use Rattle.rules.specs.Watches.{watch_at, is_member}
use Rattle.watch_members.proofs.RadioLaws.{bit_tells, Raised_start, Raised_put, Raised_kept, Raised_end}
use Rattle.watch_members.proofs.lay_radio.Goals as goal
use Rattle.watch_members.proofs.lay_radio.Goals.{then-is_set, else-is_set}

pub loop-w-init : goal.loop-w-init
loop-w-init c = λ places p l n e z b. Raised_start places l _ p _ n e

pub loop-w-preserved : goal.loop-w-preserved
loop-w-preserved c = λ places p l n e z b.
    let more = c.loop-w-test.true in
    let raised = c.loop-w.invariant places p l n e z b in
    let tells = bit_tells (λ v. is_member (watch_at l v) p) _ b more c.is_set.ensures in
    elim c.if-is_set.branch [
      | then-is_set w ↦ Raised_put raised more c.requires (sym w.if-is_set.true ∙ tells) w.put_member.ensures w.watches-is
      | else-is_set w ↦ Raised_kept raised more z (sym tells ∙ w.if-is_set.false) w.watches-is
    ]

pub returns : goal.returns
returns c = λ places p l n e z b. Raised_end (c.loop-w.invariant places p l n e z b) (search rules) n
