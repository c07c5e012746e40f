use Rattle.std.proofs.Common.{get_or, ◌∙◌, rules}
use Rattle.watch_members.proofs.MembersLaws.{places_to, members_start, members_laid, members_kept, members_end, next_none}
use Rattle.watch_members.proofs.lay_members.Goals as goal
use Rattle.watch_members.proofs.lay_members.Goals.{then-number-ne0, else-number-ne0}

pub loop-i-init : goal.loop-i-init
loop-i-init c = λ places l size e only taken. members_start places _ l e

pub lay_radio-requires : goal.lay_radio-requires
lay_radio-requires c = c.requires.1.small _ c.loop-i-test.true

pub loop-i-preserved : goal.loop-i-preserved
loop-i-preserved c = let radios = c.args.radios.now in
    let i = c.loop-i.i in
    let more = c.loop-i-test.true in
    let once = c.requires.1 in
    λ places l size e only taken.
    let laid = c.loop-i.invariant places l size e only taken in
    elim c.if-number-ne0.branch [
      | then-number-ne0 w ↦ w.watches-is ∙ members_laid places radios l _ i taken once more laid (w.lay_radio.ensures (places_to places radios i) (places (get_or radios i 0)) l size laid
          (next_none places radios l _ i taken once more laid) (taken.at i more))
      | else-number-ne0 w ↦ w.watches-is ∙ members_kept places radios l _ i taken once more laid size w.if-number-ne0.false
    ]

pub returns : goal.returns
returns c = λ places l size e only taken. members_end places _ l _ (c.loop-i.invariant places l size e only taken) (search rules) only
