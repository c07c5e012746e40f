use Rattle.std.proofs.Common.{◌≡◌, ℕ, List, length}
use Rattle.std.specs.Prelude.{Option, None}
use Rattle.terms.specs.Terms.{Place}
use Rattle.lists.specs.Bits.{bits}
use Rattle.rules.specs.Watches.{max_watches, Watch, watch_at, is_member}
use Rattle.desk.specs.Layout.{watches_of}
use Rattle.watch_members.proofs.RadioLaws.{Raised}
use Rattle.watch_members.proofs.lay_radio.Given as goal

-- The watches below w have the radio as a member where they take it in, the others are as they were (`Raised`).
abbrev pub invariant-loop-w : goal.invariant-loop-w
invariant-loop-w live = (places : ℕ → Option Place) (p : Option Place) (l : List Watch) → length l ≡ max_watches → live.fn.watches ≡ watches_of places l → places live.radio ≡ None
    → live.number ≡ bits max_watches (λ v. is_member (watch_at l v) p) → Raised places l live.radio p live.w live.watches
