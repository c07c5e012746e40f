use Rattle.std.proofs.Common.{◌≡◌, ℕ, List, length}
use Rattle.std.specs.Prelude.{Option}
use Rattle.terms.specs.Terms.{Place}
use Rattle.rules.specs.Watches.{max_watches, Watch}
use Rattle.desk.specs.Layout.{watches_of}
use Rattle.watch_members.specs.Members.{nowhere, OnlyOn}
use Rattle.watch_members.proofs.MembersLaws.{places_to, Taken}
use Rattle.watch_members.proofs.lay_members.Given as goal

-- The first i radios have their places, all others none (`places_to`).
abbrev pub invariant-loop-i : goal.invariant-loop-i
invariant-loop-i live = (places : ℕ → Option Place) (l : List Watch) → length l ≡ max_watches → live.fn.watches ≡ watches_of nowhere l → OnlyOn places live.n live.radios
    → Taken places live.radios l live.n live.numbers → live.watches ≡ watches_of (places_to places live.radios live.i) l
