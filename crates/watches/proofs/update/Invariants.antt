use mathlib.Core.List.{List}
use Rattle.std.specs.Prelude.{Option, option_map}
use mathlib.Core.Path.{◌≡◌}
use Prim.Native.Nat.{ℕ, ◌-◌, ◌^◌, ◌<◌}
use lib.ListN.{length}
use Rattle.terms.specs.Terms.{Place}
use Rattle.terms.specs.Values.{place_of}
use Rattle.rules.specs.Watches.{max_watches, Watch}
use Rattle.desk.specs.Layout.{watches_of}
use Rattle.watches.proofs.UpdateLaws.{Turned}
use Rattle.watches.proofs.update.Given as goal

-- From watch 15 down: those from w on are brought up to date, the others are as they were (`Turned`); each turn makes one bit of either number.
abbrev pub invariant-loop-w : goal.invariant-loop-w
invariant-loop-w live = (length live.watches ≡ max_watches) × (live.gained < 2 ^ (max_watches - live.w)) × (live.lost < 2 ^ (max_watches - live.w))
    × ((places : ℕ → Option Place) (l : List Watch) → length l ≡ max_watches → live.fn.watches ≡ watches_of places l
    → Turned places l live.radio (option_map place_of live.place) live.w live.watches live.gained live.lost)
