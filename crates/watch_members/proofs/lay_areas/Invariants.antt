use Rattle.std.proofs.Common.{◌≡◌, length, get_or}
use Rattle.rules.specs.Watches.{max_watches}
use Rattle.desk.specs.Layout.{watch_of, no_watch}
use Rattle.desk.specs.Views.{watch_in}
use Rattle.watch_members.specs.Members.{nowhere, Filled}
use Rattle.watch_members.proofs.lay_areas.Given as goal

-- The first w watches are laid out, without members.
abbrev pub invariant-loop-w : goal.invariant-loop-w
invariant-loop-w l = (length l.laid ≡ max_watches) × Filled (λ v. watch_of nowhere (watch_in (get_or l.watches v no_watch))) no_watch l.w l.laid
