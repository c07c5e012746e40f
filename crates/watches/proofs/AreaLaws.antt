-- A watch that is set or cleared.
use mathlib.Core.Bool.{not}
use mathlib.Core.List.{List}
use Rattle.std.specs.Prelude.{Option, Some}
use mathlib.Core.Path.{◌≡◌, sym, ap, ◌∙◌}
use Prim.Native.Nat.{ℕ}
use lib.Dec.{eqb}
use lib.ListN.{set}
use lib.Seq.{map-set}
use Rattle.terms.specs.Terms.{Place}
use Rattle.lists.specs.Tests.{is_some}
use Rattle.lists.proofs.Cases.{by_cases}
use Rattle.rules.specs.Grid.{Rect}
use Rattle.rules.specs.Watches.{Watch}
use Rattle.desk.specs.declared.Watch.{Watch as DeskWatch}
use Rattle.desk.specs.Layout.{watch_of, watches_of}
use Rattle.desk.specs.Views.{watch_in}

-- whether a watch is set is told by its mark
pub mark_tells : (v : DeskWatch) → not (eqb v.set 0) ≡ is_some (watch_in v)
unfolding watch_in
mark_tells v = by_cases (eqb v.set 0) (λ t. rw t) (λ t. rw t)

-- all of a watch is put
pub put_watch : (places : ℕ → Option Place) (l : List Watch) (w : ℕ) (x : Watch) → set (watches_of places l) w (watch_of places x) ≡ watches_of places (set l w x)
unfolding watches_of
put_watch places l w x = sym (map-set (watch_of places) l w x)
