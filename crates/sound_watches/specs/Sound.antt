-- Watches that are sound (02, Job 5): "A member list always equals the list a range over that rectangle would give if no age were tested, a store where it
-- doesn't, or where a set watch is reversed, is unsound".
use Rattle.std.specs.Prelude.{List, ◌≡◌}
use Rattle.rules.specs.Store.{Store}
use Rattle.rules.specs.Watches.{Watch, latest_place, RightWatches}
use Rattle.desk.specs.declared.Watch.{Watch as DeskWatch}
use Rattle.desk.specs.Layout.{watches_of}

-- the array is that of right watches beside this store
pub record WatchesSound (s : Store) (vs : List DeskWatch) : Type 0 where
  pub watches : List Watch
  pub right : RightWatches watches
  pub held : vs ≡ watches_of (latest_place s) watches
