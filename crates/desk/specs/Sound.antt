-- A desk and page bytes are sound: they are those of a well-formed store (01, "A sound store") and of right watches (02, Job 5).
use Rattle.std.specs.Prelude.{List, ◌≡◌, ℕ}
use Rattle.rules.specs.Store.{Store}
use Rattle.rules.specs.WellFormed.{WellFormed}
use Rattle.rules.specs.Watches.{Watched, RightWatches}
use Rattle.desk.specs.declared.Desk.{Desk}
use Rattle.desk.specs.Held.{Ledger}
use Rattle.desk.specs.Layout.{ledger_of, desk_of, Laid}

-- the ledger is
pub record SoundLedger (ledger : Ledger) (bytes : List ℕ) : Type 0 where
  pub store : Store
  pub well : WellFormed store
  pub held : ledger ≡ ledger_of store
  pub laid : Laid store bytes

-- the whole desk is: "A member list always equals the list a range over that rectangle would give if no age were tested, a store where it doesn't, or where a
-- set watch is reversed, is unsound"
pub record Sound (desk : Desk) (bytes : List ℕ) : Type 0 where
  pub watched : Watched
  pub well : WellFormed watched.store
  pub right : RightWatches watched.watches
  pub held : desk ≡ desk_of watched
  pub laid : Laid watched.store bytes
