-- Lines signed on one after the other, in desk and pages (02, Job 6).
use Rattle.std.specs.Prelude.{List, [], ◌≡◌, ℕ}
use Rattle.csv_grammar.specs.Csv.{Listed}
use Rattle.rules.specs.Calls.{carry_record}
use Rattle.rules.specs.Watches.{Watched, RightWatches}
use Rattle.rules.specs.WellFormed.{WellFormed}
use Rattle.desk.specs.declared.Desk.{Desk}
use Rattle.desk.specs.Layout.{desk_of, pages_of}
use Rattle.spreadsheet.specs.Read.{sign_on_of}

-- desk and pages are those of this store and its watches
pub record Holds (w : Watched) (d : Desk) (b : List ℕ) : Type 0 where
  pub well : WellFormed w.store
  pub right : RightWatches w.watches
  pub held : d ≡ desk_of w
  pub pages : b ≡ pages_of w.store

-- the store after the sign-on of a line
abbrev pub signed : Listed → Watched → Watched
signed l w = (carry_record (sign_on_of l.row) w []).watched
