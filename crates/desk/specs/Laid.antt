-- A store laid out in parts of the desk and in the bytes of the pages: in the grid, in grid and memo, in these and the waiting reports, in the whole ledger
-- (01, "What the desk holds"). Each is a part of the next.
use Rattle.std.specs.Prelude.{List, ◌≡◌, ℕ}
use Rattle.rules.specs.Store.{Store}
use Rattle.desk.specs.Held.{Ledger, Grid, Waiting, Memo, ledger_grid, ledger_waiting, ledger_memo, ledger_on}
use Rattle.desk.specs.Layout.{grid_of, waiting_of, memo_of, on_of, Laid}

-- cuts, directory and free chain
pub record LaidGrid (s : Store) (grid : Grid) (bytes : List ℕ) : Type 0 where
  pub grid_is : grid ≡ grid_of s
  pub laid : Laid s bytes

-- and the memo
pub record LaidMemo (s : Store) (grid : Grid) (memo : Memo) (bytes : List ℕ) : Type 0 where
  pub in_grid : LaidGrid s grid bytes
  pub memo_is : memo ≡ memo_of s.memo

-- and the waiting reports
pub record LaidWaiting (s : Store) (grid : Grid) (waiting : Waiting) (memo : Memo) (bytes : List ℕ) : Type 0 where
  pub in_memo : LaidMemo s grid memo bytes
  pub waiting_is : waiting ≡ waiting_of s.waiting

-- the whole ledger: who is on, the tally, and the highest minute
pub record LaidLedger (s : Store) (ledger : Ledger) (bytes : List ℕ) : Type 0 where
  pub in_waiting : LaidWaiting s (ledger_grid ledger) (ledger_waiting ledger) (ledger_memo ledger) bytes
  pub on_is : ledger_on ledger ≡ on_of s.on
  pub tally_is : ledger.parts.tally ≡ s.tally
  pub highest_is : ledger.parts.highest ≡ s.highest
