-- What the desk holds, part by part (01, "What the desk holds"): each of its arrays with the count that says how far it is in use.
use Rattle.std.specs.Prelude.{List, ℕ}
use Rattle.desk.specs.declared.CutList.{CutList}
use Rattle.desk.specs.declared.Slot.{Slot}
use Rattle.desk.specs.declared.Line.{Line}
use Rattle.desk.specs.declared.Watch.{Watch}
use Rattle.desk.specs.declared.Frame.{Frame}
use Rattle.desk.specs.declared.Parts.{Parts}
use Rattle.desk.specs.declared.Desk.{Desk}

-- ---- the parts

-- the cells, in the order of the round
pub record Directory : Type 0 where
  pub n : ℕ
  pub slots : List Slot

-- what a split or a join changes: cuts, cells and the front of the free chain
pub record Grid : Type 0 where
  pub easts : CutList
  pub norths : CutList
  pub cells : Directory
  pub free : ℕ

-- the waiting reports, by rising radio
pub record Waiting : Type 0 where
  pub n : ℕ
  pub words : List ℕ

-- the memo, by rising radio
pub record Memo : Type 0 where
  pub n : ℕ
  pub lines : List Line

-- the radios on, rising
pub record On : Type 0 where
  pub n : ℕ
  pub radios : List ℕ

-- the desk but for its watches: all that a record is carried out on, and a watch only looks at
pub record Ledger : Type 0 where
  pub parts : Parts
  pub cells : List Slot
  pub waiting : List ℕ
  pub memo : List Line
  pub on : List ℕ

-- ---- from counts and arrays that are lent

abbrev pub directory_in : ℕ → List Slot → Directory
directory_in n slots = record { n = n; slots = slots }

abbrev pub grid_in : Frame → List Slot → Grid
grid_in f slots = record { easts = f.easts; norths = f.norths; cells = directory_in f.cells slots; free = f.free }

abbrev pub waiting_with : ℕ → List ℕ → Waiting
waiting_with n words = record { n = n; words = words }

abbrev pub memo_in : ℕ → List Line → Memo
memo_in n lines = record { n = n; lines = lines }

abbrev pub on_with : ℕ → List ℕ → On
on_with n radios = record { n = n; radios = radios }

-- the ledger, and the desk, of parts and arrays
abbrev pub ledger_with : Parts → List Slot → List ℕ → List Line → List ℕ → Ledger
ledger_with parts cells waiting memo on = record { parts = parts; cells = cells; waiting = waiting; memo = memo; on = on }

abbrev pub desk_with : Parts → List Slot → List ℕ → List Line → List ℕ → List Watch → Desk
desk_with parts cells waiting memo on watches = record { parts = parts; cells = cells; waiting = waiting; memo = memo; on = on; watches = watches }

-- ---- of a desk

-- its ledger
abbrev pub desk_ledger : Desk → Ledger
desk_ledger d = ledger_with d.parts d.cells d.waiting d.memo d.on

-- ---- of a ledger

abbrev pub ledger_grid : Ledger → Grid
ledger_grid d = grid_in d.parts.frame d.cells

abbrev pub ledger_waiting : Ledger → Waiting
ledger_waiting d = waiting_with d.parts.waiting d.waiting

abbrev pub ledger_memo : Ledger → Memo
ledger_memo d = memo_in d.parts.lines d.memo

abbrev pub ledger_on : Ledger → On
ledger_on d = on_with d.parts.on d.on
