-- How long an old entry can last, over stores (02, Job 8): each accepted sign-on, report or sign-off brings every cell with a stale entry nearer to its sweep.
use Rattle.std.specs.Prelude.{Bool, true, false, ℕ, ◌+◌, ◌*◌, ◌≤◌, length}
use Rattle.lists.specs.Among.{Among}
use Rattle.rules.specs.Limits.{sweep_every}
use Rattle.rules.specs.Store.{Cell, Store}
use Rattle.rules.specs.Records.{Request, sign_on, report, sign_off, range}
use Rattle.rules.specs.Parts.{Clean}

-- "sign-on, report or sign-off": what adds 1 to the tally once it is accepted
abbrev pub is_counted : Request → Bool
is_counted (sign_on r f) = true
is_counted (report r f) = true
is_counted (sign_off r minute) = true
is_counted (range rect minute) = false

-- "the 1,024th such record": 16 for each of 64 cells
abbrev pub lasting_records : ℕ
lasting_records = 1024

-- With the tally at c, the tally's sweep comes to the cell at place k of the round, counted from 0, in the (16 × (k + 1) − c)-th record from then. Here a
-- cell stands in the round after a record (t); it stood there before it (s), the same with all its entries, and that number was greater by one at least
pub record Nearer (s t : Store) (cell : Cell) (now : Among t.cells cell) : Type 0 where
  pub was : Among s.cells cell
  pub sooner : sweep_every * length now.before + s.tally + 1 ≤ sweep_every * length was.before + t.tally

-- so it is with each cell in which the record leaves a stale entry: whatever moves a cell to the end of the round sweeps it first
abbrev pub OldComeNearer : Store → Store → Type 0
OldComeNearer s t = (cell : Cell) (now : Among t.cells cell) → (Clean t.memo cell → ⊥) → Nearer s t cell now
