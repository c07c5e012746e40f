-- What holds of the store in the middle of a call: at each step of it, once a flush is done, and in the middle of a flush (01, "How a record is carried out").
use Rattle.std.specs.Prelude.{List, ◌∷◌, ◌++◌, ◌≡◌, ℕ, ◌+◌, ◌-◌, ◌*◌, ◌≤◌, ◌<◌, length, drop}
use Rattle.terms.specs.Terms.{max_on}
use Rattle.lists.specs.Rows.{Rows}
use Rattle.lists.specs.Sums.{sum_by}
use Rattle.rules.specs.Limits.{max_cells, full_box, full_memory, sweep_every}
use Rattle.rules.specs.Grid.{Box}
use Rattle.rules.specs.Store.{Line, Cell, Store}
use Rattle.rules.specs.Flush.{Flushed}
use Rattle.rules.specs.Carry.{waiting_in}
use Rattle.rules.specs.WellFormed.{stale_in}
use Rattle.rules.specs.Parts.{Tiling, Books, Clean, Paged, Bounded, Signed, Waits, Dated, Core, marks, on_set}

-- ---- at each step of a call

-- the parts, and the round's bound at the tally c that is to come
pub record MidCall (s : Store) (c : ℕ) : Type 0 where
  pub core : Core s
  pub bounded : Bounded s.memo s.cells (length s.waiting) c

-- room for the next report: what holds of the waiting between two calls
pub record Roomy (s : Store) : Type 0 where
  pub few : length s.waiting < full_memory
  pub boxes : (m : Box) → waiting_in s.cuts s.waiting m < full_box

-- the same with room: what holds once the memory cell that was due is flushed
pub record MidCallRoomy (s : Store) (c : ℕ) : Type 0 where
  pub mid : MidCall s c
  pub roomy : Roomy s

-- ---- in the middle of a flush

-- entries of a cell
abbrev pub size : Cell → ℕ
size c = length c.entries

-- the most entries that are stored at a time: one for each radio on, and what is stale at the full tally
abbrev pub most_entries : ℕ
most_entries = max_on + (sweep_every * (max_cells - 1) + sweep_every + (full_memory - 1))

-- the reports of a memory cell are in d, which is not yet settled: as it was, d₀, it stood between `before` and `after`; the memo was this one, n reports went
-- in, and the tally to come is c
pub record MidFlush (f : Flushed) (d₀ : Cell) (before after : List Cell) (memo : Rows Line) (n c : ℕ) : Type 0 where
  pub rest : f.rest ≡ before ++ after
  pub cells : f.store.cells ≡ before ++ (d₀ ∷ after)
  pub number : f.cell.number ≡ d₀.number
  pub edges : f.cell.edges ≡ d₀.edges
  pub chain : f.cell.chain ≡ d₀.chain
  pub tiled : Tiling f.store.cuts (before ++ (d₀ ∷ after))
  pub books : Books (f.cell ∷ (before ++ after)) f.store.memo (marks f.store.waiting) (on_set f.store.on)
  pub clean : Clean f.store.memo f.cell
  pub paged : Paged (before ++ (d₀ ∷ after)) f.store.free
  pub few : sum_by size (before ++ after) + size f.cell ≤ most_entries
  pub signed : Signed f.store.on
  pub waits : Waits f.store.waiting f.store.on
  pub dated : Dated f.store.highest (f.cell ∷ (before ++ after)) f.store.waiting
  pub bounded : Bounded memo (before ++ (d₀ ∷ after)) (length f.store.waiting + n) c
  pub stale : (j : ℕ) → sum_by (stale_in f.store.memo) (drop j (before ++ after)) ≤ sum_by (stale_in memo) (drop j (before ++ after)) + n
  pub room : length f.store.waiting ≤ c + (full_memory - 1)
