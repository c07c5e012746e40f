-- A well-formed store by its parts, so that each step is shown part by part: the tiling, the radios' books, the pages, the round, and what waits.
use Rattle.std.specs.Prelude.{Bool, true, false, List, ◌++◌, map, ◌≡◌, ℕ, ◌+◌, ◌-◌, ◌*◌, ◌≤◌, ◌<◌, ltb, length, drop, Some}
use Rattle.terms.specs.Terms.{Place, max_radio, max_on, pages}
use Rattle.lists.specs.Rows.{Rows, Rising, UpTo, find}
use Rattle.lists.specs.Sums.{sum_by, concat, count}
use Rattle.lists.specs.Tests.{one_if, Each, is_some}
use Rattle.rules.specs.Limits.{last_metre, max_cells, max_cuts, full_memory, sweep_every}
use Rattle.rules.specs.Grid.{Axis, span_of, inside, Cuts, cuts_of}
use Rattle.rules.specs.Store.{Report, Line, missed_of, Cell, Store, pages_for}
use Rattle.rules.specs.Sweep.{stale_by}
use Rattle.rules.specs.Carry.{was_new}
use Rattle.rules.specs.WellFormed.{RisingCuts, OnCuts, count_if, live_of, stale_in, InSquare, InSquareIf, EntriesDated, WaitingDated}

-- ---- the tiling: cuts, edges and numbers of the cells

pub record Edged (cuts : Cuts) (c : Cell) : Type 0 where
  pub numbered : c.number < max_cells
  pub edged : (axis : Axis) → OnCuts (cuts_of axis cuts) (span_of axis c.edges)

pub record Tiling (cuts : Cuts) (cells : List Cell) : Type 0 where
  pub few_cells : length cells ≤ max_cells
  pub few_cuts : (axis : Axis) → length (cuts_of axis cuts) ≤ max_cuts
  pub cuts_rise : (axis : Axis) → RisingCuts 0 (cuts_of axis cuts)
  pub cuts_end : (axis : Axis) → Each (λ c. c ≤ last_metre) (cuts_of axis cuts)
  pub tiled : (p : Place) → InSquare p → sum_by (λ c. one_if (inside c.edges p)) cells ≡ 1
  pub cells_edged : Each (Edged cuts) cells
  pub round : (n : ℕ) → count n (map (λ c. c.number) cells) ≤ 1

-- ---- the radios' books: entries against memo, marks and who is on

-- entries of a radio that its memo line tells to be stale
unfoldable pub stale_r : Rows Line → ℕ → List Cell → ℕ
stale_r memo r cells = sum_by (λ c. count_if (stale_by (find memo r)) (find c.entries r)) cells

pub record Rowed (c : Cell) : Type 0 where
  pub rising : Rising 0 c.entries
  pub radios : UpTo max_radio c.entries
  pub placed : Each (λ e. inside c.edges e.val.place ≡ true) c.entries

pub record Books (cells : List Cell) (memo : Rows Line) (new on : ℕ → Bool) : Type 0 where
  pub cells_rowed : Each Rowed cells
  -- a place lies in one cell at most
  pub apart : (p : Place) → sum_by (λ c. one_if (inside c.edges p)) cells ≤ 1
  pub memo_rises : Rising 0 memo
  pub memo_radios : UpTo max_radio memo
  pub lines : (r : ℕ) (l : Line) → find memo r ≡ Some l → (1 ≤ l.missed) × InSquareIf l.last
  pub counted : (r : ℕ) → stale_r memo r cells ≡ missed_of (find memo r)
  pub present : (r : ℕ) → live_of memo r cells + one_if (new r) ≡ one_if (on r)

-- no entry of the cell is stale
abbrev pub Clean : Rows Line → Cell → Type 0
Clean memo c = stale_in memo c ≡ 0

-- ---- the pages

pub record Paged (cells : List Cell) (free : List ℕ) : Type 0 where
  pub once : (p : ℕ) → count p (concat (map (λ c. c.chain) cells) ++ free) ≡ one_if (ltb p pages)
  pub cells_paged : Each (λ c. length c.chain ≡ pages_for (length c.entries)) cells

-- ---- the round: w wait, and the tally is c

unfoldable pub Bounded : Rows Line → List Cell → ℕ → ℕ → Type 0
Bounded memo cells w c = (k : ℕ) → k < length cells → sum_by (stale_in memo) (drop k cells) + w ≤ sweep_every * (max_cells - 1 - k) + c + (full_memory - 1)

-- ---- who is on, and what waits

pub record Signed (on : Rows (Unit {0})) : Type 0 where
  pub few_on : length on ≤ max_on
  pub radios_on : UpTo max_radio on
  pub rising_on : Rising 0 on

pub record Waits (waiting : Rows Report) (on : Rows (Unit {0})) : Type 0 where
  pub waiting_rises : Rising 0 waiting
  pub waiting_radios : UpTo max_radio waiting
  pub waiting_placed : (r : ℕ) (w : Report) → find waiting r ≡ Some w → InSquare w.fix.place
  pub unmarked : (r : ℕ) (w : Report) → find waiting r ≡ Some w → w.new ≡ false → is_some (find on r) ≡ true

-- ---- the minutes

pub record Dated (highest : ℕ) (cells : List Cell) (waiting : Rows Report) : Type 0 where
  pub entries : EntriesDated highest cells
  pub reports : WaitingDated highest waiting

-- ---- the parts together: what holds also in the middle of a call

abbrev pub marks : Rows Report → ℕ → Bool
marks waiting r = was_new (find waiting r)

abbrev pub on_set : Rows (Unit {0}) → ℕ → Bool
on_set on r = is_some (find on r)

pub record Core (s : Store) : Type 0 where
  pub tiling : Tiling s.cuts s.cells
  pub books : Books s.cells s.memo (marks s.waiting) (on_set s.on)
  pub paged : Paged s.cells s.free
  pub signed : Signed s.on
  pub waits : Waits s.waiting s.on
  pub dated : Dated s.highest s.cells s.waiting
