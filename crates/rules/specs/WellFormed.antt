-- A sound store (01, the heading of that name): one field for each clause, in 01's order. How its pages are laid out in bytes is said above this crate.
use Rattle.std.specs.Prelude.{Bool, true, false, not, List, [], ◌∷◌, ◌++◌, map, ◌≡◌, ℕ, ◌+◌, ◌-◌, ◌*◌, ◌≤◌, ◌<◌, ltb, length, drop, Option, None, Some}
use Rattle.terms.specs.Terms.{Place, Fix, max_radio, max_on, pages}
use Rattle.lists.specs.Rows.{Rows, Rising, UpTo, find}
use Rattle.lists.specs.Sums.{sum_by, concat, count}
use Rattle.lists.specs.Tests.{one_if, Each}
use Rattle.rules.specs.Limits.{last_metre, max_cells, max_cuts, full_box, full_memory, sweep_every}
use Rattle.rules.specs.Grid.{Axis, Span, span_of, inside, Cuts, cuts_of, Box}
use Rattle.rules.specs.Store.{Report, Line, Cell, Store, pages_for}
use Rattle.rules.specs.Sweep.{is_at, stale, stale_by}
use Rattle.rules.specs.Carry.{is_on, was_new, waiting_in}

-- ---- words of the clauses

-- rising, above b
abbrev pub RisingCuts : ℕ → List ℕ → Type 0
RisingCuts b [] = Unit {0}
RisingCuts b (c ∷ cs) = (b < c) × RisingCuts c cs

-- "A cell is a rectangle of whole memory cells": each low edge is 0 or a cut, each high edge the last metre or just below a cut
pub record OnCuts (cuts : List ℕ) (s : Span) : Type 0 where
  pub low : 1 ≤ count s.low (0 ∷ cuts)
  pub high : 1 ≤ count (s.high + 1) ((last_metre + 1) ∷ cuts)
  pub order : s.low ≤ s.high

-- how many entries of a radio isn't stale, and how many are
abbrev pub count_if : (Fix → Bool) → Option Fix → ℕ
count_if t None = 0
count_if t (Some f) = one_if (t f)

unfoldable pub live_of : Rows Line → ℕ → List Cell → ℕ
live_of memo r cells = sum_by (λ c. count_if (λ f. not (stale_by (find memo r) f)) (find c.entries r)) cells

-- stale entries of one radio by a place
unfoldable pub stale_of : Option Place → ℕ → List Cell → ℕ
stale_of last r cells = sum_by (λ c. count_if (λ f. not (is_at last f.place)) (find c.entries r)) cells

-- stale entries of a cell
unfoldable pub stale_in : Rows Line → Cell → ℕ
stale_in memo c = sum_by (λ e. one_if (stale memo e)) c.entries

-- the pages of all chains
unfoldable pub chains : Store → List ℕ
chains s = concat (map (λ c. c.chain) s.cells) ++ s.free

-- "Each page is in one chain"
abbrev pub PagesOnce : Store → Type 0
PagesOnce s = (p : ℕ) → count p (chains s) ≡ one_if (ltb p pages)

abbrev pub InSquare : Place → Type 0
InSquare p = (p.east ≤ last_metre) × (p.north ≤ last_metre)

abbrev pub InSquareIf : Option Place → Type 0
InSquareIf None = Unit {0}
InSquareIf (Some p) = InSquare p

-- no entry, and no waiting report, is above this minute
abbrev pub EntriesDated : ℕ → List Cell → Type 0
EntriesDated highest cells = Each (λ c. Each (λ e. e.val.minute ≤ highest) c.entries) cells

abbrev pub WaitingDated : ℕ → Rows Report → Type 0
WaitingDated highest waiting = Each (λ w. w.val.fix.minute ≤ highest) waiting

-- what holds of each cell
pub record GoodCell (cuts : Cuts) (c : Cell) : Type 0 where
  -- "numbers from 0 to 63"
  pub numbered : c.number < max_cells
  pub edged : (axis : Axis) → OnCuts (cuts_of axis cuts) (span_of axis c.edges)
  -- "A cell with e entries has max(1, ⌈e/32⌉) pages"
  pub paged : length c.chain ≡ pages_for (length c.entries)
  -- "entries by rising radio", "one a radio in each cell", "A radio number is 1 to 4,095."
  pub rising : Rising 0 c.entries
  pub radios : UpTo max_radio c.entries
  -- "Entries lie in their cell's rectangle"
  pub placed : Each (λ e. inside c.edges e.val.place ≡ true) c.entries

-- what holds of each memo line
pub record GoodLine (cells : List Cell) (r : ℕ) (l : Line) : Type 0 where
  -- "missed counts of 1 or more equal to that radio's stale entries, an entry being judged by the line's place"
  pub missing : 1 ≤ l.missed
  pub equal : stale_of l.last r cells ≡ l.missed
  pub placed : InSquareIf l.last

-- ---- the clauses

pub record WellFormed (s : Store) : Type 0 where
  -- "Every limit above holds"
  pub few_cells : length s.cells ≤ max_cells
  pub few_cuts : (axis : Axis) → length (cuts_of axis s.cuts) ≤ max_cuts
  pub few_on : length s.on ≤ max_on
  pub radios_on : UpTo max_radio s.on
  pub rising_on : Rising 0 s.on
  -- "and cuts are rising, from 1 to 65,535"
  pub cuts_rise : (axis : Axis) → RisingCuts 0 (cuts_of axis s.cuts)
  pub cuts_end : (axis : Axis) → Each (λ c. c ≤ last_metre) (cuts_of axis s.cuts)
  -- "The cells tile the square"
  pub tiled : (p : Place) → InSquare p → sum_by (λ c. one_if (inside c.edges p)) s.cells ≡ 1
  pub cells : Each (GoodCell s.cuts) s.cells
  -- "Each page is in one chain"
  pub once : PagesOnce s
  -- "Each radio on has one entry that isn't stale or a waiting report marked new, and not both. A radio off has neither."
  pub present : (r : ℕ) → live_of s.memo r s.cells + one_if (was_new (find s.waiting r)) ≡ one_if (is_on s r)
  -- "An unmarked waiting report belongs to a radio on."
  pub unmarked : (r : ℕ) (w : Report) → find s.waiting r ≡ Some w → w.new ≡ false → is_on s r ≡ true
  -- "Memo lines by rising radio have missed counts of 1 or more equal to that radio's stale entries"
  pub memo_rises : Rising 0 s.memo
  pub memo_radios : UpTo max_radio s.memo
  pub lines : (r : ℕ) (l : Line) → find s.memo r ≡ Some l → GoodLine s.cells r l
  -- "One waiting report a radio, by rising radio, at most 127, fewer than 8 a memory cell."
  pub waiting_rises : Rising 0 s.waiting
  pub waiting_radios : UpTo max_radio s.waiting
  pub waiting_placed : (r : ℕ) (w : Report) → find s.waiting r ≡ Some w → InSquare w.fix.place
  pub few_wait : length s.waiting < full_memory
  pub few_in_box : (m : Box) → waiting_in s.cuts s.waiting m < full_box
  -- "The round names each cell once."
  pub round : (n : ℕ) → count n (map (λ c. c.number) s.cells) ≤ 1
  -- "c is 0 to 15."
  pub tallied : s.tally < sweep_every
  -- "a sound store has no entry or waiting report above it"
  pub entries_dated : EntriesDated s.highest s.cells
  pub waiting_dated : WaitingDated s.highest s.waiting
  -- "Counting round places from 0, for every k below the number of cells the stale entries in cells at place k and later, plus all waiting, are at most
  -- 16 × (63 − k) + c + 127."
  pub bounded : (k : ℕ) → k < length s.cells
      → sum_by (stale_in s.memo) (drop k s.cells) + length s.waiting ≤ sweep_every * (max_cells - 1 - k) + s.tally + (full_memory - 1)
