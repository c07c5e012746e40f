-- Flush, with the split or the join that follows it (01, "How a record is carried out"; 02, Job 7).
use Rattle.std.specs.Prelude.{Bool, true, false, not, cond, List, [], ◌∷◌, ◌++◌, map, ℕ, ◌+◌, ◌-◌, min, max, eqb, leb, ltb, length, Option, None, Some}
use Rattle.terms.specs.Terms.{Place, Fix, page_entries}
use Rattle.lists.specs.Chains.{settled_free}
use Rattle.lists.specs.Parts.{tab}
use Rattle.lists.specs.Rows.{Row, Rows, find, alter, insert, merge}
use Rattle.lists.specs.Sort.{sort_in}
use Rattle.lists.specs.Sums.{filter, count}
use Rattle.lists.specs.Tests.{both, is_some, first_at, first_that, first_some}
use Rattle.rules.specs.Limits.{max_cells, join_entries}
use Rattle.rules.specs.Grid.{Axis, eastward, northward, across, Span, same_span, Rect, span_of, with_span, Cuts, cuts_of, with_cuts_of, Box, same_box, box_of, corner_of}
use Rattle.rules.specs.Store.{Report, Line, Cell, Store, with_edges, with_entries, with_cuts, with_cells, with_free, with_waiting, with_memo, cell_at, others, settled, free_after}
use Rattle.rules.specs.Sweep.{swept_entries, swept_memo}
use Rattle.rules.specs.Cut.{Cut, low_side, chosen_cut}

-- ---- "For each waiting report of m"

-- "any memo line takes the new place"
abbrev pub placed : Option Place → Option Line → Option Line
placed p None = None
placed p (Some l) = Some (record { missed = l.missed; last = p })

-- "add 1 to the missed count (made as 1 if absent)"
abbrev pub raised : Option Place → Option Line → Option Line
raised p None = Some (record { missed = 1; last = p })
raised p (Some l) = Some (record { missed = l.missed + 1; last = p })

-- the memo line of a radio whose report is entered: an entry was found, or the report is new, or neither
abbrev pub entered : Bool → Bool → Place → Option Line → Option Line
entered true new p = placed (Some p)
entered false true p = placed (Some p)
entered false false p = raised (Some p)

-- d's entries and the memo, as the reports come in
pub record Work : Type 0 where
  pub entries : Rows Fix
  pub memo : Rows Line

-- "if d has an entry of that radio, it and any memo line take the new place; else add the entry, and, if not marked new, add 1 to the missed count"
unfoldable pub enter : Row Report → Work → Work
enter w k = record {
  entries = insert w.key w.val.fix k.entries;
  memo = alter (entered (is_some (find k.entries w.key)) w.val.new w.val.fix.place) w.key k.memo;
}

unfoldable pub enter_each : Rows Report → Work → Work
enter_each [] k = k
enter_each (w ∷ ws) k = enter_each ws (enter w k)

-- the waiting reports of a memory cell, and the others
unfoldable pub in_box : Cuts → Box → Row Report → Bool
in_box cuts m w = same_box (box_of cuts w.val.fix.place) m

-- ---- d once the reports are in

-- "sweep d. For each waiting report of m ..": d, not yet settled, the other cells in the order of the round, and the store but for these
pub record Flushed : Type 0 where
  pub cell : Cell
  pub rest : List Cell
  pub store : Store

unfoldable pub flushed_into : Box → Store → Cell → Flushed
flushed_into m s d =
    let k : Work =
    enter_each (filter (in_box s.cuts m) s.waiting)
    (record { entries = swept_entries s.memo d.entries; memo = swept_memo s.memo d.entries }) in
    record {
      cell = with_entries k.entries d;
      rest = others d.number s.cells;
      store = with_waiting (filter (λ w. not (in_box s.cuts m w)) s.waiting) (with_memo k.memo s);
    }

-- ---- "d goes to the end of the round", with the pages that it needs

unfoldable pub grown : Flushed → Store
grown f =
    with_cells (f.rest ++ (settled f.store.free f.cell ∷ [])) (with_free (free_after f.store.free f.cell) f.store)

-- ---- split

-- a cut that is there already is not made again
unfoldable pub add_cut : ℕ → List ℕ → List ℕ
add_cut c cuts = cond (ltb 0 (count c cuts)) cuts (sort_in c cuts)

abbrev or_zero : Option ℕ → ℕ
or_zero None = 0
or_zero (Some n) = n

-- "the smallest unused number"
unfoldable pub unused_number : List Cell → ℕ
unused_number cells = or_zero (first_at (λ n. eqb (count n (map (λ c. c.number) cells)) 0) (tab max_cells (λ n. n)))

-- the edges of the low side of a cut, and of the other
abbrev pub low_edges : Cut → Rect → Rect
low_edges c r = with_span c.axis (record { low = (span_of c.axis r).low; high = c.at - 1 }) r

abbrev pub high_edges : Cut → Rect → Rect
high_edges c r = with_span c.axis (record { low = c.at; high = (span_of c.axis r).high }) r

-- "The low side keeps d's number; the other takes the smallest unused number"
unfoldable pub low_cell : Cut → Cell → Cell
low_cell c d = with_edges (low_edges c d.edges) (with_entries (filter (low_side c) d.entries) d)

unfoldable pub high_cell : Cut → ℕ → Cell → Cell
high_cell c n d = record {
  number = n;
  edges = high_edges c d.edges;
  chain = [];
  entries = filter (λ e. not (low_side c e)) d.entries;
}

-- "in a split d's chain is settled before the new cell takes"; the other "goes last in the round"
unfoldable pub split_at : Cut → Flushed → Store
split_at c f =
    let low : Cell = low_cell c f.cell in
    let high : Cell = high_cell c (unused_number f.store.cells) f.cell in
    let free : List ℕ = free_after f.store.free low in
    with_cuts (with_cuts_of c.axis (add_cut c.at (cuts_of c.axis f.store.cuts)) f.store.cuts)
    (with_cells (f.rest ++ (settled f.store.free low ∷ settled free high ∷ [])) (with_free (free_after free high) f.store))

-- "If neither side gives one, d grows its chain."
abbrev pub split_or : Option Cut → Flushed → Store
split_or None f = grown f
split_or (Some c) f = split_at c f

-- ---- join

-- one rectangle ends right before the other begins in a direction, and they are alike in the other: the two make a rectangle
unfoldable pub below : Axis → Rect → Rect → Bool
below axis r s = both (eqb ((span_of axis r).high + 1) (span_of axis s).low) (same_span (span_of (across axis) r) (span_of (across axis) s))

-- a side of a cell: the low one or the high one in a direction
pub data Side : Type 0 where
  lower : Axis → Side
  upper : Axis → Side

abbrev pub west : Side
west = lower eastward

abbrev pub east : Side
east = upper eastward

abbrev pub south : Side
south = lower northward

abbrev pub north : Side
north = upper northward

-- "some cell beside d makes a rectangle with it": n does, on this side
abbrev pub beside : Side → Rect → Rect → Bool
beside (lower axis) d n = below axis n d
beside (upper axis) d n = below axis d n

-- "and the two have at most 24 entries together, counted before this sweep"
unfoldable pub joinable : Side → Cell → Cell → Bool
joinable side d n = both (beside side d.edges n.edges) (leb (length d.entries + length n.entries) join_entries)

-- "west, east, south, north"
abbrev pub sides : List Side
sides = west ∷ east ∷ south ∷ north ∷ []

-- "Where several neighbours qualify for a join, take the first"
unfoldable pub neighbour : Flushed → Option Cell
neighbour f = first_some (λ side. first_that (joinable side f.cell) f.rest) sides

abbrev pub hull : Span → Span → Span
hull s t = record { low = min s.low t.low; high = max s.high t.high }

abbrev pub joined_edges : Rect → Rect → Rect
joined_edges d n = record { easts = hull d.easts n.easts; norths = hull d.norths n.norths }

abbrev pub smaller : Cell → Cell → Cell
smaller d n = cond (ltb d.number n.number) d n

abbrev pub larger : Cell → Cell → Cell
larger d n = cond (ltb d.number n.number) n d

-- "sweep that cell and join it. The smaller number survives": the joined cell, which keeps the survivor's pages
abbrev pub joined : Flushed → Cell → Cell
joined f n =
    let d : Cell = settled f.store.free f.cell in
    record {
      number = (smaller d n).number;
      edges = joined_edges d.edges n.edges;
      chain = (smaller d n).chain;
      entries = merge (swept_entries f.store.memo n.entries) d.entries;
    }

-- it "goes last in the round; pages of the other are freed." d is settled first.
unfoldable pub joined_with : Flushed → Cell → Store
joined_with f n =
    with_cells (others n.number f.rest ++ (joined f n ∷ []))
    (with_free (settled_free 0 (larger (settled f.store.free f.cell) n).chain (free_after f.store.free f.cell))
    (with_memo (swept_memo f.store.memo n.entries) f.store))

-- without such a neighbour d keeps to itself
abbrev pub join_or : Option Cell → Flushed → Store
join_or None f = grown f
join_or (Some n) f = joined_with f n

-- ---- the whole

-- "Split, at most once a flush, when d has more than 32 entries and there are fewer than 64 cells."; "Join, after a flush that left d at most 32 entries"
unfoldable pub reshaped : Flushed → Store
reshaped f =
    cond (ltb page_entries (length f.cell.entries))
    (cond (ltb (length f.store.cells) max_cells) (split_or (chosen_cut f.store.cuts f.cell.edges f.cell.entries) f) (grown f))
    (join_or (neighbour f) f)

-- the cell in which a memory cell lies
unfoldable pub cell_of_box : Store → Box → Option Cell
cell_of_box s m = cell_at s.cells (corner_of s.cuts m)

abbrev flush_or : Box → Store → Option Cell → Store
flush_or m s None = s
flush_or m s (Some d) = reshaped (flushed_into m s d)

-- "Flush memory cell m with cell d"
unfoldable pub flush : Box → Store → Store
flush m s = flush_or m s (cell_of_box s m)
