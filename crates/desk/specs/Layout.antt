-- How a store is laid out: the desk's fields, and the bytes of the pages (01, "What the desk holds", "Records and pages").
use Rattle.std.specs.Prelude.{Bool, cond, List, [], ◌∷◌, ◌++◌, map, ◌≡◌, ℕ, ◌+◌, ◌-◌, ◌*◌, eqb, length, take, drop, replicate, Option, None, Some}
use Rattle.terms.specs.Terms.{Place, Fix, pages, page_entries, no_page, max_on}
use Rattle.lists.specs.Bits.{bits}
use Rattle.lists.specs.Chains.{chain_head}
use Rattle.lists.specs.Parts.{tab}
use Rattle.lists.specs.Rows.{Row, Rows, find}
use Rattle.lists.specs.Sums.{concat}
use Rattle.lists.specs.Tests.{Each, one_if, is_some}
use Rattle.lists.specs.Words.{low_half, high_half}
use Rattle.page.specs.Page.{page_bytes, kind_first, kind_further, page_of, free_page_of}
use Rattle.page.specs.Buffer.{buffer_bytes, page_at}
use Rattle.rules.specs.Limits.{max_cells, max_cuts, full_memory}
use Rattle.rules.specs.Grid.{Rect}
use Rattle.rules.specs.Store.{Store, Cell, Report as StoreReport, Line as StoreLine}
use Rattle.rules.specs.Watches.{Watch, is_member, latest_place, Watched}
use Rattle.desk.specs.declared.CutList.{CutList}
use Rattle.desk.specs.declared.Slot.{Slot}
use Rattle.desk.specs.declared.Report.{Report}
use Rattle.desk.specs.declared.Line.{Line}
use Rattle.desk.specs.declared.Watch.{Watch as DeskWatch}
use Rattle.desk.specs.declared.Desk.{Desk}
use Rattle.desk.specs.Held.{Directory, Grid, Waiting, Memo, On, Ledger, desk_with}

-- ---- the desk

-- two lines more than there may be between two calls: a sign-off adds one before the tally sweeps, and with another no byte of the desk is no field's
abbrev pub line_slots : ℕ
line_slots = 1152

-- the list in so many slots, the unused ones holding z
unfoldable pub slotted : {A : Type 0} → ℕ → A → List A → List A
slotted n z l = l ++ replicate (n - length l) z

unfoldable pub cut_list_of : List ℕ → CutList
cut_list_of l = record { n = length l; at = slotted max_cuts 0 l }

abbrev pub slot_of : Cell → Slot
slot_of c = record {
  number = c.number;
  west = c.edges.easts.low;
  east = c.edges.easts.high;
  south = c.edges.norths.low;
  north = c.edges.norths.high;
  first = chain_head no_page c.chain;
}

abbrev pub no_slot : Slot
no_slot = record { number = 0; west = 0; east = 0; south = 0; north = 0; first = 0 }

unfoldable pub directory_of : List Cell → Directory
directory_of cells = record { n = length cells; slots = slotted max_cells no_slot (map slot_of cells) }

unfoldable pub grid_of : Store → Grid
grid_of s = record {
  easts = cut_list_of s.cuts.easts;
  norths = cut_list_of s.cuts.norths;
  cells = directory_of s.cells;
  free = chain_head no_page s.free;
}

abbrev pub report_of : Row StoreReport → Report
report_of w = record {
  radio = w.key;
  east = w.val.fix.place.east;
  north = w.val.fix.place.north;
  new = one_if w.val.new;
  low = low_half w.val.fix.minute;
  high = high_half w.val.fix.minute;
}

abbrev pub no_report : Report
no_report = record { radio = 0; east = 0; north = 0; new = 0; low = 0; high = 0 }

abbrev pub report_fields : ℕ
report_fields = 6

-- an array's numbers, from what its slots hold: all radios, then all easts, all norths, all marks, and the minutes' lower and higher halves
unfoldable pub report_words : List Report → List ℕ
report_words l =
    map (λ w. w.radio) l
    ++ (map (λ w. w.east) l ++ (map (λ w. w.north) l ++ (map (λ w. w.new) l ++ (map (λ w. w.low) l ++ map (λ w. w.high) l))))

unfoldable pub waiting_of : Rows StoreReport → Waiting
waiting_of l = record { n = length l; words = report_words (slotted full_memory no_report (map report_of l)) }

-- a line with a place, and one with none
abbrev pub line_with : ℕ → ℕ → Option Place → Line
line_with r missed None = record { radio = r; missed = missed; placed = 0; east = 0; north = 0 }
line_with r missed (Some p) = record { radio = r; missed = missed; placed = 1; east = p.east; north = p.north }

abbrev pub line_of : Row StoreLine → Line
line_of l = line_with l.key l.val.missed l.val.last

abbrev pub no_line : Line
no_line = record { radio = 0; missed = 0; placed = 0; east = 0; north = 0 }

unfoldable pub memo_of : Rows StoreLine → Memo
memo_of l = record { n = length l; lines = slotted line_slots no_line (map line_of l) }

unfoldable pub on_of : Rows (Unit {0}) → On
on_of l = record { n = length l; radios = slotted max_on 0 (map (λ x. x.key) l) }

-- the ledger that holds these
abbrev pub ledger_holding : Grid → Waiting → Memo → On → ℕ → ℕ → Ledger
ledger_holding grid waiting memo on tally highest = record {
  parts = record {
    frame = record { easts = grid.easts; norths = grid.norths; cells = grid.cells.n; free = grid.free };
    waiting = waiting.n;
    lines = memo.n;
    on = on.n;
    tally = tally;
    highest = highest;
  };
  cells = grid.cells.slots;
  waiting = waiting.words;
  memo = memo.lines;
  on = on.radios;
}

-- "The desk has cuts, directory, the front of the free chain, waiting reports, memo, who is signed on, the round, and the tally c."; 02, Job 3: "The store
-- remembers the highest minute"
unfoldable pub ledger_of : Store → Ledger
ledger_of s = ledger_holding (grid_of s) (waiting_of s.waiting) (memo_of s.memo) (on_of s.on) s.tally s.highest

-- ---- the watches (02, Job 5)

-- a watch's members: a bit for each number up to the greatest radio's, 16 to a number
abbrev pub member_words : ℕ
member_words = 256

unfoldable pub members_of : (ℕ → Bool) → List ℕ
members_of is_member = tab member_words (λ i. bits 16 (λ j. is_member (16 * i + j)))

abbrev pub area_of : Watch → Rect
area_of None = record { easts = record { low = 0; high = 0 }; norths = record { low = 0; high = 0 } }
area_of (Some rect) = rect

-- a watch from its rectangle and the place of each radio; none of it is another's, so that "watches whose list didn't change keep every byte". One that is not
-- set is zero throughout: a rectangle from 0 to 0 takes in nothing
unfoldable pub watch_of : (ℕ → Option Place) → Watch → DeskWatch
watch_of places watch = record {
  set = one_if (is_some watch);
  west = (area_of watch).easts.low;
  east = (area_of watch).easts.high;
  south = (area_of watch).norths.low;
  north = (area_of watch).norths.high;
  members = members_of (λ r. is_member watch (places r));
}

abbrev pub unset_watch : DeskWatch
unset_watch = record { set = 0; west = 0; east = 0; south = 0; north = 0; members = replicate member_words 0 }

-- what is read where no watch is: behind the last
abbrev pub no_watch : DeskWatch
no_watch = record { set = 0; west = 0; east = 0; south = 0; north = 0; members = [] }

unfoldable pub watches_of : (ℕ → Option Place) → List Watch → List DeskWatch
watches_of places watches = map (watch_of places) watches

-- the whole desk
unfoldable pub desk_of : Watched → Desk
desk_of x =
    desk_with (ledger_of x.store).parts (ledger_of x.store).cells (ledger_of x.store).waiting (ledger_of x.store).memo (ledger_of x.store).on
    (watches_of (latest_place x.store) x.watches)

-- ---- the pages

-- a page and its bytes
abbrev pub Leaf : Type 0
Leaf = Row (List ℕ)

-- a chain's pages: "kind (.. 2 first of a cell, 3 further), next page (65,535 for none), cell .., then up to 32 entries", "every page but the last full"
unfoldable pub leaves : ℕ → ℕ → List ℕ → Rows Fix → List Leaf
leaves kind cell [] es = []
leaves kind cell (p ∷ ps) es =
    record { key = p; val = page_of kind (chain_head no_page ps) cell (take page_entries es) } ∷ leaves kind_further cell ps (drop page_entries es)

unfoldable pub cell_leaves : Cell → List Leaf
cell_leaves c = leaves kind_first c.number c.chain c.entries

unfoldable pub cells_leaves : List Cell → List Leaf
cells_leaves cells = concat (map cell_leaves cells)

-- "A free page has no entry"
unfoldable pub free_leaves : List ℕ → List Leaf
free_leaves [] = []
free_leaves (p ∷ ps) = record { key = p; val = free_page_of (chain_head no_page ps) } ∷ free_leaves ps

unfoldable pub store_leaves : Store → List Leaf
store_leaves s = cells_leaves s.cells ++ free_leaves s.free

-- the bytes are laid out as the store says: each page that it names holds just the bytes of its part
abbrev pub At : List ℕ → Leaf → Type 0
At b x = page_at b x.key ≡ x.val

pub record Laid (s : Store) (b : List ℕ) : Type 0 where
  pub size : length b ≡ buffer_bytes
  pub leaf : Each (At b) (store_leaves s)

-- the same as a function: page after page
abbrev pub or_zeros : Option (List ℕ) → List ℕ
or_zeros None = replicate page_bytes 0
or_zeros (Some v) = v

unfoldable pub pages_of : Store → List ℕ
pages_of s = concat (tab pages (λ p. or_zeros (find (store_leaves s) p)))

-- the pages of a fresh store: "one cell (0) on page 0, and pages 1 to 127 free in that order"
unfoldable pub fresh_pages : List ℕ
fresh_pages = concat (page_of kind_first no_page 0 [] ∷ tab (pages - 1) (λ i. free_page_of (cond (eqb (i + 2) pages) no_page (i + 2))))
