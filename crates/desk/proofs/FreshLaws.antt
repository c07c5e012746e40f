-- A fresh store is sound: it is well-formed, and `fresh_pages` are its pages.
use mathlib.Core.Path.{◌≡◌, refl, sym, ap, ◌∙◌}
use mathlib.Core.Bool.{cond}
use mathlib.Core.List.{List, [], ◌∷◌}
use Rattle.std.specs.Prelude.{None}
use Prim.Native.Nat.{ℕ, zero, suc, ◌+◌, ◌-◌, ◌*◌, ◌<◌}
use native.Mathlib.Omega.{arith}
use lib.Dec.{eqb}
use lib.ListN.{length, drop, replicate}
use borrow.Author.Tests.{eq-eqb, ne_eqb}
use Rattle.terms.specs.Terms.{pages, no_page, no_cell, max_on}
use Rattle.lists.specs.Chains.{chain_head}
use Rattle.lists.specs.Parts.{part, tab}
use Rattle.lists.specs.Rows.{find}
use Rattle.lists.specs.Sums.{sum_by, count, concat}
use Rattle.lists.specs.Tests.{Each}
use Rattle.lists.proofs.Cases.{none-some}
use Rattle.lists.proofs.PartsLaws.{tab-cons, length_pieces, part_pieces}
use Rattle.lists.proofs.SumsLaws.{sum_zero, count-tab}
use Rattle.page.specs.Page.{page_bytes, kind_free, kind_first, page_of, free_page_of}
use Rattle.page.specs.Buffer.{page_at}
use Rattle.page.proofs.PageLaws.{length-page_of}
use Rattle.rules.specs.Grid.{square}
use Rattle.rules.specs.Limits.{max_cells, max_cuts, full_memory}
use Rattle.rules.specs.Store.{Cell, fresh, pages_for}
use Rattle.rules.specs.Carry.{is_on, waiting_in}
use Rattle.rules.specs.Watches.{max_watches, latest_place, NotReversed, RightWatches, fresh_watched}
use Rattle.rules.specs.WellFormed.{live_of, stale_in, chains, GoodCell, WellFormed, PagesOnce}
use Rattle.desk.specs.Layout.{ledger_of, unset_watch, desk_of, grid_of, cut_list_of, slot_of, no_slot, slotted, directory_of, report_fields, report_words, waiting_of, line_slots, no_line, memo_of, on_of, leaves, cell_leaves, cells_leaves, free_leaves, store_leaves, At, Laid, pages_of, fresh_pages}
use Rattle.desk.specs.Sound.{Sound}
use Rattle.desk.specs.declared.Slot.{Slot}
use Rattle.desk.specs.declared.Watch.{Watch}
use Rattle.desk.specs.declared.Desk.{Desk}
use Rattle.desk.proofs.PagesLaws.{pages_Laid}
use Rattle.desk.proofs.WatchesLaws.{blank_watches}
use Rattle.rules.proofs.TilingLaws.{Tiling-fresh}

-- ---- its pages

-- one by one
fresh_page : ℕ → List ℕ
fresh_page zero = page_of kind_first no_page 0 []
fresh_page (suc i) = free_page_of (cond (eqb (i + 2) pages) no_page (i + 2))

length-fresh_page : (p : ℕ) → length (fresh_page p) ≡ page_bytes
unfolding fresh_page free_page_of
length-fresh_page zero = length-page_of kind_first no_page 0 [] (omega arith)
length-fresh_page (suc i) = length-page_of kind_free _ no_cell [] (omega arith)

fresh_tab : fresh_pages ≡ concat (tab pages fresh_page)
unfolding fresh_pages fresh_page
fresh_tab = ap concat (sym (tab-cons (pages - 1) fresh_page))

fresh_At : (p : ℕ) → p < pages → page_at fresh_pages p ≡ fresh_page p
unfolding page_at
fresh_At p h = ap (λ b. part b (page_bytes * p) page_bytes) fresh_tab ∙ part_pieces page_bytes pages fresh_page p length-fresh_page h

-- the page after a free one
fresh_next : (n k : ℕ) (f : ℕ → ℕ) → f 0 ≡ k + 2 → n + k + 2 ≡ pages → chain_head no_page (tab n f) ≡ cond (eqb (k + 2) pages) no_page (k + 2)
unfolding tab
fresh_next zero k f e h = rw (eq-eqb (k + 2) pages (omega arith))
fresh_next (suc n) k f e h = rw (ne_eqb (k + 2) pages (omega arith)) e

-- the last n of the free pages
free_At : (n k : ℕ) (f : ℕ → ℕ) → ((i : ℕ) → f i ≡ suc (k + i)) → n + suc k ≡ pages → Each (At fresh_pages) (free_leaves (tab n f))
unfolding tab free_leaves fresh_page
free_At zero k f e h = tt
free_At (suc n) k f e h = (
  ap (page_at fresh_pages) (e 0 ∙ omega arith) ∙ fresh_At (suc k) (omega arith) ∙ ap free_page_of (sym (fresh_next n k (λ i. f (suc i)) (e 1 ∙ omega arith) (omega arith))),
  free_At n (suc k) (λ i. f (suc i)) (λ i. e (suc i) ∙ omega arith) (omega arith),
)

pub fresh-Laid : Laid fresh fresh_pages
unfolding fresh store_leaves cells_leaves cell_leaves leaves concat fresh_page
fresh-Laid = record {
  size = ap length fresh_tab ∙ length_pieces page_bytes pages fresh_page length-fresh_page;
  leaf = (fresh_At 0 (omega arith), free_At (pages - 1) 0 suc (λ i. omega arith) refl);
}

pub fresh_once : PagesOnce fresh
unfolding chains fresh concat
fresh_once p = ap (count p) (sym (tab-cons (pages - 1) (λ i. i))) ∙ count-tab p pages

pub fresh_pages_lem : pages_of fresh ≡ fresh_pages
fresh_pages_lem = sym (pages_Laid fresh fresh_once fresh_pages fresh-Laid)

-- ---- it is well-formed

abbrev fresh_cell : Cell
fresh_cell = record { number = 0; edges = square; chain = 0 ∷ []; entries = [] }

fresh_cell_lem : GoodCell fresh.cuts fresh_cell
unfolding fresh pages_for
fresh_cell_lem = let e = Tiling-fresh.cells_edged.0 in record { numbered = e.numbered; edged = e.edged; paged = refl; rising = tt; radios = tt; placed = tt }

none_stale : (c : Cell) → stale_in [] c ≡ 0
unfolding stale_in find
none_stale c = sum_zero _ c.entries (λ e. refl)

pub fresh_well : WellFormed fresh
unfolding fresh live_of is_on waiting_in find sum_by
fresh_well = record {
  few_cells = Tiling-fresh.few_cells;
  few_cuts = Tiling-fresh.few_cuts;
  few_on = omega arith;
  radios_on = tt;
  rising_on = tt;
  cuts_rise = Tiling-fresh.cuts_rise;
  cuts_end = Tiling-fresh.cuts_end;
  tiled = Tiling-fresh.tiled;
  cells = (fresh_cell_lem, tt);
  once = fresh_once;
  present = λ r. refl;
  unmarked = λ r w e n. cc;
  memo_rises = tt;
  memo_radios = tt;
  lines = λ r l. none-some;
  waiting_rises = tt;
  waiting_radios = tt;
  waiting_placed = λ r w. none-some;
  few_wait = omega arith;
  few_in_box = λ m. omega arith;
  round = Tiling-fresh.round;
  tallied = omega arith;
  entries_dated = (tt, tt);
  waiting_dated = tt;
  bounded = λ k h. omega (arith, sum_zero (stale_in []) (drop k (fresh_cell ∷ [])) none_stale);
}

-- ---- no watch is set

fresh_none : (n : ℕ) → Each NotReversed (replicate n None)
fresh_none zero = tt
fresh_none (suc n) = (tt, fresh_none n)

pub fresh_right : RightWatches fresh_watched.watches
unfolding fresh_watched
fresh_right = record { sixteen = refl; none_reversed = fresh_none max_watches }

pub fresh_Sound : Sound (desk_of fresh_watched) fresh_pages
unfolding fresh_watched
fresh_Sound = record { watched = fresh_watched; well = fresh_well; right = fresh_right; held = refl; laid = fresh-Laid }

-- ---- its desk

-- what `Desk::fresh` makes, cell 0 being written in a blank array
abbrev fresh_with : List Slot → List Watch → Desk
fresh_with cells watches = record {
  parts = record {
    frame = record { easts = record { n = 0; at = replicate max_cuts 0 }; norths = record { n = 0; at = replicate max_cuts 0 }; cells = 1; free = 1 };
    waiting = 0;
    lines = 0;
    on = 0;
    tally = 0;
    highest = 0;
  };
  cells = cells;
  waiting = replicate (report_fields * full_memory) 0;
  memo = replicate line_slots no_line;
  on = replicate max_on 0;
  watches = watches;
}

pub fresh_desk : fresh_with (slot_of fresh_cell ∷ replicate (max_cells - 1) no_slot) (replicate max_watches unset_watch) ≡ desk_of fresh_watched
unfolding fresh_watched fresh desk_of ledger_of grid_of cut_list_of directory_of waiting_of memo_of on_of slotted tab concat report_words
fresh_desk = ap (fresh_with _) (sym (blank_watches (latest_place fresh) max_watches))
