-- A well-formed store and its parts: one is the other with the limits that hold between two calls.
use mathlib.Core.Bool.{false}
use mathlib.Core.List.{List, [], ◌∷◌}
use Rattle.std.specs.Prelude.{Option, None, Some}
use mathlib.Core.Path.{◌≡◌, refl, sym, ap, ◌∙◌}
use Prim.Native.Nat.{ℕ, ◌<◌, ◌≤◌}
use lib.ListN.{length}
use Rattle.terms.specs.Terms.{Fix}
use Rattle.lists.specs.Rows.{Rows, find}
use Rattle.lists.specs.Tests.{Each}
use Rattle.lists.proofs.Cases.{option_cases}
use Rattle.lists.proofs.SumsLaws.{sum_zero}
use Rattle.lists.proofs.TestsLaws.{Each_map}
use Rattle.rules.specs.Limits.{full_box, full_memory, sweep_every}
use Rattle.rules.specs.Grid.{Cuts, Box}
use Rattle.rules.specs.Store.{Line, Cell, Store, pages_for, missed_of, with_highest}
use Rattle.rules.specs.Carry.{is_on, waiting_in}
use Rattle.rules.specs.WellFormed.{count_if, stale_of, chains, GoodCell, WellFormed}
use Rattle.rules.specs.Parts.{Edged, Tiling, stale_r, Rowed, Books, Paged, Bounded, Core, marks, on_set}
use Rattle.rules.proofs.TilingLaws.{apart}
use Rattle.rules.proofs.DatedLaws.{Dated_later}

-- a radio with a line: its stale entries by the line's place; one without: none
stale_line : (memo : Rows Line) (r : ℕ) (l : Line) (cells : List Cell) → find memo r ≡ Some l → stale_r memo r cells ≡ stale_of l.last r cells
unfolding stale_r stale_of
stale_line memo r l cells e = rw e

stale_none : (memo : Rows Line) (r : ℕ) (cells : List Cell) → find memo r ≡ None → stale_r memo r cells ≡ 0
unfolding stale_r
stale_none memo r cells e = rw e (sum_zero (λ c. count_if (λ p. false) (find c.entries r)) cells (λ c. never (find c.entries r)))
  where
    never : (o : Option Fix) → count_if (λ p. false) o ≡ 0
    never None = refl
    never (Some f) = refl

edged : (cuts : Cuts) (cells : List Cell) → Each (GoodCell cuts) cells → Each (Edged cuts) cells
edged cuts cells g = Each_map (GoodCell cuts) (Edged cuts) cells (λ c x. record { numbered = x.numbered; edged = x.edged }) g

pub well_Tiling : (s : Store) → WellFormed s → Tiling s.cuts s.cells
well_Tiling s w = record {
  few_cells = w.few_cells;
  few_cuts = w.few_cuts;
  cuts_rise = w.cuts_rise;
  cuts_end = w.cuts_end;
  tiled = w.tiled;
  cells_edged = edged s.cuts s.cells w.cells;
  round = w.round;
}

well_Books : (s : Store) → WellFormed s → Books s.cells s.memo (marks s.waiting) (on_set s.on)
unfolding is_on
well_Books s w = record {
  cells_rowed = Each_map (GoodCell s.cuts) Rowed s.cells (λ c x. record { rising = x.rising; radios = x.radios; placed = x.placed }) w.cells;
  apart = apart s.cuts s.cells (well_Tiling s w);
  memo_rises = w.memo_rises;
  memo_radios = w.memo_radios;
  lines = λ r l e. let g = w.lines r l e in (g.missing, g.placed);
  counted = λ r. option_cases (find s.memo r)
      (λ e. stale_none s.memo r s.cells e ∙ sym (ap missed_of e))
      (λ l e. stale_line s.memo r l s.cells e ∙ (w.lines r l e).equal ∙ sym (ap missed_of e));
  present = w.present;
}

well_Paged : (s : Store) → WellFormed s → Paged s.cells s.free
unfolding chains
well_Paged s w = record { once = w.once; cells_paged = Each_map (GoodCell s.cuts) _ s.cells (λ c x. x.paged) w.cells }

pub well_Core : (s : Store) → WellFormed s → Core s
unfolding is_on
well_Core s w = record {
  tiling = well_Tiling s w;
  books = well_Books s w;
  paged = well_Paged s w;
  signed = record { few_on = w.few_on; radios_on = w.radios_on; rising_on = w.rising_on };
  waits = record { waiting_rises = w.waiting_rises; waiting_radios = w.waiting_radios; waiting_placed = w.waiting_placed; unmarked = w.unmarked };
  dated = record { entries = w.entries_dated; reports = w.waiting_dated };
}

pub well_Bounded : (s : Store) → WellFormed s → Bounded s.memo s.cells (length s.waiting) s.tally
unfolding Bounded
well_Bounded s w = w.bounded

good_cells : (cuts : Cuts) (cells : List Cell) → Each (Edged cuts) cells → Each Rowed cells → Each (λ c. length c.chain ≡ pages_for (length c.entries)) cells → Each (GoodCell cuts) cells
good_cells cuts [] e r p = tt
good_cells cuts (c ∷ cs) e r p =
    (record { numbered = e.0.numbered; edged = e.0.edged; paged = p.0; rising = r.0.rising; radios = r.0.radios; placed = r.0.placed }, good_cells cuts cs e.1 r.1 p.1)

-- between two calls
pub Core_well : (s : Store) → Core s → Bounded s.memo s.cells (length s.waiting) s.tally → length s.waiting < full_memory
    → ((m : Box) → waiting_in s.cuts s.waiting m < full_box) → s.tally < sweep_every → WellFormed s
unfolding Bounded chains is_on
Core_well s c b few boxes t =
    let g = c.tiling in
    let k = c.books in
    record {
      few_cells = g.few_cells;
      few_cuts = g.few_cuts;
      few_on = c.signed.few_on;
      radios_on = c.signed.radios_on;
      rising_on = c.signed.rising_on;
      cuts_rise = g.cuts_rise;
      cuts_end = g.cuts_end;
      tiled = g.tiled;
      cells = good_cells s.cuts s.cells g.cells_edged k.cells_rowed c.paged.cells_paged;
      once = c.paged.once;
      present = k.present;
      unmarked = c.waits.unmarked;
      memo_rises = k.memo_rises;
      memo_radios = k.memo_radios;
      lines = λ r l e. record {
        missing = (k.lines r l e).0;
        equal = sym (stale_line s.memo r l s.cells e) ∙ k.counted r ∙ ap missed_of e;
        placed = (k.lines r l e).1;
      };
      waiting_rises = c.waits.waiting_rises;
      waiting_radios = c.waits.waiting_radios;
      waiting_placed = c.waits.waiting_placed;
      few_wait = few;
      few_in_box = boxes;
      round = g.round;
      tallied = t;
      entries_dated = c.dated.entries;
      waiting_dated = c.dated.reports;
      bounded = b;
    }

-- a later minute is remembered
pub later_well : (s : Store) → WellFormed s → (minute : ℕ) → s.highest ≤ minute → WellFormed (with_highest minute s)
unfolding Bounded waiting_in
later_well s w minute late =
    let c = well_Core s w in
    Core_well (with_highest minute s)
    (record { tiling = c.tiling; books = c.books; paged = c.paged; signed = c.signed; waits = c.waits; dated = Dated_later s.highest minute s.cells s.waiting late c.dated })
    (well_Bounded s w) w.few_wait w.few_in_box w.tallied
