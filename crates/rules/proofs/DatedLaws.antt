-- No entry and no waiting report is above the highest minute, through every step: entries are kept, moved, parted and put together, and one that is put in is
-- a waiting report's.
use mathlib.Core.List.{List, [], ◌∷◌, ◌++◌}
use Rattle.std.specs.Prelude.{Option, None, Some}
use mathlib.Core.Path.{◌≡◌, subst}
use Prim.Native.Nat.{ℕ, ◌≤◌}
use native.Mathlib.Omega.{arith}
use Rattle.terms.specs.Terms.{Fix}
use Rattle.lists.specs.Among.{Among}
use Rattle.lists.specs.Rows.{Row, Rows, alter}
use Rattle.lists.specs.Sums.{filter}
use Rattle.lists.specs.Tests.{Each}
use Rattle.lists.proofs.Cases.{none-some}
use Rattle.lists.proofs.RowsLaws.{Each-alter, Each-insert, Each-merge}
use Rattle.lists.proofs.TestsLaws.{Each_map, Each-append, Each_middle, Each-filter}
use Rattle.rules.specs.Grid.{Box}
use Rattle.rules.specs.Store.{Report, Line, Cell, Store, settled}
use Rattle.rules.specs.Sweep.{swept_entries, swept}
use Rattle.rules.specs.Cut.{Cut, low_side}
use Rattle.rules.specs.Flush.{Work, enter, enter_each, in_box, Flushed, flushed_into, low_cell, high_cell, joined}
use Rattle.rules.specs.WellFormed.{EntriesDated}
use Rattle.rules.specs.Parts.{Dated}

module _ (highest : ℕ) where
  -- of an entry, of a cell, of a waiting report
  abbrev pub EntryDated : Row Fix → Type 0
  EntryDated e = e.val.minute ≤ highest

  abbrev pub CellDated : Cell → Type 0
  CellDated c = Each EntryDated c.entries

  abbrev pub ReportDated : Row Report → Type 0
  ReportDated w = w.val.fix.minute ≤ highest

  -- ---- one cell

  pub Dated_settled : (free : List ℕ) (c : Cell) → CellDated c → CellDated (settled free c)
  unfolding settled
  Dated_settled free c e = e

  pub Dated_swept : (memo : Rows Line) (c : Cell) → CellDated c → CellDated (swept memo c)
  unfolding swept swept_entries
  Dated_swept memo c e = Each-filter EntryDated EntryDated _ c.entries (λ x h _. h) e

  Dated_enter_each : (ws : Rows Report) (k : Work) → Each ReportDated ws → Each EntryDated k.entries → Each EntryDated (enter_each ws k).entries
  unfolding enter_each enter
  Dated_enter_each [] k r e = e
  Dated_enter_each (w ∷ ws) k r e = Dated_enter_each ws (enter w k) r.1 (Each-insert EntryDated w.key w.val.fix k.entries r.0 e)

  pub Dated_low : (c : Cut) (d : Cell) → CellDated d → CellDated (low_cell c d)
  unfolding low_cell
  Dated_low c d e = Each-filter EntryDated EntryDated (low_side c) d.entries (λ x h _. h) e

  pub Dated_high : (c : Cut) (n : ℕ) (d : Cell) → CellDated d → CellDated (high_cell c n d)
  unfolding high_cell
  Dated_high c n d e = Each-filter EntryDated EntryDated _ d.entries (λ x h _. h) e

  pub Dated_joined : (f : Flushed) (n : Cell) → CellDated f.cell → CellDated n → CellDated (joined f n)
  unfolding settled swept_entries
  Dated_joined f n d e = Each-merge EntryDated _ f.cell.entries (Each-filter EntryDated EntryDated _ n.entries (λ x h _. h) e) d

  -- ---- the store

  pub Dated_back : (d : Cell) (rest : List Cell) → EntriesDated highest (d ∷ rest) → EntriesDated highest (rest ++ (d ∷ []))
  Dated_back d rest e = Each-append CellDated rest (d ∷ []) e.1 (e.0, tt)

  pub Dated_flushed : (m : Box) (s : Store) (d : Cell) (a : Among s.cells d) → Dated highest s.cells s.waiting
      → Dated highest ((flushed_into m s d).cell ∷ (a.before ++ a.after)) (flushed_into m s d).store.waiting
  unfolding flushed_into swept_entries
  Dated_flushed m s d a k =
      let e = Each_middle CellDated a.before d a.after (subst (EntriesDated highest) a.split k.entries) in
      record {
        entries = (
          Dated_enter_each (filter (in_box s.cuts m) s.waiting) _ (Each-filter ReportDated ReportDated (in_box s.cuts m) s.waiting (λ x h _. h) k.reports)
              (Each-filter EntryDated EntryDated _ d.entries (λ x h _. h) e.0),
          e.1,
        );
        reports = Each-filter ReportDated ReportDated _ s.waiting (λ x h _. h) k.reports;
      }

-- a report is put among the waiting, or none is
pub Dated_put : (s : Store) → Dated s.highest s.cells s.waiting → (r : ℕ) (f : Fix) → f.minute ≤ s.highest → (g : Option Report → Option Report)
    → ((o : Option Report) (v : Report) → g o ≡ Some v → v.fix ≡ f) → Dated s.highest s.cells (alter g r s.waiting)
Dated_put s k r f early g told = record {
  entries = k.entries;
  reports = Each-alter (ReportDated s.highest) g r s.waiting (λ o v e. rw (told o v e) early) k.reports;
}

pub Dated_off : (s : Store) → Dated s.highest s.cells s.waiting → (r : ℕ) → Dated s.highest s.cells (alter (λ _. None) r s.waiting)
Dated_off s k r = record {
  entries = k.entries;
  reports = Each-alter (ReportDated s.highest) (λ _. None) r s.waiting (λ o v e. none-some e) k.reports;
}

-- a later minute dates all that an earlier one does
pub Dated_later : (highest later : ℕ) (cells : List Cell) (waiting : Rows Report) → highest ≤ later → Dated highest cells waiting → Dated later cells waiting
Dated_later highest later cells waiting h k = record {
  entries = Each_map (CellDated highest) (CellDated later) cells (λ c. Each_map (EntryDated highest) (EntryDated later) c.entries (λ e le. omega (arith, le, h))) k.entries;
  reports = Each_map (ReportDated highest) (ReportDated later) waiting (λ w le. omega (arith, le, h)) k.reports;
}
