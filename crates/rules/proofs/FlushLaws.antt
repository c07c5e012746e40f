-- A flush keeps the parts of the invariant: d is swept, the reports of m go into it, and it is then grown, split or joined.
use mathlib.Core.Bool.{true, false, not, cond}
use mathlib.Core.List.{List, [], ◌∷◌, ◌++◌, map}
use Rattle.std.specs.Prelude.{Option, None, Some}
use mathlib.Core.Path.{◌≡◌, refl, sym, ap, ◌∙◌, subst}
use Prim.Native.Nat.{ℕ, ◌+◌, ◌-◌, ◌≤◌, ◌<◌, min}
use native.Mathlib.Omega.{arith}
use lib.Dec.{ltb}
use lib.ListN.{length, drop}
use borrow.Author.Tests.{ltb-true}
use Rattle.terms.specs.Terms.{max_radio, page_entries}
use Rattle.lists.specs.Rows.{Rows, Rising, find, passed}
use Rattle.lists.specs.Sums.{sum_by, filter, count}
use Rattle.lists.specs.Tests.{one_if, Each, is_some}
use Rattle.lists.specs.Among.{Among}
use Rattle.lists.proofs.Cases.{by_cases}
use Rattle.lists.proofs.AmongLaws.{Each-Among, Among_tail}
use Rattle.lists.proofs.RowsLaws.{find-filter, Rising-filter, find-Each, Each-find, length-merge-le, find-filter-some}
use Rattle.lists.proofs.SumsLaws.{sum-cons, length-filter-not, sum_middle, length_middle}
use Rattle.lists.proofs.TestsLaws.{Each-filter, Each-append, Each_middle}
use Rattle.rules.specs.Limits.{max_cells, full_memory, sweep_every}
use Rattle.rules.specs.Grid.{Rect, inside, Cuts, Box, corner_of}
use Rattle.rules.specs.Store.{Report, Line, Cell, Store, others, settled, free_after}
use Rattle.rules.specs.Sweep.{stale, swept_entries, swept_memo, swept}
use Rattle.rules.specs.Cut.{Cut, chosen_cut}
use Rattle.rules.specs.Flush.{joined, in_box, Flushed, flushed_into, grown, low_cell, high_cell, unused_number, split_at, split_or, beside, neighbour, joined_edges, joined_with, join_or, reshaped, low_edges, high_edges}
use Rattle.rules.specs.Carry.{was_new}
use Rattle.rules.specs.WellFormed.{stale_in, EntriesDated}
use Rattle.rules.specs.Parts.{Edged, Tiling, Rowed, Books, Clean, Paged, Bounded, Waits, Dated, Core, marks, on_set}
use Rattle.rules.proofs.DatedLaws.{CellDated, Dated_settled, Dated_low, Dated_high, Dated_joined, Dated_back, Dated_flushed}
use Rattle.rules.specs.Midway.{MidCall, size, most_entries, MidFlush}
use Rattle.rules.proofs.BooksLaws.{Books_back, Books_back2, Books_same, Books_swap, Books_ext, Books_sweep, Clean-swept, stale_sweep, stale_sweep_sum, Enters, marks_without, Books-enter_each, Clean-enter_each, stale_enter_each, Books_split, Books_join, Clean_join, entries_total, Books-Among}
use Rattle.rules.proofs.TilingLaws.{inside_home, Tiling-Among, others-Among, others_split, Tiling_move, GoodCut, cuts_with, Tiling_split, Tiling_join, smaller-number, round_others}
use Rattle.rules.proofs.CutLaws.{in_box_box, chosen_good, waiting_length, length_cleared}
use Rattle.rules.proofs.NeighbourLaws.{Near, neighbour-Near}
use Rattle.rules.proofs.PagedLaws.{grown-Paged, split_at-Paged, joined_with-Paged}
use Rattle.rules.proofs.RoundLaws.{Bounded_total, grown-Bounded, split_at-Bounded, joined_with-Bounded}

-- ---- the reports of a memory cell, and the others

find_kept : (cuts : Cuts) (m : Box) (l : Rows Report) (r : ℕ) (w : Report) → Rising 0 l → find (filter (λ x. not (in_box cuts m x)) l) r ≡ Some w → find l r ≡ Some w
find_kept cuts m l r w a e = (find-filter-some (λ x. not (in_box cuts m x)) 0 r l w a e).0

pub Waits_kept : (cuts : Cuts) (m : Box) (s : Store) → Waits s.waiting s.on → Waits (filter (λ x. not (in_box cuts m x)) s.waiting) s.on
Waits_kept cuts m s w = record {
  waiting_rises = Rising-filter (λ x. not (in_box cuts m x)) 0 s.waiting w.waiting_rises;
  waiting_radios = Each-filter _ _ (λ x. not (in_box cuts m x)) s.waiting (λ x h _. h) w.waiting_radios;
  waiting_placed = λ r v e. w.waiting_placed r v (find_kept cuts m s.waiting r v w.waiting_rises e);
  unmarked = λ r v e. w.unmarked r v (find_kept cuts m s.waiting r v w.waiting_rises e);
}

-- a mark is kept where the report is, and there is none where it went in
marks_kept : (cuts : Cuts) (m : Box) (l : Rows Report) → Rising 0 l → (r : ℕ)
    → marks_without (filter (in_box cuts m) l) (marks l) r ≡ marks (filter (λ x. not (in_box cuts m x)) l) r
marks_kept cuts m l a r =
    rw (find-filter (in_box cuts m) 0 r l a, find-filter (λ x. not (in_box cuts m x)) 0 r l a) (here (find l r))
  where
    here : (o : Option Report) → cond (is_some (passed (in_box cuts m) r o)) false (was_new o) ≡ was_new (passed (λ x. not (in_box cuts m x)) r o)
    here None = refl
    here (Some w) = by_cases (in_box cuts m (record { key = r; val = w })) (λ t. rw t) (λ t. rw t)

-- ---- d once the reports are in

module _ (m : Box) (s : Store) (d : Cell) (k : Core s) (a : Among s.cells d) (home : inside d.edges (corner_of s.cuts m) ≡ true) where
  abbrev before : List Cell
  before = a.before

  abbrev after : List Cell
  after = a.after

  abbrev reports : Rows Report
  reports = filter (in_box s.cuts m) s.waiting

  pub rest_is : (flushed_into m s d).rest ≡ before ++ after
  unfolding flushed_into
  rest_is = others-Among s.cells d a k.tiling.round

  pub tiled : Tiling s.cuts (before ++ (d ∷ after))
  tiled = Tiling-Among a k.tiling

  pub Books-before : Books (d ∷ (before ++ after)) s.memo (marks s.waiting) (on_set s.on)
  Books-before = Books-Among a k.books

  -- each report of m is one that d takes
  report_on : (r : ℕ) (w : Report) → find s.waiting r ≡ Some w → on_set s.on r ≡ true
  report_on r w e =
      by_cases w.new
      (λ t. by_cases (on_set s.on r) (λ u. u) (λ u. absurd (omega (arith, k.books.present r, ap one_if (ap was_new e ∙ t), ap one_if u))))
      (λ t. k.waits.unmarked r w e t)

  pub report_Enters : (r : ℕ) (w : Report) → find s.waiting r ≡ Some w → in_box s.cuts m (record { key = r; val = w }) ≡ true
      → Enters d.edges (marks s.waiting) (on_set s.on) (record { key = r; val = w })
  report_Enters r w e t =
      let square = k.waits.waiting_placed r w e in
      record {
        radio = Each-find (λ q v. q ≤ max_radio) r w s.waiting k.waits.waiting_radios e;
        here = inside_home s.cuts s.cells d m w.fix.place k.tiling (Each-Among (Edged s.cuts) k.tiling.cells_edged a) home square (in_box_box s.cuts m (record { key = r; val = w }) t);
        square = square;
        marked = ap was_new e;
        signed = report_on r w e;
      }

  reports_rise : Rising 0 reports
  reports_rise = Rising-filter (in_box s.cuts m) 0 s.waiting k.waits.waiting_rises

  pub report_found : (r : ℕ) (w : Report) → find reports r ≡ Some w → (find s.waiting r ≡ Some w) × (in_box s.cuts m (record { key = r; val = w }) ≡ true)
  report_found r w e = find-filter-some (in_box s.cuts m) 0 r s.waiting w k.waits.waiting_rises e

  enters : Each (Enters (swept s.memo d).edges (marks s.waiting) (on_set s.on)) reports
  unfolding swept
  enters =
      find-Each (λ r w. Enters d.edges (marks s.waiting) (on_set s.on) (record { key = r; val = w })) 0 reports reports_rise
      (λ r w e. let q = report_found r w e in report_Enters r w q.0 q.1)

  -- d is swept, the reports go in
  pub Books-swept : Books (swept s.memo d ∷ (before ++ after)) (swept_memo s.memo d.entries) (marks s.waiting) (on_set s.on)
  Books-swept = Books_sweep d (before ++ after) Books-before

  Clean_first : Clean (swept_memo s.memo d.entries) (swept s.memo d)
  Clean_first = Clean-swept d (before ++ after) Books-before

  pub Books_flushed : Books ((flushed_into m s d).cell ∷ (before ++ after)) (flushed_into m s d).store.memo (marks (flushed_into m s d).store.waiting) (on_set s.on)
  unfolding flushed_into swept
  Books_flushed =
      Books_ext (marks_kept s.cuts m s.waiting k.waits.waiting_rises) (λ r. refl)
      (Books-enter_each (swept s.memo d) (before ++ after) Books-swept Clean_first 0 reports reports_rise enters)

  pub Clean_flushed : Clean (flushed_into m s d).store.memo (flushed_into m s d).cell
  unfolding flushed_into swept
  Clean_flushed = Clean-enter_each (swept s.memo d) (before ++ after) Books-swept Clean_first 0 reports reports_rise enters

  pub stale_flushed : (j : ℕ) → sum_by (stale_in (flushed_into m s d).store.memo) (drop j (before ++ after)) ≤ sum_by (stale_in s.memo) (drop j (before ++ after)) + length reports
  unfolding flushed_into swept
  stale_flushed j =
      omega (arith, stale_enter_each (swept s.memo d) (before ++ after) Books-swept Clean_first 0 reports reports_rise enters j, stale_sweep_sum d (before ++ after) Books-before j)

  pub waiting_flushed : length (flushed_into m s d).store.waiting + length reports ≡ length s.waiting
  unfolding flushed_into
  waiting_flushed = omega (arith, length_cleared s.cuts s.waiting m, waiting_length s.cuts s.waiting m)

  -- how many entries there are in all
  module _ (c : ℕ) (b : Bounded s.memo s.cells (length s.waiting) c) (late : c ≤ sweep_every) where
    bounded : Bounded s.memo (before ++ (d ∷ after)) (length s.waiting) c
    bounded = subst (λ (l : List Cell). Bounded s.memo l (length s.waiting) c) a.split b

    pub few_entries : sum_by size (before ++ after) + size (flushed_into m s d).cell ≤ most_entries
    few_entries =
        let total = entries_total s.on k.signed Books_flushed in
        let all = Bounded_total s.memo (before ++ (d ∷ after)) (length s.waiting) c bounded (omega (arith, length_middle before d after)) in
        omega (
          arith,
          total,
          all,
          k.signed.few_on,
          sum-cons size (flushed_into m s d).cell (before ++ after),
          sum-cons (stale_in (flushed_into m s d).store.memo) (flushed_into m s d).cell (before ++ after),
          Clean_flushed,
          stale_flushed 0,
          waiting_flushed,
          sum_middle (stale_in s.memo) before d after,
        )

    Dated_here : Dated s.highest ((flushed_into m s d).cell ∷ (before ++ after)) (flushed_into m s d).store.waiting
    Dated_here = Dated_flushed s.highest m s d a k.dated

    pub ready : length (flushed_into m s d).store.waiting ≤ c + (full_memory - 1) → MidFlush (flushed_into m s d) d before after s.memo (length reports) c
    unfolding flushed_into
    ready room = record {
      rest = rest_is;
      cells = a.split;
      number = refl;
      edges = refl;
      chain = refl;
      tiled = tiled;
      books = Books_flushed;
      clean = Clean_flushed;
      paged = subst (λ (l : List Cell). Paged l s.free) a.split k.paged;
      few = few_entries;
      signed = k.signed;
      waits = Waits_kept s.cuts m s k.waits;
      dated = Dated_here;
      bounded = subst (λ (w : ℕ). Bounded s.memo (before ++ (d ∷ after)) w c) (sym waiting_flushed) bounded;
      stale = stale_flushed;
      room = room;
    }

-- ---- grown

module _ (f : Flushed) (d₀ : Cell) (before after : List Cell) (memo : Rows Line) (n c : ℕ) (r : MidFlush f d₀ before after memo n c) where
  Tiling_grown : Tiling f.store.cuts ((before ++ after) ++ (settled f.store.free f.cell ∷ []))
  unfolding settled
  Tiling_grown = Tiling_move f.store.cuts before d₀ after _ r.tiled r.number r.edges

  Books-settled : (rest : List Cell) → Books (f.cell ∷ rest) f.store.memo (marks f.store.waiting) (on_set f.store.on)
      → Books (settled f.store.free f.cell ∷ rest) f.store.memo (marks f.store.waiting) (on_set f.store.on)
  unfolding settled
  Books-settled rest b = Books_same f.cell _ rest refl refl b

  pub grown_mid : MidCall (grown f) c
  unfolding grown
  grown_mid =
      let cell : Cell = settled f.store.free f.cell in
      record {
        core = record {
          tiling = subst (λ (l : List Cell). Tiling f.store.cuts (l ++ (cell ∷ []))) (sym r.rest) Tiling_grown;
          books =
              subst (λ (l : List Cell). Books (l ++ (cell ∷ [])) f.store.memo (marks f.store.waiting) (on_set f.store.on)) (sym r.rest)
              (Books_back cell (before ++ after) (Books-settled (before ++ after) r.books));
          paged = grown-Paged f before after d₀ r.paged r.chain r.rest r.few r.tiled.few_cells;
          signed = r.signed;
          waits = r.waits;
          dated = record {
            entries =
                subst (λ (l : List Cell). EntriesDated f.store.highest (l ++ (cell ∷ []))) (sym r.rest)
                (Dated_back f.store.highest cell (before ++ after) (Dated_settled f.store.highest f.store.free f.cell r.dated.entries.0, r.dated.entries.1));
            reports = r.dated.reports;
          };
        };
        bounded =
            grown-Bounded f memo before after d₀ (length f.store.waiting + n) (length f.store.waiting) n c r.bounded refl r.stale r.room r.rest r.clean;
      }

  -- ---- split

  module _ (cut : Cut) (good : GoodCut f.store.cuts f.cell.edges cut) (few : length f.store.cells < max_cells) where
    abbrev low : Cell
    low = low_cell cut f.cell

    abbrev high : Cell
    high = high_cell cut (unused_number f.store.cells) f.cell

    abbrev low_laid : Cell
    low_laid = settled f.store.free low

    abbrev high_laid : Cell
    high_laid = settled (free_after f.store.free low) high

    Tiling-cut : Tiling (cuts_with cut f.store.cuts) ((before ++ after) ++ (low_laid ∷ high_laid ∷ []))
    unfolding settled low_cell high_cell
    Tiling-cut =
        Tiling_split f.store.cuts before d₀ after cut r.tiled (subst (λ (e : Rect). GoodCut f.store.cuts e cut) r.edges good) low_laid high_laid
        (subst (λ (l : List Cell). length l < max_cells) r.cells few)
        r.number
        (ap (low_edges cut) r.edges)
        (ap unused_number r.cells)
        (ap (high_edges cut) r.edges)

    Books_cut : Books ((before ++ after) ++ (low_laid ∷ high_laid ∷ [])) f.store.memo (marks f.store.waiting) (on_set f.store.on)
    unfolding settled
    Books_cut =
        let b = Books_split cut (unused_number f.store.cells) f.cell good.crosses (before ++ after) r.books in
        let l = Books_same low low_laid (high ∷ (before ++ after)) refl refl b in
        let h = Books_same high high_laid (low_laid ∷ (before ++ after)) refl refl (Books_swap low_laid high (before ++ after) l) in
        Books_back2 low_laid high_laid (before ++ after) (Books_swap high_laid low_laid (before ++ after) h)

    Dated_cut : EntriesDated f.store.highest ((before ++ after) ++ (low_laid ∷ high_laid ∷ []))
    Dated_cut =
        let h = f.store.highest in
        let d = r.dated.entries.0 in
        Each-append (CellDated h) (before ++ after) (low_laid ∷ high_laid ∷ []) r.dated.entries.1 (
          Dated_settled h f.store.free low (Dated_low h cut f.cell d),
          (Dated_settled h (free_after f.store.free low) high (Dated_high h cut (unused_number f.store.cells) f.cell d), tt),
        )

    pub split_mid : MidCall (split_at cut f) c
    unfolding split_at
    split_mid = record {
      core = record {
        tiling = subst (λ (l : List Cell). Tiling (cuts_with cut f.store.cuts) (l ++ (low_laid ∷ high_laid ∷ []))) (sym r.rest) Tiling-cut;
        books =
            subst (λ (l : List Cell). Books (l ++ (low_laid ∷ high_laid ∷ [])) f.store.memo (marks f.store.waiting) (on_set f.store.on)) (sym r.rest) Books_cut;
        paged = split_at-Paged f before after d₀ r.paged r.chain cut r.rest r.few (subst (λ (l : List Cell). length l < max_cells) r.cells few);
        signed = r.signed;
        waits = r.waits;
        dated = record {
          entries = subst (λ (l : List Cell). EntriesDated f.store.highest (l ++ (low_laid ∷ high_laid ∷ []))) (sym r.rest) Dated_cut;
          reports = r.dated.reports;
        };
      };
      bounded =
          split_at-Bounded f memo before after d₀ (length f.store.waiting + n) (length f.store.waiting) n c r.bounded refl r.stale r.room cut r.rest r.clean;
    }

  -- ---- join

  module _ (m : Cell) (a : Among (before ++ after) m) (near : Near f m) where
    abbrev left : List Cell
    left = a.before ++ a.after

    abbrev swept_cell : Cell
    swept_cell = swept f.store.memo m

    abbrev memo_then : Rows Line
    memo_then = swept_memo f.store.memo m.entries

    -- m is swept, d being one of the others
    Books_apart : Books (m ∷ f.cell ∷ left) f.store.memo (marks f.store.waiting) (on_set f.store.on)
    Books_apart = Books-Among (Among_tail f.cell a) r.books

    Books_swept_apart : Books (f.cell ∷ swept_cell ∷ left) memo_then (marks f.store.waiting) (on_set f.store.on)
    Books_swept_apart = Books_swap swept_cell f.cell left (Books_sweep m (f.cell ∷ left) Books_apart)

    stale_apart : Each (λ x. stale_in memo_then x ≡ stale_in f.store.memo x) (f.cell ∷ left)
    stale_apart = stale_sweep m (f.cell ∷ left) Books_apart

    Clean_d : Clean memo_then f.cell
    Clean_d = stale_apart.0 ∙ r.clean

    Clean_m : Clean memo_then swept_cell
    Clean_m = Clean-swept m (f.cell ∷ left) Books_apart

    beside_swept : beside near.side f.cell.edges swept_cell.edges ≡ true
    unfolding swept
    beside_swept = near.adjoins

    -- the very cell that the join puts last
    abbrev whole : Cell
    whole = joined f m

    Books-whole : Books (whole ∷ left) memo_then (marks f.store.waiting) (on_set f.store.on)
    unfolding settled swept
    Books-whole = Books_join f.cell swept_cell left Books_swept_apart Clean_d Clean_m whole.number whole.chain near.side beside_swept

    pub Clean-whole : Clean memo_then whole
    unfolding settled swept
    Clean-whole = Clean_join f.cell swept_cell left Books_swept_apart Clean_d Clean_m whole.number whole.chain near.side beside_swept

    Tiling-whole : Tiling f.store.cuts (left ++ (whole ∷ []))
    unfolding settled
    Tiling-whole =
        Tiling_join f.store.cuts before d₀ after m whole a near.side r.tiled (subst (λ (e : Rect). beside near.side e m.edges ≡ true) r.edges near.adjoins)
        (smaller-number (settled f.store.free f.cell) m ∙ ap (λ (k : ℕ). min k m.number) r.number)
        (ap (λ (e : Rect). joined_edges e m.edges) r.edges)

    pub others-left : others m.number f.rest ≡ left
    others-left =
        ap (others m.number) (r.rest ∙ a.split)
        ∙ others_split a.before m a.after (subst (λ (l : List Cell). (q : ℕ) → count q (map (λ x. x.number) l) ≤ 1) a.split (round_others before d₀ after r.tiled.round))

    few_whole : length whole.entries ≤ length f.cell.entries + length m.entries
    unfolding settled swept_entries
    few_whole =
        let b = r.books.cells_rowed in
        let rises = (Each-Among Rowed b.1 a).rising in
        omega (
          arith,
          length-merge-le 0 (swept_entries f.store.memo m.entries) f.cell.entries (Rising-filter (λ e. not (stale f.store.memo e)) 0 m.entries rises) b.0.rising,
          length-filter-not (stale f.store.memo) m.entries,
        )

    Dated_whole : EntriesDated f.store.highest (left ++ (whole ∷ []))
    Dated_whole =
        let h = f.store.highest in
        let e = Each_middle (CellDated h) a.before m a.after (subst (EntriesDated h) a.split r.dated.entries.1) in
        Dated_back h whole left (Dated_joined h f m r.dated.entries.0 e.0, e.1)

    pub join_mid : MidCall (joined_with f m) c
    unfolding joined_with
    join_mid = record {
      core = record {
        tiling = subst (λ (l : List Cell). Tiling f.store.cuts (l ++ (whole ∷ []))) (sym others-left) Tiling-whole;
        books =
            subst (λ (l : List Cell). Books (l ++ (whole ∷ [])) memo_then (marks f.store.waiting) (on_set f.store.on)) (sym others-left) (Books_back whole left Books-whole);
        paged = joined_with-Paged f before after d₀ r.paged r.chain m a.before a.after a.split others-left near.small few_whole;
        signed = r.signed;
        waits = r.waits;
        dated = record {
          entries = subst (λ (l : List Cell). EntriesDated f.store.highest (l ++ (whole ∷ []))) (sym others-left) Dated_whole;
          reports = r.dated.reports;
        };
      };
      bounded =
          joined_with-Bounded f memo before after d₀ (length f.store.waiting + n) (length f.store.waiting) n c r.bounded refl r.stale r.room m a.before a.after a.split others-left
          stale_apart.1 Clean-whole;
    }

  -- ---- the whole

  placed_flushed : Each (λ e. inside f.cell.edges e.val.place ≡ true) f.cell.entries
  placed_flushed = r.books.cells_rowed.0.placed

  pub split_or_lem : (o : Option Cut) → chosen_cut f.store.cuts f.cell.edges f.cell.entries ≡ o → length f.store.cells < max_cells → MidCall (split_or o f) c
  split_or_lem None e few = grown_mid
  split_or_lem (Some cut) e few = split_mid cut (chosen_good f.store.cuts f.cell.edges f.cell.entries cut placed_flushed e) few

  pub join_or_lem : (o : Option Cell) → neighbour f ≡ o → MidCall (join_or o f) c
  join_or_lem None e = grown_mid
  join_or_lem (Some m) e = let q = neighbour-Near f m e in join_mid m (subst (λ (l : List Cell). Among l m) r.rest q.among) q

  pub reshaped_mid : MidCall (reshaped f) c
  unfolding reshaped
  reshaped_mid =
      by_cases (ltb page_entries (length f.cell.entries))
      (λ t. rw t (by_cases (ltb (length f.store.cells) max_cells)
      (λ u. rw u (split_or_lem _ refl (ltb-true (length f.store.cells) max_cells u)))
      (λ u. rw u grown_mid)))
      (λ t. rw t (join_or_lem _ refl))
