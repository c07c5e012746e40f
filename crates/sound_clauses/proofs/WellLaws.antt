-- A store passes all tests exactly if it is well-formed: each test is one clause.
use mathlib.Core.Path.{◌≡◌, sym, ◌∙◌}
use mathlib.Core.Bool.{Bool, true}
use mathlib.Core.List.{List, [], ◌∷◌}
use Prim.Native.Nat.{◌≤◌, ◌<◌}
use lib.Dec.{leb}
use lib.ListN.{length}
use borrow.Author.Tests.{le-leb, leb-true}
use Rattle.terms.specs.Terms.{Place, max_radio}
use Rattle.lists.specs.Rows.{Rising, UpTo}
use Rattle.lists.specs.Sums.{sum_by, concat}
use Rattle.lists.specs.Tests.{one_if, Each, all}
use Rattle.lists.proofs.TestsLaws.{Each_map, all-Each, Each-all}
use Rattle.rules.specs.Limits.{last_metre, max_cells, max_cuts}
use Rattle.rules.specs.Grid.{Axis, eastward, northward, inside, Cuts, cuts_of}
use Rattle.rules.specs.Store.{Cell, Store, pages_for}
use Rattle.rules.specs.Carry.{is_on}
use Rattle.rules.specs.WellFormed.{RisingCuts, InSquare, EntriesDated, chains, GoodCell, WellFormed}
use Rattle.sound_clauses.specs.Grid.{cuts_test, edges_test, tile_test}
use Rattle.sound_clauses.specs.Cells.{numbers_of, edges_of, rows_of, numbers_test, round_test, pages_test, chain_test, radios_test, inside_test, minutes_test}
use Rattle.sound_clauses.specs.Radios.{on_test, present_test, unmarked_test, memo_test, lines_test, lasts_test}
use Rattle.sound_clauses.specs.Waiting.{waiting_test, places_test, dated_test, few_test}
use Rattle.sound_clauses.specs.Round.{tally_test, stale_counts, bound_test}
use Rattle.sound_clauses.proofs.LoopsLaws.{Each_of_map, Each_to_map}
use Rattle.sound_clauses.proofs.GridLaws.{by_axis, cuts_true, true_cuts, WholeBoxes, edges_true, true_edges, holding_cells, tile_true, true_tile}
use Rattle.sound_clauses.proofs.CellsLaws.{numbers_true, true_numbers, round_true, true_round, pages-true, true-pages, chain_true, true_chain, radios_true, true_radios, inside-true, true-inside, minutes_true, true_minutes}
use Rattle.sound_clauses.proofs.RadiosLaws.{on_true, true_on, RowsRise, RowsUpTo, present_true, true_present, unmarked_true, true_unmarked, memo_true, true_memo, lines_true, true_lines, true_lasts}
use Rattle.sound_clauses.proofs.WaitingLaws.{waiting_true, true_waiting, places_true, true_places, dated_true, true_dated, few_true, true_few}
use Rattle.sound_clauses.proofs.RoundLaws.{tally_true, true_tally, bound_true, true_bound}

-- ---- the tests by name

pub record Passes (s : Store) : Type 0 where
  pub few : leb (length s.cells) max_cells ≡ true
  pub on : on_test s.on ≡ true
  pub easts : cuts_test s.cuts.easts ≡ true
  pub norths : cuts_test s.cuts.norths ≡ true
  pub numbers : numbers_test (numbers_of s.cells) ≡ true
  pub edges : all (edges_test s.cuts) (edges_of s.cells) ≡ true
  pub tile : tile_test s.cuts (edges_of s.cells) ≡ true
  pub paged : pages_test (chains s) ≡ true
  pub chained : all (λ c. chain_test c.chain c.entries) s.cells ≡ true
  pub radios : all radios_test (rows_of s.cells) ≡ true
  pub placed : all (λ c. inside_test c.edges c.entries) s.cells ≡ true
  pub minutes : all (minutes_test s.highest) (rows_of s.cells) ≡ true
  pub present : present_test s.memo (concat (rows_of s.cells)) s.waiting s.on ≡ true
  pub unmarked : unmarked_test s.waiting s.on ≡ true
  pub memo : memo_test s.memo ≡ true
  pub lines : lines_test s.memo (concat (rows_of s.cells)) ≡ true
  pub lasts : lasts_test s.memo ≡ true
  pub waiting : waiting_test s.waiting ≡ true
  pub places : places_test s.waiting ≡ true
  pub dated : dated_test s.highest s.waiting ≡ true
  pub boxed : few_test s.cuts s.waiting ≡ true
  pub round : round_test (numbers_of s.cells) ≡ true
  pub tallied : tally_test s.tally ≡ true
  pub bounded : bound_test (stale_counts s.memo (rows_of s.cells)) (length s.waiting) s.tally ≡ true

-- ---- a store that passes is well-formed

good_cells : (cuts : Cuts) (cells : List Cell) → Each (λ c. c.number < max_cells) cells → Each (λ c. WholeBoxes cuts c.edges) cells
    → Each (λ c. length c.chain ≡ pages_for (length c.entries)) cells → Each (λ c. Rising 0 c.entries × UpTo max_radio c.entries) cells
    → Each (λ c. Each (λ e. inside c.edges e.val.place ≡ true) c.entries) cells → Each (GoodCell cuts) cells
good_cells cuts [] n e g r i = tt
good_cells cuts (c ∷ cs) n e g r i =
    (record { numbered = n.0; edged = e.0; paged = g.0; rising = r.0.0; radios = r.0.1; placed = i.0 }, good_cells cuts cs n.1 e.1 g.1 r.1 i.1)

module _ (s : Store) (p : Passes s) where
  cut_facts : (axis : Axis) → (length (cuts_of axis s.cuts) ≤ max_cuts) × RisingCuts 0 (cuts_of axis s.cuts) × Each (λ c. c ≤ last_metre) (cuts_of axis s.cuts)
  cut_facts =
      by_axis (λ a. (length (cuts_of a s.cuts) ≤ max_cuts) × RisingCuts 0 (cuts_of a s.cuts) × Each (λ c. c ≤ last_metre) (cuts_of a s.cuts))
      (cuts_true s.cuts.easts p.easts) (cuts_true s.cuts.norths p.norths)

  all_edged : Each (WholeBoxes s.cuts) (edges_of s.cells)
  all_edged = all-Each (edges_test s.cuts) (WholeBoxes s.cuts) (edges_of s.cells) (edges_true s.cuts) p.edges

  all_rows : Each (λ c. Rising 0 c.entries × UpTo max_radio c.entries) s.cells
  all_rows =
      Each_of_map (λ es. Rising 0 es × UpTo max_radio es) (λ c. c.entries) s.cells
      (all-Each radios_test (λ es. Rising 0 es × UpTo max_radio es) (rows_of s.cells) radios_true p.radios)

  rows_Rising : RowsRise s.cells
  rows_Rising = Each_map (λ c. Rising 0 c.entries × UpTo max_radio c.entries) (λ c. Rising 0 c.entries) s.cells (λ c x. x.0) all_rows

  rows_upto : RowsUpTo s.cells
  rows_upto = Each_map (λ c. Rising 0 c.entries × UpTo max_radio c.entries) (λ c. UpTo max_radio c.entries) s.cells (λ c x. x.1) all_rows

  all_good : Each (GoodCell s.cuts) s.cells
  all_good =
      good_cells s.cuts s.cells
      (Each_of_map (λ n. n < max_cells) (λ c. c.number) s.cells (numbers_true (numbers_of s.cells) p.numbers))
      (Each_of_map (WholeBoxes s.cuts) (λ c. c.edges) s.cells all_edged)
      (all-Each (λ c. chain_test c.chain c.entries) (λ c. length c.chain ≡ pages_for (length c.entries)) s.cells (λ c t. chain_true c.chain c.entries t) p.chained)
      all_rows
      (all-Each (λ c. inside_test c.edges c.entries) (λ c. Each (λ e. inside c.edges e.val.place ≡ true) c.entries) s.cells (λ c t. inside-true c.edges c.entries t) p.placed)

  all_dated : EntriesDated s.highest s.cells
  all_dated =
      Each_of_map (λ es. Each (λ e. e.val.minute ≤ s.highest) es) (λ c. c.entries) s.cells
      (all-Each (minutes_test s.highest) (λ es. Each (λ e. e.val.minute ≤ s.highest) es) (rows_of s.cells) (minutes_true s.highest) p.minutes)

  all_tiled : (q : Place) → InSquare q → sum_by (λ c. one_if (inside c.edges q)) s.cells ≡ 1
  all_tiled q h =
      sym (holding_cells q s.cells) ∙ tile_true s.cuts (edges_of s.cells) (λ a. (cut_facts a).2) (λ a. (cut_facts a).1) all_edged p.tile q h

  pub Passes_well : WellFormed s
  unfolding is_on
  Passes_well =
      let o = on_true s.on p.on in
      let m = memo_true s.memo p.memo in
      let w = waiting_true s.waiting p.waiting in
      record {
        few_cells = leb-true (length s.cells) max_cells p.few;
        few_cuts = λ a. (cut_facts a).0;
        few_on = o.0;
        radios_on = o.2;
        rising_on = o.1;
        cuts_rise = λ a. (cut_facts a).1;
        cuts_end = λ a. (cut_facts a).2;
        tiled = all_tiled;
        cells = all_good;
        once = pages-true (chains s) p.paged;
        present = present_true s.memo s.cells s.waiting s.on rows_Rising w.1 o.1 rows_upto w.2 o.2 p.present;
        unmarked = unmarked_true s.waiting s.on p.unmarked;
        memo_rises = m.0;
        memo_radios = m.1;
        lines = lines_true s.memo s.cells rows_Rising p.lines p.lasts;
        waiting_rises = w.1;
        waiting_radios = w.2;
        waiting_placed = places_true s.waiting p.places;
        few_wait = w.0;
        few_in_box = few_true s.cuts s.waiting p.boxed;
        round = round_true (numbers_of s.cells) (numbers_true (numbers_of s.cells) p.numbers) p.round;
        tallied = tally_true s.tally p.tallied;
        entries_dated = all_dated;
        waiting_dated = dated_true s.highest s.waiting p.dated;
        bounded = bound_true s.memo s.cells (length s.waiting) s.tally p.bounded;
      }

-- ---- a well-formed store passes

module _ (s : Store) (w : WellFormed s) where
  cell_all : (t : Cell → Bool) → ((c : Cell) → GoodCell s.cuts c → t c ≡ true) → all t s.cells ≡ true
  cell_all t h = Each-all t (GoodCell s.cuts) s.cells h w.cells

  cell_Each : (P : Cell → Type 0) → ((c : Cell) → GoodCell s.cuts c → P c) → Each P s.cells
  cell_Each P h = Each_map (GoodCell s.cuts) P s.cells h w.cells

  edges_pass : all (edges_test s.cuts) (edges_of s.cells) ≡ true
  edges_pass =
      Each-all (edges_test s.cuts) (WholeBoxes s.cuts) (edges_of s.cells) (true_edges s.cuts)
      (Each_to_map (WholeBoxes s.cuts) (λ c. c.edges) s.cells (cell_Each (λ c. WholeBoxes s.cuts c.edges) (λ c g. g.edged)))

  radios_pass : all radios_test (rows_of s.cells) ≡ true
  radios_pass =
      Each-all radios_test (λ es. radios_test es ≡ true) (rows_of s.cells) (λ es t. t)
      (Each_to_map (λ es. radios_test es ≡ true) (λ c. c.entries) s.cells (cell_Each (λ c. radios_test c.entries ≡ true) (λ c g. true_radios c.entries g.rising g.radios)))

  minutes_pass : all (minutes_test s.highest) (rows_of s.cells) ≡ true
  minutes_pass =
      Each-all (minutes_test s.highest) (λ es. Each (λ e. e.val.minute ≤ s.highest) es) (rows_of s.cells) (true_minutes s.highest)
      (Each_to_map (λ es. Each (λ e. e.val.minute ≤ s.highest) es) (λ c. c.entries) s.cells w.entries_dated)

  cells_rise : RowsRise s.cells
  cells_rise = cell_Each (λ c. Rising 0 c.entries) (λ c g. g.rising)

  pub well_Passes : Passes s
  unfolding is_on
  well_Passes = record {
    few = le-leb (length s.cells) max_cells w.few_cells;
    on = true_on s.on w.few_on w.rising_on w.radios_on;
    easts = true_cuts s.cuts.easts (w.few_cuts eastward) (w.cuts_rise eastward) (w.cuts_end eastward);
    norths = true_cuts s.cuts.norths (w.few_cuts northward) (w.cuts_rise northward) (w.cuts_end northward);
    numbers = true_numbers (numbers_of s.cells) (Each_to_map (λ n. n < max_cells) (λ c. c.number) s.cells (cell_Each (λ c. c.number < max_cells) (λ c g. g.numbered)));
    edges = edges_pass;
    tile = true_tile s.cuts (edges_of s.cells) w.cuts_end (λ q h. holding_cells q s.cells ∙ w.tiled q h);
    paged = true-pages (chains s) w.once;
    chained = cell_all (λ c. chain_test c.chain c.entries) (λ c g. true_chain c.chain c.entries g.paged);
    radios = radios_pass;
    placed = cell_all (λ c. inside_test c.edges c.entries) (λ c g. true-inside c.edges c.entries g.placed);
    minutes = minutes_pass;
    present = true_present s.memo s.cells s.waiting s.on cells_rise w.waiting_rises w.rising_on w.present;
    unmarked = true_unmarked s.waiting s.on w.waiting_rises w.unmarked;
    memo = true_memo s.memo w.memo_rises w.memo_radios;
    lines = true_lines s.memo s.cells cells_rise w.memo_rises w.lines;
    lasts = true_lasts s.memo s.cells cells_rise w.memo_rises w.lines;
    waiting = true_waiting s.waiting w.few_wait w.waiting_rises w.waiting_radios;
    places = true_places s.waiting w.waiting_rises w.waiting_placed;
    dated = true_dated s.highest s.waiting w.waiting_dated;
    boxed = true_few s.cuts s.waiting w.few_in_box;
    round = true_round (numbers_of s.cells) w.round;
    tallied = true_tally s.tally w.tallied;
    bounded = true_bound s.memo s.cells (length s.waiting) s.tally w.bounded;
  }
