-- The theorem: desk and pages are sound exactly if the desk's test, the pages' test and the radios' tests pass.
use mathlib.Core.Bool.{Bool, true}
use mathlib.Core.List.{List, map}
use mathlib.Core.Path.{◌≡◌, refl, sym, ap, ◌∙◌, subst}
use Prim.Native.Nat.{ℕ}
use native.Mathlib.Omega.{arith}
use lib.Dec.{leb}
use lib.ListN.{length, take, length-map}
use Rattle.lists.specs.Tests.{Each, all}
use Rattle.lists.proofs.TestsLaws.{both_left, both_right, both_intro, Each_map, Each-all}
use Rattle.rules.specs.Limits.{max_cells}
use Rattle.rules.specs.Store.{Cell, Store}
use Rattle.rules.specs.WellFormed.{chains, PagesOnce}
use Rattle.desk.specs.Held.{Ledger, ledger_grid}
use Rattle.desk.specs.Layout.{slotted, cut_list_of, slot_of, no_slot, directory_of, grid_of, waiting_of, memo_of, on_of, ledger_holding, ledger_of}
use Rattle.desk.specs.Sound.{SoundLedger}
use Rattle.desk.proofs.ReadLaws.{Paged}
use Rattle.desk.proofs.UniqueLaws.{take_slots, same_store}
use Rattle.sound_clauses.specs.Cells.{rows_of, chain_test, radios_test, inside_test, minutes_test}
use Rattle.sound_clauses.proofs.LoopsLaws.{Each_to_map}
use Rattle.sound_clauses.proofs.CellsLaws.{true-pages, true_chain, true_radios, true-inside, true_minutes}
use Rattle.sound_clauses.proofs.WellLaws.{Passes, Passes_well, well_Passes}
use Rattle.memo.proofs.MemoLaws.{well_memo}
use Rattle.sound_desk.specs.Sound.{desk_sound, shown, DeskTests, Shaped}
use Rattle.sound_desk.proofs.DeskLaws.{desk_shown, desk_store, tested_desk, well_Tests}
use Rattle.sound_pages.specs.PagesSound.{CellSound, PagesSound}
use Rattle.sound_pages.proofs.StoreLaws.{store_once, store_Laid}
use Rattle.sound_radios.specs.Entries.{entries_test}

-- ---- the tests of a store, by what they look at

-- those that look at the entries of all cells, and that of unmarked reports
abbrev pub rows_test : Store → Bool
rows_test s = entries_test s.memo s.waiting s.on s.tally (rows_of s.cells)

module _ (s : Store) where
  cell_tests : (t : Cell → Bool) → ((c : Cell) → CellSound s.highest c → t c ≡ true) → Each (CellSound s.highest) s.cells → all t s.cells ≡ true
  cell_tests t h good = Each-all t (CellSound s.highest) s.cells h good

  row_tests : Each (CellSound s.highest) s.cells → all radios_test (rows_of s.cells) ≡ true
  row_tests good =
      Each-all radios_test (λ es. radios_test es ≡ true) (rows_of s.cells) (λ es t. t)
      (Each_to_map (λ es. radios_test es ≡ true) (λ c. c.entries) s.cells
      (Each_map (CellSound s.highest) (λ c. radios_test c.entries ≡ true) s.cells (λ c g. true_radios c.entries g.rising g.radios) good))

  minute_tests : Each (CellSound s.highest) s.cells → all (minutes_test s.highest) (rows_of s.cells) ≡ true
  minute_tests good =
      Each-all (minutes_test s.highest) (λ es. minutes_test s.highest es ≡ true) (rows_of s.cells) (λ es t. t)
      (Each_to_map (λ es. minutes_test s.highest es ≡ true) (λ c. c.entries) s.cells
      (Each_map (CellSound s.highest) (λ c. minutes_test s.highest c.entries ≡ true) s.cells (λ c g. true_minutes s.highest c.entries g.dated) good))

  -- those of the desk, of the pages and of the radios are all
  pub tests_pass : DeskTests s → PagesOnce s → Each (CellSound s.highest) s.cells → rows_test s ≡ true → Passes s
  unfolding entries_test
  tests_pass t once good r = record {
    few = sym (ap (λ (n : ℕ). leb n max_cells) (length-map s.cells (λ c. c.number))) ∙ t.few;
    on = t.on;
    easts = t.easts;
    norths = t.norths;
    numbers = t.numbered;
    edges = t.edges;
    tile = t.tile;
    paged = true-pages (chains s) once;
    chained = cell_tests (λ c. chain_test c.chain c.entries) (λ c g. true_chain c.chain c.entries g.paged) good;
    radios = row_tests good;
    placed = cell_tests (λ c. inside_test c.edges c.entries) (λ c g. true-inside c.edges c.entries g.placed) good;
    minutes = minute_tests good;
    present = both_left _ _ (both_right _ _ r);
    unmarked = both_left _ _ r;
    memo = t.memo;
    lines = both_left _ _ (both_right _ _ (both_right _ _ r));
    lasts = t.lasts;
    waiting = t.waiting;
    places = t.places;
    dated = t.dated;
    boxed = t.boxed;
    round = t.round;
    tallied = t.tallied;
    bounded = both_right _ _ (both_right _ _ (both_right _ _ r));
  }

  pub pass_rows : Passes s → rows_test s ≡ true
  unfolding entries_test
  pass_rows p = both_intro p.unmarked (both_intro p.present (both_intro p.lines p.bounded))

-- ---- desk and pages that have passed their own tests

module _ (d : Ledger) (b : List ℕ) (shape : Shaped d) (desk : desk_sound d ≡ true) (x : PagesSound d.parts.highest b (ledger_grid d).cells (ledger_grid d).free) where
  -- the store put together: what the desk shows, with the cells and the free chain that the pages have
  abbrev pub whole : Store
  whole = record {
    cuts = (shown d).cuts;
    cells = x.cells;
    free = x.free_chain;
    waiting = (shown d).waiting;
    memo = (shown d).memo;
    on = (shown d).on;
    tally = (shown d).tally;
    highest = (shown d).highest;
  }

  -- the directory shows the cells of the pages
  whole_slots : map slot_of (shown d).cells ≡ map slot_of x.cells
  unfolding ledger_of grid_of
  whole_slots =
      sym (take_slots (shown d).cells)
      ∙ sym (ap (λ (y : Ledger). take (ledger_grid y).cells.n ((ledger_grid y).cells.slots)) (desk_shown d shape desk))
      ∙ x.shown

  whole_count : length (shown d).cells ≡ length x.cells
  whole_count = omega (arith, ap length whole_slots, length-map (shown d).cells slot_of, length-map x.cells slot_of)

  -- the desk is its desk
  pub whole_held : d ≡ ledger_of whole
  unfolding ledger_of grid_of directory_of
  whole_held =
      let n = whole_count in
      let l = whole_slots in
      let f = x.front in
      desk_shown d shape desk
      ∙ (λ i. ledger_holding
      (record {
        easts = cut_list_of (shown d).cuts.easts;
        norths = cut_list_of (shown d).cuts.norths;
        cells = record { n = n i; slots = slotted max_cells no_slot (l i) };
        free = f i;
      })
      (waiting_of (shown d).waiting) (memo_of (shown d).memo) (on_of (shown d).on) (shown d).tally (shown d).highest)

  -- it is sound if the radios' tests pass
  pub radios_sound : rows_test whole ≡ true → SoundLedger d b
  radios_sound r = record {
    store = whole;
    well = Passes_well whole (tests_pass whole (desk_store d whole shape whole_held desk) (store_once x whole refl refl) x.good r);
    held = whole_held;
    laid = store_Laid x whole refl refl;
  }

  -- there is no other store
  pub whole-store : (y : SoundLedger d b) → y.store ≡ whole
  whole-store y =
      same_store y.store whole b y.well.once (store_once x whole refl refl)
      (Each_map _ Paged y.store.cells (λ c g. g.paged) y.well.cells) (Each_map (CellSound d.parts.highest) Paged x.cells (λ c g. g.paged) x.good)
      (sym y.held ∙ whole_held) y.laid (store_Laid x whole refl refl)

  -- so it is sound only if they pass
  pub sound_radios : SoundLedger d b → rows_test whole ≡ true
  sound_radios y = subst (λ (s : Store). rows_test s ≡ true) (whole-store y) (pass_rows y.store (well_Passes y.store y.well))

-- ---- the desk of a sound store passes

pub sound_desk : (d : Ledger) (b : List ℕ) → SoundLedger d b → desk_sound d ≡ true
sound_desk d b y =
    ap desk_sound y.held ∙ tested_desk y.store (omega (arith, well_memo y.store y.well)) (well_Tests y.store (well_Passes y.store y.well))
