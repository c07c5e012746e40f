-- The test of the whole desk: what its parts' tests come to, and the theorem: it passes exactly if the desk is that of the store it shows and the mirror's tests
-- that look at the desk alone hold of that store.
use mathlib.Core.Path.{◌≡◌, refl, sym, ap, ap₂, ◌∙◌, transport}
use mathlib.Core.Bool.{Bool, true, false}
use mathlib.Core.List.{List, map}
use Prim.Native.Nat.{ℕ, ◌-◌, ◌≤◌}
use native.Mathlib.Omega.{arith}
use lib.Dec.{eqb, leb, ltb}
use lib.ListN.{length, length-map}
use borrow.Author.Tests.{le-leb, leb-true}
use Rattle.lists.specs.Sums.{concat}
use Rattle.lists.specs.Tests.{both, all}
use Rattle.lists.proofs.TestsLaws.{both_left, both_right, both_intro}
use Rattle.rules.specs.Limits.{max_cells, full_memory, sweep_every}
use Rattle.rules.specs.Grid.{Cuts, Rect}
use Rattle.rules.specs.Store.{Store, Cell}
use Rattle.desk.specs.declared.CutList.{CutList}
use Rattle.desk.specs.declared.Slot.{Slot}
use Rattle.desk.specs.Held.{Directory, Memo, On, Waiting, ledger_grid, ledger_waiting, ledger_memo, ledger_on, waiting_with, Ledger}
use Rattle.desk.specs.Layout.{line_slots, slotted, cut_list_of, slot_of, no_slot, directory_of, grid_of, ledger_holding, ledger_of}
use Rattle.desk.specs.Views.{every_report, cuts_by, slots_in, directory_with, edges_of as rect_of}
use Rattle.desk.proofs.UniqueLaws.{same_cuts, same_slots, same_waiting, same_memo, same_on, same_tally}
use Rattle.sound_clauses.specs.Grid.{edges_test, tile_test}
use Rattle.sound_clauses.specs.Cells.{numbers_of, edges_of, rows_of, numbers_test, round_test}
use Rattle.sound_clauses.specs.Radios.{stale_at, line_test, lines_test}
use Rattle.sound_clauses.specs.Round.{tally_test}
use Rattle.sound_clauses.specs.Waiting.{few_test}
use Rattle.sound_clauses.proofs.LoopsLaws.{all-both}
use Rattle.sound_clauses.proofs.WellLaws.{Passes}
use Rattle.sound_grid.specs.Views.{rects_in}
use Rattle.sound_grid.specs.Sound.{edges_sound, tile_sound, grid_sound}
use Rattle.sound_directory.specs.Sound.{slots_test, cuts_sound, directory_sound}
use Rattle.lists.proofs.SlotsLaws.{stops, goes}
use Rattle.sound_directory.proofs.SlotLaws.{slots_count}
use Rattle.sound_directory.proofs.CutsLaws.{cuts_whole, cuts_in_lem, whole_cuts}
use Rattle.sound_directory.proofs.DirectoryLaws.{directory_count, directory_whole, slots_in_lem, whole_directory}
use Rattle.waiting.proofs.WaitingLaws.{reports_waiting_of}
use Rattle.sound_rows.specs.Sound.{on_sound, report_weight, waiting_sound, missed_test, memo_sound}
use Rattle.lists.proofs.MapLaws.{map-map, map_same}
use Rattle.sound_desk.specs.Views.{cell_of}
use Rattle.sound_desk.specs.Sound.{few_sound, radios_sound, desk_sound, shown, Tests, DeskTests, Shaped}
use Rattle.sound_desk.proofs.WholeLaws.{on_whole, whole_on, waiting_whole, whole_waiting, memo_whole, whole_memo_sound}

-- ---- what a part that has passed gives to the tests after it

pub waiting_room : {a : Bool} (highest n : ℕ) (words : List ℕ) → a ≡ waiting_sound highest (waiting_with n words) → a ≡ true → n ≤ full_memory
unfolding waiting_sound
waiting_room {a} highest n words e f =
    let h = slots_count report_weight (full_memory - 1) n (every_report words) (both_left (slots_test report_weight (full_memory - 1) n (every_report words)) _ (sym e ∙ f)) in
    omega arith

-- ---- waiting reports and radios on

module _ (highest : ℕ) (easts norths : CutList) (w : Waiting) (on : On) {a : Bool} (waits : a ≡ waiting_sound highest w) where
  pub radios_waiting : a ≡ false → false ≡ radios_sound highest easts norths w on
  unfolding radios_sound
  radios_waiting f = stops _ waits f

  module _ (passed : a ≡ true) {b : Bool} (heard : b ≡ on_sound on) where
    pub radios_heard : b ≡ false → false ≡ radios_sound highest easts norths w on
    unfolding radios_sound
    radios_heard f = goes waits passed (stops _ heard f)

    pub radios_few : {r : Bool} → b ≡ true → r ≡ few_sound easts norths w → r ≡ radios_sound highest easts norths w on
    unfolding radios_sound
    radios_few f q = goes waits passed (goes heard f q)

-- ---- the desk

module _ (d : Ledger) {a : Bool} (grid : a ≡ grid_sound (ledger_grid d).easts (ledger_grid d).norths (ledger_grid d).cells) where
  pub desk_grid : a ≡ false → false ≡ desk_sound d
  unfolding desk_sound
  desk_grid f = stops _ grid f

  module _ (passed : a ≡ true) {b : Bool} (radios : b ≡ radios_sound d.parts.highest (ledger_grid d).easts (ledger_grid d).norths (ledger_waiting d) (ledger_on d)) where
    pub desk_radios : b ≡ false → false ≡ desk_sound d
    unfolding desk_sound
    desk_radios f = goes grid passed (stops _ radios f)

    module _ (passed' : b ≡ true) {k : Bool} (memo : k ≡ memo_sound (ledger_memo d)) where
      pub desk_memo : k ≡ false → false ≡ desk_sound d
      unfolding desk_sound
      desk_memo f = goes grid passed (goes radios passed' (stops _ memo f))

      pub desk_tally : k ≡ true → ltb d.parts.tally sweep_every ≡ desk_sound d
      unfolding desk_sound tally_test
      desk_tally f = goes grid passed (goes radios passed' (goes memo f refl))

-- ---- the theorem

-- the slots of a store's cells
cells_slots : (cells : List Cell) → directory_of cells ≡ directory_with (map slot_of cells)
unfolding directory_of directory_with
cells_slots cells = let e = sym (length-map cells slot_of) in λ i. record { n = e i; slots = slotted max_cells no_slot (map slot_of cells) }

shown_slots : (l : List Slot) → map slot_of (map cell_of l) ≡ l
shown_slots l = map-map slot_of cell_of l ∙ map_same (λ x. slot_of (cell_of x)) (λ x. refl) l

shown_numbers : (l : List Slot) → numbers_of (map cell_of l) ≡ map (λ x. x.number) l
shown_numbers l = map-map (λ c. c.number) cell_of l

shown_edges : (l : List Slot) → edges_of (map cell_of l) ≡ map rect_of l
shown_edges l = map-map (λ c. c.edges) cell_of l

slot_numbers : (cells : List Cell) → map (λ x. x.number) (map slot_of cells) ≡ numbers_of cells
slot_numbers cells = map-map (λ x. x.number) slot_of cells

slot_edges : (cells : List Cell) → map rect_of (map slot_of cells) ≡ edges_of cells
slot_edges cells = map-map rect_of slot_of cells

parts : (a b : Bool) → both a b ≡ true → (a ≡ true) × (b ≡ true)
parts a b e = (both_left a b e, both_right a b e)

-- each part's test
record Parts (easts norths : CutList) (cells : Directory) (w : Waiting) (memo : Memo) (on : On) (tally highest : ℕ) : Type 0 where
  east : cuts_sound easts ≡ true
  north : cuts_sound norths ≡ true
  directory : directory_sound cells ≡ true
  edges : edges_sound easts norths cells ≡ true
  tile : tile_sound easts norths cells ≡ true
  waits : waiting_sound highest w ≡ true
  heard : on_sound on ≡ true
  few : few_sound easts norths w ≡ true
  lines : memo_sound memo ≡ true
  tallied : tally_test tally ≡ true

desk_parts : (d : Ledger) → desk_sound d ≡ true → Parts (ledger_grid d).easts (ledger_grid d).norths (ledger_grid d).cells (ledger_waiting d) (ledger_memo d) (ledger_on d) d.parts.tally d.parts.highest
unfolding desk_sound grid_sound radios_sound
desk_parts d t =
    let p = parts _ _ t in
    let g = parts _ _ p.0 in
    let h = parts _ _ g.1 in
    let k = parts _ _ h.1 in
    let l = parts _ _ k.1 in
    let q = parts _ _ p.1 in
    let w = parts _ _ q.0 in
    let x = parts _ _ w.1 in
    let m = parts _ _ q.1 in
    record { east = g.0; north = h.0; directory = k.0; edges = l.0; tile = l.1; waits = w.0; heard = x.0; few = x.1; lines = m.0; tallied = m.1 }

parts_desk : (d : Ledger) → Parts (ledger_grid d).easts (ledger_grid d).norths (ledger_grid d).cells (ledger_waiting d) (ledger_memo d) (ledger_on d) d.parts.tally d.parts.highest → desk_sound d ≡ true
unfolding desk_sound grid_sound radios_sound
parts_desk d p =
    both_intro (both_intro p.east (both_intro p.north (both_intro p.directory (both_intro p.edges p.tile))))
    (both_intro (both_intro p.waits (both_intro p.heard p.few)) (both_intro p.lines p.tallied))

module _ (d : Ledger) (shape : Shaped d) (sound : desk_sound d ≡ true) where
  have : Parts (ledger_grid d).easts (ledger_grid d).norths (ledger_grid d).cells (ledger_waiting d) (ledger_memo d) (ledger_on d) d.parts.tally d.parts.highest
  have = desk_parts d sound

  cells_whole : (ledger_grid d).cells ≡ directory_of (shown d).cells
  cells_whole =
      (directory_whole (ledger_grid d).cells have.directory shape.cells).0
      ∙ ap directory_with (sym (shown_slots (slots_in (ledger_grid d).cells)))
      ∙ sym (cells_slots (shown d).cells)

  -- the desk is that of the store it shows
  pub desk_shown : d ≡ ledger_of (shown d)
  unfolding ledger_of grid_of
  desk_shown =
      let e = (cuts_whole (ledger_grid d).easts shape.easts have.east).0 in
      let n = (cuts_whole (ledger_grid d).norths shape.norths have.north).0 in
      let c = cells_whole in
      let w = (waiting_whole (ledger_waiting d) shape.waiting d.parts.highest have.waits).0 in
      let m = (memo_whole (ledger_memo d) shape.memo have.lines).0 in
      let o = (on_whole (ledger_on d) shape.on have.heard).0 in
      λ i. ledger_holding (record { easts = e i; norths = n i; cells = c i; free = (ledger_grid d).free }) (w i) (m i) (o i) d.parts.tally d.parts.highest

  few_cells : length (slots_in (ledger_grid d).cells) ≤ max_cells
  unfolding directory_with
  few_cells = omega (arith, ap (λ (x : Directory). x.n) (directory_whole (ledger_grid d).cells have.directory shape.cells).0, directory_count (ledger_grid d).cells have.directory)

  -- and the mirror's tests hold of it
  pub desk_tested : DeskTests (shown d)
  unfolding edges_sound tile_sound few_sound
  desk_tested =
      let c = directory_whole (ledger_grid d).cells have.directory shape.cells in
      let w = waiting_whole (ledger_waiting d) shape.waiting d.parts.highest have.waits in
      let m = memo_whole (ledger_memo d) shape.memo have.lines in
      let slots = slots_in (ledger_grid d).cells in
      let cuts = cuts_by (ledger_grid d).easts (ledger_grid d).norths in
      record {
        few = le-leb (length (numbers_of (shown d).cells)) max_cells (rw (shown_numbers slots, length-map slots (λ x. x.number)) few_cells);
        on = (on_whole (ledger_on d) shape.on have.heard).1;
        easts = (cuts_whole (ledger_grid d).easts shape.easts have.east).1;
        norths = (cuts_whole (ledger_grid d).norths shape.norths have.north).1;
        numbered = ap numbers_test (shown_numbers slots) ∙ c.1;
        edges = ap (all (edges_test cuts)) (shown_edges slots) ∙ have.edges;
        tile = ap (tile_test cuts) (shown_edges slots) ∙ have.tile;
        memo = m.1;
        missed = m.2;
        lasts = m.3;
        waiting = w.1;
        places = w.2;
        dated = w.3;
        boxed = have.few;
        round = ap round_test (shown_numbers slots) ∙ c.2;
        tallied = have.tallied;
      }

-- ---- of a store

rects_of : (cells : List Cell) → rects_in (directory_of cells) ≡ edges_of cells
rects_of cells = ap rects_in (cells_slots cells) ∙ ap (map rect_of) (slots_in_lem (map slot_of cells)) ∙ slot_edges cells

cuts_of : (cuts : Cuts) → cuts_by (cut_list_of cuts.easts) (cut_list_of cuts.norths) ≡ cuts
cuts_of cuts = let e = cuts_in_lem cuts.easts in let n = cuts_in_lem cuts.norths in λ i. record { easts = e i; norths = n i }

-- the desk of a store whose tests hold passes
pub tested_desk : (s : Store) → length s.memo ≤ line_slots → DeskTests s → desk_sound (ledger_of s) ≡ true
unfolding ledger_of grid_of edges_sound tile_sound few_sound
tested_desk s short t =
    let cuts = cuts_of s.cuts in
    let rects = rects_of s.cells in
    let waits = reports_waiting_of s.waiting in
    let names = slot_numbers s.cells in
    let few = leb-true (length (numbers_of s.cells)) max_cells t.few in
    parts_desk (ledger_of s) (record {
      east = whole_cuts s.cuts.easts t.easts;
      north = whole_cuts s.cuts.norths t.norths;
      directory =
          ap directory_sound (cells_slots s.cells)
          ∙ whole_directory (map slot_of s.cells) (omega (arith, length-map s.cells slot_of, length-map s.cells (λ c. c.number))) (ap numbers_test names ∙ t.numbered) (ap round_test names ∙ t.round);
      edges = ap₂ (λ (x : Cuts) (y : List Rect). all (edges_test x) y) cuts rects ∙ t.edges;
      tile = ap₂ tile_test cuts rects ∙ t.tile;
      waits = whole_waiting s.highest s.waiting t.waiting t.places t.dated;
      heard = whole_on s.on t.on;
      few = ap₂ few_test cuts waits ∙ t.boxed;
      lines = whole_memo_sound s.memo short t.memo t.missed t.lasts;
      tallied = t.tallied;
    })

-- stores of one desk have the same tests
pub same_Tests : (s t : Store) → ledger_of s ≡ ledger_of t → DeskTests s → DeskTests t
unfolding ledger_of
same_Tests s t e =
    let cu = same_cuts s t e in
    let sl = same_slots s t e in
    let nu = sym (slot_numbers s.cells) ∙ ap (map (λ x. x.number)) sl ∙ slot_numbers t.cells in
    let ed = sym (slot_edges s.cells) ∙ ap (map rect_of) sl ∙ slot_edges t.cells in
    let wa = same_waiting s t e in
    let me = same_memo s t e in
    let on = same_on s t e in
    let ta = same_tally s t e in
    let hi : s.highest ≡ t.highest = ap (λ (d : Ledger). d.parts.highest) e in
    transport (λ i. Tests (cu i) (nu i) (ed i) (wa i) (me i) (on i) (ta i) (hi i))

-- a desk that passes: the tests hold of any store whose desk it is
pub desk_store : (d : Ledger) (s : Store) → Shaped d → d ≡ ledger_of s → desk_sound d ≡ true → DeskTests s
desk_store d s shape e t = same_Tests (shown d) s (sym (desk_shown d shape t) ∙ e) (desk_tested d shape t)

-- those of a store that passes the whole test
pub well_Tests : (s : Store) → Passes s → DeskTests s
unfolding missed_test lines_test line_test
well_Tests s p = record {
  few = ap (λ (n : ℕ). leb n max_cells) (length-map s.cells (λ c. c.number)) ∙ p.few;
  on = p.on;
  easts = p.easts;
  norths = p.norths;
  numbered = p.numbers;
  edges = p.edges;
  tile = p.tile;
  memo = p.memo;
  missed = both_left (all (λ l. ltb 0 l.val.missed) s.memo) _ (sym (all-both (λ l. ltb 0 l.val.missed) (λ l. eqb (stale_at s.memo l.key (concat (rows_of s.cells))) l.val.missed) s.memo) ∙ p.lines);
  lasts = p.lasts;
  waiting = p.waiting;
  places = p.places;
  dated = p.dated;
  boxed = p.boxed;
  round = p.round;
  tallied = p.tallied;
}
