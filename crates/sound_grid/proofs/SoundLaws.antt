-- The test of the whole grid: what its parts' tests come to.
use mathlib.Core.Path.{◌≡◌, refl, sym, ◌∙◌}
use mathlib.Core.Bool.{Bool, true, false}
use mathlib.Core.List.{List}
use Prim.Native.Nat.{ℕ, ◌≤◌}
use lib.ListN.{take}
use Rattle.lists.specs.Tests.{both, all}
use Rattle.lists.proofs.TestsLaws.{both_left, both_right}
use Rattle.rules.specs.Limits.{max_cells, max_cuts}
use Rattle.desk.specs.declared.CutList.{CutList}
use Rattle.desk.specs.Views.{cuts_by, slots_in}
use Rattle.sound_clauses.specs.Grid.{edges_test, tile_test}
use Rattle.sound_grid.specs.Views.{rects_of}
use Rattle.desk.specs.Held.{Directory, directory_in}
use Rattle.sound_grid.specs.Sound.{edges_sound, tile_sound, grid_sound}
use Rattle.sound_directory.specs.Sound.{slots_test, number, cuts_sound, directory_sound}
use Rattle.lists.proofs.SlotsLaws.{stops, goes}
use Rattle.sound_directory.proofs.SlotLaws.{slots_count}
use Rattle.sound_directory.proofs.DirectoryLaws.{directory_count}
use Rattle.desk.specs.declared.Slot.{Slot}

-- ---- what a part that has passed gives to the tests after it

pub cuts_room : {a : Bool} (c : CutList) → a ≡ cuts_sound c → a ≡ true → c.n ≤ max_cuts
unfolding cuts_sound
cuts_room {a} c e f = slots_count number max_cuts c.n c.at (both_left (slots_test number max_cuts c.n c.at) _ (sym e ∙ f))

pub cells_room : {a : Bool} (n : ℕ) (words : List Slot) → a ≡ directory_sound (directory_in n words) → a ≡ true → n ≤ max_cells
cells_room {a} n words e f = directory_count (directory_in n words) (sym e ∙ f)

-- ---- the grid

module _ (easts norths : CutList) (d : Directory) {a : Bool} (east : a ≡ cuts_sound easts) where
  pub grid_east : a ≡ false → false ≡ grid_sound easts norths d
  unfolding grid_sound
  grid_east f = stops _ east f

  module _ (passed : a ≡ true) {b : Bool} (north : b ≡ cuts_sound norths) where
    pub grid_north : b ≡ false → false ≡ grid_sound easts norths d
    unfolding grid_sound
    grid_north f = goes east passed (stops _ north f)

    module _ (passed' : b ≡ true) {k : Bool} (cells : k ≡ directory_sound d) where
      pub grid_cells : k ≡ false → false ≡ grid_sound easts norths d
      unfolding grid_sound
      grid_cells f = goes east passed (goes north passed' (stops _ cells f))

      pub grid_tile : {r : Bool} → k ≡ true → r ≡ both (all (edges_test (cuts_by easts norths)) (rects_of (take d.n d.slots))) (tile_test (cuts_by easts norths) (rects_of (take d.n d.slots))) → r ≡ grid_sound easts norths d
      unfolding grid_sound edges_sound tile_sound slots_in
      grid_tile f q = goes east passed (goes north passed' (goes cells f q))

module _ (easts norths : CutList) (d : Directory) {a : Bool} (grid : a ≡ grid_sound easts norths d) (passed : a ≡ true) where
  all_grid : both (cuts_sound easts) (both (cuts_sound norths) (both (directory_sound d) (both (edges_sound easts norths d) (tile_sound easts norths d)))) ≡ true
  unfolding grid_sound
  all_grid = sym grid ∙ passed

  pub grid_east_room : easts.n ≤ max_cuts
  grid_east_room = cuts_room easts (sym (both_left (cuts_sound easts) _ all_grid)) refl

  pub grid_north_room : norths.n ≤ max_cuts
  grid_north_room = cuts_room norths (sym (both_left (cuts_sound norths) _ (both_right (cuts_sound easts) _ all_grid))) refl
