-- The test of soundness as far as it looks at cuts and directory alone (01, "A sound store"): the edges of each cell, and that the cells tile the area. They
-- may be in any condition, with a count beyond their slots or anything in the slots that are not used.
use Rattle.std.specs.Prelude.{Bool, true, List, ◌≡◌, ℕ, ◌+◌, ◌*◌, ◌<◌, min, eqb, length, get_or}
use Rattle.lists.specs.Tests.{one_if, both, all}
use Rattle.rules.specs.Grid.{within, Rect, Cuts, Box}
use Rattle.desk.specs.declared.CutList.{CutList}
use Rattle.desk.specs.Held.{Directory}
use Rattle.desk.specs.Views.{cuts_by}
use Rattle.sound_clauses.specs.Loops.{all_to}
use Rattle.sound_clauses.specs.Grid.{edges_test, holding_box, tile_test}
use Rattle.boxes.specs.Boxes.{max_stripes, table_size, box_at}
use Rattle.sound_directory.specs.Sound.{cuts_sound, directory_sound}
use Rattle.sound_grid.specs.Views.{rects_in}

-- ---- edges and tiling

unfoldable pub edges_sound : CutList → CutList → Directory → Bool
edges_sound easts norths d = all (edges_test (cuts_by easts norths)) (rects_in d)

-- what stands for any number above 1
abbrev pub several : ℕ
several = 2

-- each memory cell is held by so many more
pub record Raised (before after : List ℕ) (more : Box → ℕ) : Type 0 where
  pub size : length after ≡ table_size
  pub held : (m : Box) → m.east < max_stripes → m.north < max_stripes → min (get_or after (box_at m) 0) several ≡ min (get_or before (box_at m) 0 + more m) several

-- so it is where a test has passed
pub record RaisedIf (passed : Bool) (before after : List ℕ) (more : Box → ℕ) : Type 0 where
  pub raised : passed ≡ true → Raised before after more

-- one more in a row of memory cells, from a stripe to a stripe
unfoldable pub in_row : ℕ → ℕ → ℕ → Box → ℕ
in_row west east row m = one_if (both (within (record { low = west; high = east }) m.east) (eqb m.north row))

-- one more in a rectangle of stripes
unfoldable pub in_stripes : ℕ → ℕ → ℕ → ℕ → Box → ℕ
in_stripes west east south north m =
    one_if (both (within (record { low = west; high = east }) m.east) (within (record { low = south; high = north }) m.north))

-- one more for each rectangle that has the memory cell
unfoldable pub holders : Cuts → List Rect → Box → ℕ
holders cuts rects m = holding_box cuts m rects

-- in a row of the table each of the first memory cells is held once
unfoldable pub row_once : List ℕ → ℕ → ℕ → Bool
row_once table columns row = all_to columns (λ i. eqb (get_or table (max_stripes * row + i) 0) 1)

unfoldable pub rows_once : List ℕ → ℕ → ℕ → Bool
rows_once table columns rows = all_to rows (row_once table columns)

unfoldable pub tile_sound : CutList → CutList → Directory → Bool
tile_sound easts norths d = tile_test (cuts_by easts norths) (rects_in d)

-- ---- the grid

unfoldable pub grid_sound : CutList → CutList → Directory → Bool
grid_sound easts norths d =
    both (cuts_sound easts) (both (cuts_sound norths) (both (directory_sound d) (both (edges_sound easts norths d) (tile_sound easts norths d))))
