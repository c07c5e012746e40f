-- Which of the three it is: d split, grown or joined, as the rules say.
use mathlib.Core.Bool.{true, false}
use Rattle.std.specs.Prelude.{None, Some}
use mathlib.Core.Path.{◌≡◌}
use lib.Dec.{ltb}
use lib.ListN.{length}
use Rattle.terms.specs.Terms.{page_entries}
use Rattle.rules.specs.Limits.{max_cells}
use Rattle.rules.specs.Store.{Cell}
use Rattle.rules.specs.Cut.{Cut, chosen_cut}
use Rattle.rules.specs.Flush.{Flushed, grown, split_at, neighbour, joined_with, reshaped}

module _ (f : Flushed) where
  -- "when d has more than 32 entries": no neighbour is asked for
  module _ (many : ltb page_entries (length f.cell.entries) ≡ true) where
    pub full_grown : ltb (length f.store.cells) max_cells ≡ false → reshaped f ≡ grown f
    unfolding reshaped
    full_grown t = rw (many, t)

    module _ (few : ltb (length f.store.cells) max_cells ≡ true) where
      pub uncut_grown : chosen_cut f.store.cuts f.cell.edges f.cell.entries ≡ None → reshaped f ≡ grown f
      unfolding reshaped
      uncut_grown e = rw (many, few, e)

      pub cut_split : (cut : Cut) → chosen_cut f.store.cuts f.cell.edges f.cell.entries ≡ Some cut → reshaped f ≡ split_at cut f
      unfolding reshaped
      cut_split cut e = rw (many, few, e)

  -- "after a flush that left d at most 32 entries"
  module _ (few : ltb page_entries (length f.cell.entries) ≡ false) where
    pub lone_grown : neighbour f ≡ None → reshaped f ≡ grown f
    unfolding reshaped
    lone_grown e = rw (few, e)

    pub near_joined : (m : Cell) → neighbour f ≡ Some m → reshaped f ≡ joined_with f m
    unfolding reshaped
    near_joined m e = rw (few, e)
