-- The directory in the desk's array: what is asked of it (01, "What the desk holds", "Split").
use Rattle.std.specs.Prelude.{Bool, List, ◌∷◌, ◌++◌, map, ◌≡◌, ℕ, suc, ◌<◌, eqb, ltb, length, take, drop, get_or, Option, None, Some}
use Rattle.terms.specs.Terms.{Place}
use Rattle.lists.specs.Parts.{tab}
use Rattle.lists.specs.Sums.{count}
use Rattle.lists.specs.Tests.{Each, first_at}
use Rattle.rules.specs.Limits.{max_cells}
use Rattle.rules.specs.Grid.{inside}
use Rattle.rules.specs.Store.{Cell}
use Rattle.desk.specs.declared.Slot.{Slot}
use Rattle.desk.specs.Held.{Directory}
use Rattle.desk.specs.Layout.{no_slot, slot_of}
use Rattle.desk.specs.Views.{slots_in, directory_with, edges_of}

-- unused slots are zero
abbrev pub WholeDirectory : Directory → Type 0
WholeDirectory d = d ≡ directory_with (slots_in d)

-- the cell of a place: where it stands in the directory
unfoldable pub slot_at : List Slot → Place → Option ℕ
slot_at l p = first_at (λ s. inside (edges_of s) p) l

-- "numbers from 0 to 63"
abbrev pub Numbered : List Slot → Type 0
Numbered = Each (λ s. s.number < max_cells)

-- the numbers that cells have, marked
unfoldable pub used_numbers : List Slot → List Bool
used_numbers l = tab max_cells (λ n. ltb 0 (count n (map (λ s. s.number) l)))

abbrev or_zero : Option ℕ → ℕ
or_zero None = 0
or_zero (Some n) = n

-- "the smallest unused number"
unfoldable pub unused_of : List Slot → ℕ
unused_of l = or_zero (first_at (λ n. eqb (count n (map (λ s. s.number) l)) 0) (tab max_cells (λ n. n)))

-- a cell stands at place k of the round, and its slot there in the directory
pub record Stands (d : Directory) (cells : List Cell) (c : Cell) (k : ℕ) : Type 0 where
  pub inside : k < length cells
  pub split : cells ≡ take k cells ++ (c ∷ drop (suc k) cells)
  pub slot : get_or (slots_in d) k no_slot ≡ slot_of c
  -- the same of the whole array
  pub element : get_or d.slots k no_slot ≡ slot_of c
