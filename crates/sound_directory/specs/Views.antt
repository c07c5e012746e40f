-- The numbers of the cells of a directory in any condition, as far as its count says.
use Rattle.std.specs.Prelude.{List, map, ℕ}
use Rattle.desk.specs.declared.Slot.{Slot}
use Rattle.desk.specs.Held.{Directory}
use Rattle.desk.specs.Views.{slots_in}

abbrev pub slot_numbers : List Slot → List ℕ
slot_numbers slots = map (λ s. s.number) slots

abbrev pub numbers_in : Directory → List ℕ
numbers_in d = slot_numbers (slots_in d)
