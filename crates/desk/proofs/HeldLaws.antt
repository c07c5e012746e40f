-- Counts and arrays that are those of a directory, or of a memo, that is laid out.
use mathlib.Core.List.{List, map}
use mathlib.Core.Path.{◌≡◌, refl}
use Prim.Native.Nat.{ℕ}
use lib.ListN.{length}
use Rattle.lists.specs.Rows.{Rows}
use Rattle.rules.specs.Limits.{max_cells}
use Rattle.rules.specs.Store.{Line as StoreLine}
use Rattle.desk.specs.declared.Slot.{Slot}
use Rattle.desk.specs.Held.{directory_in}
use Rattle.desk.specs.Layout.{slotted, no_slot, line_slots, line_of, no_line, memo_of}
use Rattle.desk.specs.Views.{directory_with}

pub directory_is : (slots : List Slot) (n : ℕ) (l : List Slot) → n ≡ length l → slots ≡ slotted max_cells no_slot l → directory_in n slots ≡ directory_with l
unfolding directory_with
directory_is slots n l e s = λ t. record { n = e t; slots = s t }

pub lines_laid : (l : Rows StoreLine) → (memo_of l).lines ≡ slotted line_slots no_line (map line_of l)
unfolding memo_of
lines_laid l = refl
