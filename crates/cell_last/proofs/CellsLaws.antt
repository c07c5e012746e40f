-- The slots of a directory, and one of them taken out.
use mathlib.Core.List.{List}
use mathlib.Core.Path.{◌≡◌, sym, ap, ◌∙◌}
use Prim.Native.Nat.{ℕ, ◌-◌, ◌≤◌, ◌<◌}
use native.Mathlib.Omega.{arith}
use lib.ListN.{length}
use Rattle.lists.specs.Parts.{remove_at}
use Rattle.rules.specs.Limits.{max_cells}
use Rattle.desk.specs.declared.Slot.{Slot}
use Rattle.desk.specs.Held.{Directory, directory_in}
use Rattle.desk.specs.Layout.{no_slot}
use Rattle.desk.specs.Views.{slots_in, directory_with}
use Rattle.desk.proofs.UniqueLaws.{take-slotted}
use Rattle.directory.specs.Directory.{WholeDirectory}

pub slots_with : (l : List Slot) → slots_in (directory_with l) ≡ l
unfolding slots_in directory_with
slots_with l = take-slotted max_cells no_slot l

pub whole_with : (l : List Slot) {d : Directory} → d ≡ directory_with l → WholeDirectory d
whole_with l e = e ∙ ap directory_with (sym (slots_with l) ∙ sym (ap slots_in e))

pub count_with : (l : List Slot) {d : Directory} → d ≡ directory_with l → d.n ≡ length l
unfolding directory_with
count_with l e = ap (λ (d : Directory). d.n) e

-- one is taken out
pub out_puts : (n : ℕ) (ws vs : List Slot) (at : ℕ) → directory_in (n - 1) vs ≡ directory_with (remove_at (slots_in (directory_in n ws)) at) → at < n → n ≤ max_cells
    → WholeDirectory (directory_in (n - 1) vs) × (n - 1 < max_cells)
out_puts n ws vs at e here few = (whole_with (remove_at (slots_in (directory_in n ws)) at) e, omega arith)
