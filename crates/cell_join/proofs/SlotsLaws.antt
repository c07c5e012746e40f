-- A slot taken out of the directory, and the joined cell's put last.
use mathlib.Core.List.{List, [], ◌∷◌, ◌++◌}
use mathlib.Core.Path.{◌≡◌, ap, ap₂, ◌∙◌}
use Prim.Native.Nat.{ℕ, ◌+◌, ◌-◌, ◌<◌}
use native.Mathlib.Omega.{arith}
use Rattle.lists.specs.Parts.{remove_at}
use Rattle.desk.specs.declared.Slot.{Slot}
use Rattle.desk.specs.Held.{directory_in}
use Rattle.desk.specs.Views.{slots_in, directory_with}
use Rattle.cell_last.proofs.CellsLaws.{slots_with}

pub joined_return : (n : ℕ) (ws : List Slot) {us vs : List Slot} (at : ℕ) (s t : Slot) → at < n → directory_in (n - 1) us ≡ directory_with (remove_at (slots_in (directory_in n ws)) at) → s ≡ t
    → directory_in (n - 1 + 1) vs ≡ directory_with (slots_in (directory_in (n - 1) us) ++ (s ∷ []))
    → directory_in n vs ≡ directory_with (remove_at (slots_in (directory_in n ws)) at ++ (t ∷ []))
joined_return n ws {vs = vs} at s t here is_out g e =
    let m : n ≡ n - 1 + 1 = omega arith in
    ap (λ (k : ℕ). directory_in k vs) m ∙ e
    ∙ ap₂ (λ (l : List Slot) (x : Slot). directory_with (l ++ (x ∷ []))) (ap slots_in is_out ∙ slots_with (remove_at (slots_in (directory_in n ws)) at)) g
