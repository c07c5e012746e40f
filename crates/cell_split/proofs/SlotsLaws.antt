-- A slot taken out of the directory, and d's two sides put last, one after the other.
use mathlib.Core.List.{List, [], ◌∷◌, ◌++◌}
use mathlib.Core.Path.{◌≡◌, sym, ap, ap₂, ◌∙◌}
use Prim.Native.Nat.{ℕ, ◌+◌, ◌-◌, ◌<◌}
use native.Mathlib.Omega.{arith}
use lib.ListN.{get_or}
use Rattle.lists.specs.Parts.{remove_at}
use Rattle.rules.specs.Cut.{Cut}
use Rattle.desk.specs.declared.Slot.{Slot}
use Rattle.desk.specs.Held.{directory_in}
use Rattle.desk.specs.Layout.{no_slot}
use Rattle.desk.specs.Views.{slots_in, directory_with}
use Rattle.directory.specs.Directory.{WholeDirectory}
use Rattle.directory.proofs.CellLaws.{slots_at}
use Rattle.split.specs.Split.{low_slot, high_slot}
use Rattle.cell_last.proofs.CellsLaws.{slots_with, whole_with}

-- one is taken out
module _ (n : ℕ) (ws : List Slot) {us vs : List Slot} (at : ℕ) (here : at < n) (is_out : directory_in (n - 1) us ≡ directory_with (remove_at (slots_in (directory_in n ws)) at))
    (s : Slot) (is_last : directory_in (n - 1 + 1) vs ≡ directory_with (slots_in (directory_in (n - 1) us) ++ (s ∷ []))) where
  -- and another put last
  last_with : directory_in n vs ≡ directory_with (slots_in (directory_in (n - 1) us) ++ (s ∷ []))
  last_with = let e : n ≡ n - 1 + 1 = omega arith in ap (λ (k : ℕ). directory_in k vs) e ∙ is_last

  slots_last : slots_in (directory_in n vs) ≡ remove_at (slots_in (directory_in n ws)) at ++ (s ∷ [])
  slots_last =
      ap slots_in last_with ∙ slots_with (slots_in (directory_in (n - 1) us) ++ (s ∷ []))
      ∙ ap (λ (l : List Slot). l ++ (s ∷ [])) (ap slots_in is_out ∙ slots_with (remove_at (slots_in (directory_in n ws)) at))

  pub last_puts : WholeDirectory (directory_in n vs)
  last_puts = whole_with (slots_in (directory_in (n - 1) us) ++ (s ∷ [])) last_with

  -- d's two sides
  pub sides_return : (cut : Cut) (number first high_first : ℕ) {d h : Slot} {ts : List Slot} → d ≡ get_or ws at no_slot → s ≡ low_slot cut d first → h ≡ high_slot cut d number high_first
      → directory_in (n + 1) ts ≡ directory_with (slots_in (directory_in n vs) ++ (h ∷ []))
      → directory_in (n + 1) ts ≡ directory_with ((remove_at (slots_in (directory_in n ws)) at ++ (low_slot cut (get_or (slots_in (directory_in n ws)) at no_slot) first ∷ [])) ++ (high_slot cut (get_or (slots_in (directory_in n ws)) at no_slot) number high_first ∷ []))
  sides_return cut number first high_first {d} read e g k =
      let z : d ≡ get_or (slots_in (directory_in n ws)) at no_slot = read ∙ sym (slots_at (directory_in n ws) at here) in
      k ∙ ap₂ (λ (l : List Slot) (t : Slot). directory_with (l ++ (t ∷ [])))
      (slots_last ∙ ap (λ (t : Slot). remove_at (slots_in (directory_in n ws)) at ++ (t ∷ [])) (e ∙ ap (λ (t : Slot). low_slot cut t first) z))
      (g ∙ ap (λ (t : Slot). high_slot cut t number high_first) z)
