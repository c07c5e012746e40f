-- The directory's slots: the search for the cell of a place, and what a shift and a store in the array do to the list.
use mathlib.Core.Bool.{Bool, true, false}
use mathlib.Core.List.{List, [], ◌∷◌, ◌++◌}
use Rattle.std.specs.Prelude.{Option}
use mathlib.Core.Path.{◌≡◌, refl, ap, ap₂, ◌∙◌, subst}
use Prim.Native.Nat.{ℕ, ◌+◌, ◌-◌, ◌≤◌, ◌<◌}
use native.Mathlib.Omega.{arith}
use lib.Dec.{leb}
use lib.ListN.{length, get_or, set, length-append}
use lib.Seq.{get_or-take, length-take-le}
use borrow.Author.Tests.{le-leb, lt-leb}
use Rattle.terms.specs.Terms.{Place}
use Rattle.lists.specs.Parts.{remove_at}
use Rattle.lists.specs.Tests.{both}
use Rattle.lists.proofs.PositionLaws.{position-first}
use Rattle.lists.proofs.ShiftLaws.{Closed, close_moved}
use Rattle.std.specs.List.{copy_within, position}
use Rattle.rules.specs.Limits.{max_cells}
use Rattle.rules.specs.Grid.{within, inside}
use Rattle.desk.specs.declared.Slot.{Slot}
use Rattle.desk.specs.Held.{Directory, directory_in}
use Rattle.desk.specs.Layout.{slotted, no_slot}
use Rattle.desk.specs.Views.{slots_in, directory_with, edges_of}
use Rattle.desk.proofs.HeldLaws.{directory_is}
use Rattle.desk.proofs.SlotsLaws.{length-slotted, length-remove_at, close_slotted, push_slotted}
use Rattle.directory.specs.Directory.{WholeDirectory, slot_at}

-- ---- a place in a cell

module _ (low high x : ℕ) where
  pub spans_low : low ≤ x → leb x high ≡ within (record { low = low; high = high }) x
  unfolding both
  spans_low h = rw (le-leb low x h)

  pub spans_not : x < low → leb low x ≡ within (record { low = low; high = high }) x
  unfolding both
  spans_not h = rw (lt-leb low x h)

module _ (s : Slot) (p : Place) {a : Bool} (span : a ≡ within (record { low = s.west; high = s.east }) p.east) where
  pub holds_east : {r : Bool} → a ≡ true → r ≡ within (record { low = s.south; high = s.north }) p.north → r ≡ inside (edges_of s) p
  holds_east t e = rw (← span, ← e, t) (unfold both in refl)

  pub holds_not : a ≡ false → a ≡ inside (edges_of s) p
  holds_not f = rw (← span, f) (unfold both in refl)

-- ---- the search

pub length_slots : (n : ℕ) (ws : List Slot) → length ws ≡ max_cells → n ≤ max_cells → length (slots_in (directory_in n ws)) ≡ n
unfolding slots_in
length_slots n ws l h = length-take-le n ws (omega arith)

-- the slot that an index below the count reads
pub slots_at : (d : Directory) (i : ℕ) → i < d.n → get_or (slots_in d) i no_slot ≡ get_or d.slots i no_slot
unfolding slots_in
slots_at d i h = get_or-take d.n d.slots i no_slot h

pub found_place : (p : Place) (l : List Slot) {o : Option ℕ} → o ≡ position (λ s. inside (edges_of s) p) l → o ≡ slot_at l p
unfolding slot_at
found_place p l e = e ∙ position-first (λ s. inside (edges_of s) p) l

-- ---- stores

module _ {n : ℕ} {ws : List Slot} (whole : WholeDirectory (directory_in n ws)) where
  whole_count : n ≡ length (slots_in (directory_in n ws))
  unfolding directory_with
  whole_count = ap (λ (x : Directory). x.n) whole

  whole_slots : ws ≡ slotted max_cells no_slot (slots_in (directory_in n ws))
  unfolding directory_with
  whole_slots = ap (λ (x : Directory). x.slots) whole

  -- the array has room for as many cells as there may be
  pub whole_size : n ≤ max_cells → length ws ≡ max_cells
  unfolding directory_with
  whole_size h =
      let e = whole_count in
      let l = slots_in (directory_in n ws) in
      ap (λ (x : Directory). length x.slots) whole ∙ length-slotted max_cells no_slot l (omega arith)

  pub close_directory : (k : ℕ) {ys : List Slot} → k < n → n ≤ max_cells → ys ≡ copy_within ws (k + 1) n k
      → directory_in (n - 1) (set ys (n - 1) no_slot) ≡ directory_with (remove_at (slots_in (directory_in n ws)) k)
  close_directory k {ys} b f moved =
      let e = whole_count in
      let size = whole_size f in
      let l = slots_in (directory_in n ws) in
      let c : Closed ws k (n - 1) ys = rw moved (close_moved b (omega (arith, size))) in
      directory_is (set ys (n - 1) no_slot) (n - 1) (remove_at l k)
      (omega (arith, length-remove_at l k (omega arith)))
      (ap (λ (j : ℕ). set ys (j - 1) no_slot) e ∙ close_slotted max_cells no_slot l k {ys = ys} (omega arith) (omega arith) (subst (λ (j : ℕ). Closed (slotted max_cells no_slot l) k (j - 1) ys) e (rw whole_slots at c)))

  pub push_directory : (s : Slot) → n < max_cells → directory_in (n + 1) (set ws n s) ≡ directory_with (slots_in (directory_in n ws) ++ (s ∷ []))
  push_directory s f =
      let e = whole_count in
      let l = slots_in (directory_in n ws) in
      directory_is (set ws n s) (n + 1) (l ++ (s ∷ []))
      (omega (arith, length-append l (s ∷ [])))
      (ap₂ (λ (xs : List Slot) (j : ℕ). set xs j s) whole_slots e ∙ push_slotted max_cells no_slot l s (omega arith))
