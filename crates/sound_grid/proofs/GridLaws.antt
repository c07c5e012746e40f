-- The edges of each cell: what the code's tests come to.
use mathlib.Core.Path.{◌≡◌, sym, ◌∙◌}
use mathlib.Core.Bool.{Bool, true, false}
use mathlib.Core.List.{List}
use Prim.Native.Nat.{ℕ, ◌+◌, ◌≤◌, ◌<◌}
use lib.ListN.{length, get_or}
use Rattle.lists.specs.Tests.{all}
use Rattle.desk.specs.declared.CutList.{CutList}
use Rattle.desk.specs.declared.Slot.{Slot}
use Rattle.desk.specs.Layout.{no_slot}
use Rattle.desk.specs.Views.{cuts_by, edges_of as rect_of}
use Rattle.sound_clauses.specs.Grid.{edges_test}
use Rattle.sound_grid.specs.Views.{rects_of}
use Rattle.lists.proofs.SlotsLaws.{all-map}
use Rattle.sound_grid.proofs.LoopLaws.{Passes, pass_fails, pass_turn, pass_end}

-- a slot's edges are whole
abbrev pub edged : CutList → CutList → Slot → Bool
edged easts norths x = edges_test (cuts_by easts norths) (rect_of x)

module _ (easts norths : CutList) (slots : List Slot) where
  edges_slots : all (edged easts norths) slots ≡ all (edges_test (cuts_by easts norths)) (rects_of slots)
  edges_slots = sym (all-map (edges_test (cuts_by easts norths)) rect_of slots)

  module _ {i : ℕ} (r : Passes (edged easts norths) slots i) where
    pub edges_turn : i < length slots → {b : Bool} → b ≡ edged easts norths (get_or slots i no_slot) → b ≡ true → Passes (edged easts norths) slots (i + 1)
    edges_turn more said f = pass_turn r more no_slot said f

    pub edges_fail : i < length slots → {b : Bool} → b ≡ edged easts norths (get_or slots i no_slot) → b ≡ false
        → false ≡ all (edges_test (cuts_by easts norths)) (rects_of slots)
    edges_fail more said f = pass_fails r more no_slot said f ∙ edges_slots

    pub edges_end : length slots ≤ i → true ≡ all (edges_test (cuts_by easts norths)) (rects_of slots)
    edges_end h = pass_end r h ∙ edges_slots
