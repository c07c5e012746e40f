-- The edges of a cell: what the stripes between them, where they are those of whole ones, say of the test.
use mathlib.Core.Path.{◌≡◌, sym, ap, ◌∙◌}
use mathlib.Core.Bool.{Bool, true, false}
use Rattle.std.specs.Prelude.{Option, None, Some}
use Prim.Native.Nat.{ℕ, ◌≤◌, ◌<◌}
use native.Mathlib.Omega.{arith}
use lib.ListN.{take}
use Rattle.lists.proofs.TestsLaws.{both_left, both_right, both_intro, both_left_false, both_right_false}
use Rattle.rules.specs.Limits.{max_cuts}
use Rattle.rules.specs.Grid.{stripe}
use Rattle.rules.proofs.TilingLaws.{stripe_most}
use Rattle.boxes.specs.Boxes.{max_stripes}
use Rattle.desk.specs.declared.CutList.{CutList}
use Rattle.desk.specs.declared.Slot.{Slot}
use Rattle.desk.specs.Views.{cuts_in, cuts_by, edges_of as rect_of}
use Rattle.sound_clauses.specs.Grid.{cuts_test, span_test, edges_test}
use Rattle.sound_clauses.proofs.GridLaws.{cuts_true}
use Rattle.sound_directory.specs.Sound.{slots_test, number, cuts_sound}
use Rattle.sound_edges.specs.Edges.{passing, extent}
use Rattle.sound_edges.proofs.EdgeLaws.{passing-none, passing-some}
use Rattle.sound_directory.proofs.SlotLaws.{slots_count}

-- what the answer says
means_broken : {A : Type 0} (b : Bool) (s : A) {o : Option A} → o ≡ passing b s → o ≡ None → b ≡ false
means_broken b s e f = passing-none b s (sym f ∙ e)

pub means_whole : (b : Bool) (low high : ℕ) {o : Option (ℕ × ℕ)} {first last : ℕ} → o ≡ passing b (low, high) → o ≡ Some (first, last) → (b ≡ true) × (first ≡ low) × (last ≡ high)
means_whole b low high e f = let p = passing-some b (low, high) (sym f ∙ e) in (p.0, ap (λ (x : ℕ × ℕ). x.0) p.1, ap (λ (x : ℕ × ℕ). x.1) p.1)

-- a test of edges, and the stripes between them
abbrev pub extent_in : CutList → ℕ → ℕ → Option (ℕ × ℕ)
extent_in c low high = extent (take c.n c.at) low high

module _ (c : CutList) (sound : cuts_sound c ≡ true) where
  pub cuts_tested : cuts_test (take c.n c.at) ≡ true
  unfolding cuts_sound cuts_in
  cuts_tested = both_right (slots_test number max_cuts c.n c.at) (cuts_test (take c.n c.at)) sound

  pub cuts_count : c.n ≤ max_cuts
  unfolding cuts_sound
  cuts_count = slots_count number max_cuts c.n c.at (both_left (slots_test number max_cuts c.n c.at) (cuts_test (cuts_in c)) sound)

  pub extent_room : (low high : ℕ) {o : Option (ℕ × ℕ)} {first last : ℕ} → o ≡ extent_in c low high → o ≡ Some (first, last) → last < max_stripes
  extent_room low high e f =
      let cuts = take c.n c.at in
      omega (
        arith,
        (means_whole (span_test cuts (record { low = low; high = high })) (stripe cuts low) (stripe cuts high) e f).2,
        stripe_most cuts high,
        (cuts_true cuts cuts_tested).0,
      )

module _ (easts norths : CutList) (x : Slot) where
  abbrev eastward : Bool
  eastward = span_test (cuts_in easts) (record { low = x.west; high = x.east })

  abbrev northward : Bool
  northward = span_test (cuts_in norths) (record { low = x.south; high = x.north })

  pub edges_east : {o : Option (ℕ × ℕ)} → o ≡ extent_in easts x.west x.east → o ≡ None → false ≡ edges_test (cuts_by easts norths) (rect_of x)
  unfolding edges_test cuts_in
  edges_east east f = sym (both_left_false northward (means_broken eastward _ east f))

  pub edges_north : {p : Option (ℕ × ℕ)} → p ≡ extent_in norths x.south x.north → p ≡ None → false ≡ edges_test (cuts_by easts norths) (rect_of x)
  unfolding edges_test cuts_in
  edges_north north f = sym (both_right_false eastward (means_broken northward _ north f))

  pub edges_whole : {o p : Option (ℕ × ℕ)} {w e s n : ℕ} → o ≡ extent_in easts x.west x.east → p ≡ extent_in norths x.south x.north
      → o ≡ Some (w, e) → p ≡ Some (s, n) → true ≡ edges_test (cuts_by easts norths) (rect_of x)
  unfolding edges_test cuts_in
  edges_whole east north f g =
      sym (both_intro (means_whole eastward _ _ east f).0 (means_whole northward _ _ north g).0)
