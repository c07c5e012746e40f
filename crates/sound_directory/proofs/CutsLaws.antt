-- Cuts: what the code's tests come to, and that the test says just that the part is that of its cuts and that the mirror's test of these holds.
use mathlib.Core.Path.{◌≡◌, refl, sym, ap, ◌∙◌}
use mathlib.Core.Bool.{Bool, true, false}
use mathlib.Core.List.{List}
use Prim.Native.Nat.{ℕ, ◌-◌, ◌≤◌, ◌<◌}
use native.Mathlib.Omega.{arith}
use lib.Dec.{eqb, leb}
use lib.ListN.{length, take, drop}
use borrow.Author.Tests.{le-leb, leb-true}
use Rattle.lists.proofs.TestsLaws.{both_left, both_right, both_intro, both_left_false}
use Rattle.rules.specs.Limits.{last_metre, max_cuts}
use Rattle.desk.specs.declared.CutList.{CutList}
use Rattle.desk.specs.Layout.{cut_list_of}
use Rattle.desk.specs.Views.{cuts_in}
use Rattle.desk.proofs.UniqueLaws.{take_cuts}
use Rattle.sound_clauses.specs.Loops.{rises_to}
use Rattle.sound_clauses.specs.Grid.{cuts_test}
use Rattle.sound_directory.specs.Sound.{weighs, slots_test, number, row_sound, cuts_sound}
use Rattle.lists.proofs.SlotsLaws.{true-both, few_used}
use Rattle.lists.proofs.Cases.{by_cases}
use Rattle.lists.specs.Tests.{both, all}
use Rattle.sound_directory.proofs.LoopLaws.{unused_rest}
use Rattle.sound_directory.proofs.SlotLaws.{slots_long, slots_unclear, slots_clear, slots_count, slots_used, slots_slotted, slotted_slots}

module _ (top most n : ℕ) (xs : List ℕ) where
  -- a count beyond the slots
  pub row_long : most < n → false ≡ row_sound top most n xs
  unfolding row_sound
  row_long h = sym (both_left_false (rises_to top 0 (take n xs)) (slots_long number most n xs h))

  module _ (few : n ≤ most) (long : length xs ≡ most) (p : ℕ → Bool) (same : (x : ℕ) → p x ≡ eqb x 0) {b : Bool} (said : b ≡ all p (take (most - n) (drop n xs))) where
    cleared : b ≡ eqb (weighs number n xs) 0
    cleared = unused_rest number p same n most xs long said

    pub row_unclear : b ≡ false → false ≡ row_sound top most n xs
    unfolding row_sound
    row_unclear f = sym (both_left_false (rises_to top 0 (take n xs)) (slots_unclear number most n xs cleared f))

    pub row_rise : {r : Bool} → b ≡ true → r ≡ rises_to top 0 (take n xs) → r ≡ row_sound top most n xs
    unfolding row_sound
    row_rise f q = q ∙ sym (true-both (rises_to top 0 (take n xs)) (slots_clear number most n xs few cleared f))

module _ (c : CutList) where
  row_same : row_sound last_metre max_cuts c.n c.at ≡ cuts_sound c
  unfolding row_sound cuts_sound cuts_test cuts_in
  row_same =
      by_cases (slots_test number max_cuts c.n c.at)
      (λ t. ap (both (slots_test number max_cuts c.n c.at))
      (sym (true-both (rises_to last_metre 0 (take c.n c.at)) (le-leb (length (take c.n c.at)) max_cuts (few_used c.n max_cuts c.at (slots_count number max_cuts c.n c.at t))))))
      (λ t. both_left_false _ t ∙ sym (both_left_false _ t))

  pub row_cuts : length c.at ≡ max_cuts → {r : Bool} → r ≡ row_sound last_metre (length c.at) c.n c.at → r ≡ cuts_sound c
  row_cuts l e = e ∙ ap (λ (k : ℕ). row_sound last_metre k c.n c.at) l ∙ row_same

  pub cuts_whole : length c.at ≡ max_cuts → cuts_sound c ≡ true → (c ≡ cut_list_of (cuts_in c)) × (cuts_test (cuts_in c) ≡ true)
  unfolding cuts_sound cut_list_of cuts_in
  cuts_whole l t =
      let s = both_left (slots_test number max_cuts c.n c.at) (cuts_test (take c.n c.at)) t in
      let n = slots_used number max_cuts c.n c.at s max_cuts l (omega arith) in
      let a = slots_slotted number max_cuts c.n c.at s max_cuts l (omega arith) 0 (λ x e. e) in
      (λ i. record { n = n i; at = a i }, both_right (slots_test number max_cuts c.n c.at) (cuts_test (take c.n c.at)) t)

cuts_few : (l : List ℕ) → cuts_test l ≡ true → length l ≤ max_cuts
unfolding cuts_test
cuts_few l t = leb-true (length l) max_cuts (both_left (leb (length l) max_cuts) (rises_to last_metre 0 l) t)

pub cuts_in_lem : (l : List ℕ) → cuts_in (cut_list_of l) ≡ l
unfolding cuts_in
cuts_in_lem l = take_cuts l

pub whole_cuts : (l : List ℕ) → cuts_test l ≡ true → cuts_sound (cut_list_of l) ≡ true
unfolding cuts_sound cut_list_of
whole_cuts l t = both_intro (slotted_slots number max_cuts max_cuts 0 l refl (cuts_few l t)) (ap cuts_test (cuts_in_lem l) ∙ t)
