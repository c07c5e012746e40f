-- The directory: numbers by marks, and what the code's tests come to.
use mathlib.Core.Path.{◌≡◌, refl, sym, ap, ap₂, ◌∙◌}
use mathlib.Core.Bool.{Bool, true, false}
use mathlib.Core.List.{List, [], ◌∷◌, map}
use Prim.Native.Nat.{ℕ, ◌+◌, ◌-◌, ◌≤◌, ◌<◌}
use native.Mathlib.Omega.{arith}
use native.Mathlib.Numerals.{add-one}
use lib.Dec.{eqb, ltb}
use lib.ListN.{length, get_or, set, take, drop, replicate, length-map, length-set, get_or-map}
use lib.Seq.{take-suc, get_or-set_same, get_or-set_other, take_all}
use borrow.Author.Tests.{lt-ltb, le-ltb, eqb-true, eqb-false, eq-eqb}
use Rattle.lists.specs.Sums.{count}
use Rattle.lists.specs.Tests.{one_if, both, Each, all}
use Rattle.lists.proofs.Cases.{by_cases}
use Rattle.lists.proofs.SumsLaws.{sum-take-drop, sum-nil, sum_last}
use Rattle.lists.proofs.TestsLaws.{both_left, both_right, both_intro, both_left_false, both_right_false, Each-append, Each-all}
use Rattle.rules.specs.Limits.{max_cells}
use Rattle.desk.specs.declared.Slot.{Slot}
use Rattle.desk.specs.Held.{Directory}
use Rattle.desk.specs.Layout.{no_slot}
use Rattle.desk.specs.Views.{slots_in, directory_with}
use Rattle.desk.proofs.HeldLaws.{directory_is}
use Rattle.desk.proofs.UniqueLaws.{take-slotted}
use Rattle.sound_clauses.specs.Cells.{numbers_test, round_test}
use Rattle.sound_clauses.proofs.LoopsLaws.{all-false, at_most_twice, marks_at_most}
use Rattle.sound_directory.specs.Views.{slot_numbers, numbers_in}
use Rattle.sound_directory.specs.Sound.{weighs, slots_test, slot_weight, is_unused_cell, names_test, names_sound, directory_sound}
use Rattle.lists.proofs.SlotsLaws.{true-both, same_at}
use Rattle.sound_directory.proofs.LoopLaws.{unused_rest, sum_Clear}
use Rattle.sound_directory.proofs.SlotLaws.{slots_long, slots_unclear, slots_clear, slots_count, slots_used, slots_slotted, slotted_slots}

-- ---- numbers by marks

count_last : (k : ℕ) (l : List ℕ) (i : ℕ) → i < length l → count k (take (i + 1) l) ≡ count k (take i l) + one_if (eqb k (get_or l i 0))
count_last k l i h = rw (add-one, take-suc l i 0 h) (sum_last (λ x. one_if (eqb k x)) (take i l) (get_or l i 0))

-- the first i numbers are below the limit, and each has set its mark
pub record Marked (cells : List Slot) (i : ℕ) (marks : List Bool) : Type 0 where
  pub size : length marks ≡ max_cells
  pub own : (k : ℕ) → one_if (get_or marks k false) ≡ count k (take i (slot_numbers cells))
  pub below : Each (λ x. x < max_cells) (take i (slot_numbers cells))

pub mark_start : (cells : List Slot) → Marked cells 0 (replicate max_cells false)
mark_start cells = record { size = refl; own = λ k. ap one_if (same_at false max_cells k) ∙ sym (sum-nil (λ x. one_if (eqb k x))); below = tt }

module _ {cells : List Slot} {i : ℕ} {marks : List Bool} (m : Marked cells i marks) where
  abbrev numbers : List ℕ
  numbers = slot_numbers cells

  module _ (more : i < length cells) where
    abbrev k : ℕ
    k = (get_or cells i no_slot).number

    here : get_or numbers i 0 ≡ k
    here = get_or-map (λ s. s.number) cells i no_slot

    inside : i < length numbers
    inside = omega (arith, length-map cells (λ s. s.number))

    pub mark_beyond : max_cells ≤ k → false ≡ names_test numbers
    unfolding names_test numbers_test
    mark_beyond h = sym (both_left_false (round_test numbers) (all-false (λ n. ltb n max_cells) numbers i 0 inside (le-ltb (get_or numbers i 0) max_cells (omega (arith, here)))))

    last : (q : ℕ) → count q (take (i + 1) numbers) ≡ count q (take i numbers) + one_if (eqb q k)
    last q = count_last q numbers i inside ∙ ap (λ (y : ℕ). count q (take i numbers) + one_if (eqb q y)) here

    pub mark_twice : k < max_cells → get_or marks k false ≡ true → false ≡ names_test numbers
    unfolding names_test round_test
    mark_twice h t =
        sym (both_right_false (numbers_test numbers) (at_most_twice max_cells numbers k h
        (omega (arith, m.own k, ap one_if t, last k, ap one_if (eq-eqb k k refl), sum-take-drop (λ x. one_if (eqb k x)) (i + 1) numbers))))

    pub mark_turn : k < max_cells → get_or marks k false ≡ false → Marked cells (i + 1) (set marks k true)
    mark_turn h t = record {
      size = length-set marks k true ∙ m.size;
      own = λ q. by_cases (eqb q k)
          (λ e. let z = eqb-true q k e in
          omega (
            arith,
            ap one_if (ap (λ (j : ℕ). get_or (set marks k true) j false) z ∙ get_or-set_same marks k true false (omega (arith, m.size))),
            ap one_if (ap (λ (j : ℕ). get_or marks j false) z ∙ t),
            m.own q,
            last q,
            ap one_if e,
          ))
          (λ e. omega (arith, ap one_if (get_or-set_other marks k q true false (eqb-false q k e)), m.own q, last q, ap one_if e));
      below = rw (add-one, take-suc numbers i 0 inside) (Each-append (λ x. x < max_cells) (take i numbers) (get_or numbers i 0 ∷ []) m.below (omega (arith, here), tt));
    }

  pub mark_end : length cells ≤ i → true ≡ names_test numbers
  unfolding names_test numbers_test round_test
  mark_end h =
      let a : take i numbers ≡ numbers = take_all i numbers (omega (arith, length-map cells (λ s. s.number))) in
      sym (both_intro (Each-all (λ n. ltb n max_cells) (λ n. n < max_cells) numbers (λ n b. lt-ltb n max_cells b) (rw a at m.below))
      (marks_at_most max_cells numbers marks m.size (λ q. m.own q ∙ ap (count q) a)))

-- ---- the directory

slot_nothing : (x : Slot) → slot_weight x ≡ 0 → x ≡ no_slot
slot_nothing x e =
    let k : x.number ≡ 0 = omega arith in
    let w : x.west ≡ 0 = omega arith in
    let a : x.east ≡ 0 = omega arith in
    let u : x.south ≡ 0 = omega arith in
    let o : x.north ≡ 0 = omega arith in
    let f : x.first ≡ 0 = omega arith in
    λ i. record { number = k i; west = w i; east = a i; south = u i; north = o i; first = f i }

-- a cell's numbers, its first four and its last two: all are zero just if it is as an unused one
pub cell_unused : (x : Slot) (a b : ℕ) → eqb a 0 ≡ eqb (x.number + x.west + x.east + x.south) 0 → eqb b 0 ≡ eqb (x.north + x.first + 0 + 0) 0
    → both (eqb a 0) (eqb b 0) ≡ is_unused_cell x
cell_unused x a b e f =
    let same : x.number + x.west + x.east + x.south + (x.north + x.first + 0 + 0) ≡ slot_weight x = omega arith in
    ap₂ both e f ∙ sym (sum_Clear (x.number + x.west + x.east + x.south) (x.north + x.first + 0 + 0)) ∙ ap (λ (k : ℕ). eqb k 0) same

module _ (d : Directory) where
  pub directory_long : max_cells < d.n → false ≡ directory_sound d
  unfolding directory_sound
  directory_long h = sym (both_left_false (names_sound d) (slots_long slot_weight max_cells d.n d.slots h))

  module _ (size : length d.slots ≡ max_cells) (p : Slot → Bool) (same : (x : Slot) → p x ≡ eqb (slot_weight x) 0) {b : Bool} (said : b ≡ all p (take (max_cells - d.n) (drop d.n d.slots))) where
    cleared : b ≡ eqb (weighs slot_weight d.n d.slots) 0
    cleared = unused_rest slot_weight p same d.n max_cells d.slots size said

    pub directory_unclear : b ≡ false → false ≡ directory_sound d
    unfolding directory_sound
    directory_unclear f = sym (both_left_false (names_sound d) (slots_unclear slot_weight max_cells d.n d.slots cleared f))

    pub directory_names : {r : Bool} → d.n ≤ max_cells → b ≡ true → r ≡ names_test (slot_numbers (take d.n d.slots)) → r ≡ directory_sound d
    unfolding directory_sound names_sound slots_in
    directory_names h f q = q ∙ sym (true-both (names_test (numbers_in d)) (slots_clear slot_weight max_cells d.n d.slots h cleared f))

  module _ (t : directory_sound d ≡ true) where
    slots_ok : slots_test slot_weight max_cells d.n d.slots ≡ true
    unfolding directory_sound
    slots_ok = both_left (slots_test slot_weight max_cells d.n d.slots) (names_sound d) t

    names_ok : both (numbers_test (numbers_in d)) (round_test (numbers_in d)) ≡ true
    unfolding directory_sound names_sound names_test
    names_ok = both_right (slots_test slot_weight max_cells d.n d.slots) (names_sound d) t

    pub directory_count : d.n ≤ max_cells
    directory_count = slots_count slot_weight max_cells d.n d.slots slots_ok

    pub directory_whole : length d.slots ≡ max_cells → (d ≡ directory_with (slots_in d)) × (numbers_test (numbers_in d) ≡ true) × (round_test (numbers_in d) ≡ true)
    unfolding slots_in
    directory_whole size =
        let l = size in
        let n = slots_used slot_weight max_cells d.n d.slots slots_ok max_cells l (omega arith) in
        let a = slots_slotted slot_weight max_cells d.n d.slots slots_ok max_cells l (omega arith) no_slot slot_nothing in
        (directory_is d.slots d.n (slots_in d) n a, both_left (numbers_test (numbers_in d)) (round_test (numbers_in d)) names_ok, both_right (numbers_test (numbers_in d)) (round_test (numbers_in d)) names_ok)

pub slots_in_lem : (l : List Slot) → slots_in (directory_with l) ≡ l
unfolding slots_in directory_with
slots_in_lem l = take-slotted max_cells no_slot l

pub whole_directory : (l : List Slot) → length l ≤ max_cells → numbers_test (map (λ s. s.number) l) ≡ true → round_test (map (λ s. s.number) l) ≡ true → directory_sound (directory_with l) ≡ true
unfolding directory_sound names_sound names_test
whole_directory l h t u =
    both_intro
    (unfold directory_with in
    slotted_slots slot_weight max_cells max_cells no_slot l refl h)
    (both_intro (ap (λ (y : List Slot). numbers_test (map (λ s. s.number) y)) (slots_in_lem l) ∙ t) (ap (λ (y : List Slot). round_test (map (λ s. s.number) y)) (slots_in_lem l) ∙ u))
