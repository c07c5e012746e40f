-- The test of soundness as far as it looks at the cuts of one direction or at the directory's numbers alone (01, "A sound store"). They may be in any
-- condition, with a count beyond their slots or anything in the slots that are not used.
use Rattle.std.specs.Prelude.{Bool, List, ℕ, ◌+◌, eqb, leb, take, drop}
use Rattle.lists.specs.Sums.{sum_by}
use Rattle.lists.specs.Tests.{both}
use Rattle.rules.specs.Limits.{max_cells, max_cuts}
use Rattle.desk.specs.declared.CutList.{CutList}
use Rattle.desk.specs.declared.Slot.{Slot}
use Rattle.desk.specs.Held.{Directory}
use Rattle.desk.specs.Views.{cuts_in}
use Rattle.sound_clauses.specs.Loops.{rises_to}
use Rattle.sound_clauses.specs.Grid.{cuts_test}
use Rattle.sound_clauses.specs.Cells.{numbers_test, round_test}
use Rattle.sound_directory.specs.Views.{numbers_in}

module _ {A : Type 0} where
  -- what the slots from n on weigh, a slot being weighed by w: 0 exactly if each is zero
  unfoldable pub weighs : (A → ℕ) → ℕ → List A → ℕ
  weighs w n slots = sum_by w (drop n slots)

  -- a count within its limit, and zero in the slots past it
  unfoldable pub slots_test : (A → ℕ) → ℕ → ℕ → List A → Bool
  slots_test w most n slots = both (leb n most) (eqb (weighs w n slots) 0)

-- ---- cuts

abbrev pub number : ℕ → ℕ
number x = x

-- numbers that rise, from above 0 to at most the top, in their slots
unfoldable pub row_sound : ℕ → ℕ → ℕ → List ℕ → Bool
row_sound top most n slots = both (slots_test number most n slots) (rises_to top 0 (take n slots))

unfoldable pub cuts_sound : CutList → Bool
cuts_sound c = both (slots_test number max_cuts c.n c.at) (cuts_test (cuts_in c))

-- ---- the directory

abbrev pub slot_weight : Slot → ℕ
slot_weight x = x.number + x.west + x.east + x.south + x.north + x.first

-- each of its numbers zero
abbrev pub is_unused_cell : Slot → Bool
is_unused_cell x = eqb (slot_weight x) 0

-- numbers from 0 to 63, "The round names each cell once."
unfoldable pub names_test : List ℕ → Bool
names_test numbers = both (numbers_test numbers) (round_test numbers)

unfoldable pub names_sound : Directory → Bool
names_sound d = names_test (numbers_in d)

unfoldable pub directory_sound : Directory → Bool
directory_sound d = both (slots_test slot_weight max_cells d.n d.slots) (names_sound d)
