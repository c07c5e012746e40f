-- The table of how many wait in each memory cell, as the desk's waiting reports are counted one after the other.
use mathlib.Core.List.{List}
use mathlib.Core.Path.{◌≡◌}
use Prim.Native.Nat.{ℕ, ◌+◌, ◌≤◌, ◌<◌}
use native.Mathlib.Omega.{arith}
use lib.ListN.{length, get_or, set, take, replicate, length-take}
use lib.Seq.{take_all}
use Rattle.rules.specs.Limits.{full_memory, max_cuts}
use Rattle.rules.specs.Grid.{box_of}
use Rattle.desk.specs.declared.CutList.{CutList}
use Rattle.desk.specs.Held.{Waiting}
use Rattle.desk.specs.Layout.{no_report}
use Rattle.desk.specs.Views.{every_report, cuts_by}
use Rattle.waiting.specs.Waiting.{row_of, reports_of}
use Rattle.waiting.proofs.WaitingLaws.{length_reports, reports_next}
use Rattle.boxes.specs.declared.Stripes.{Stripes}
use Rattle.boxes.specs.Boxes.{table_size, box_at, Crowd}
use Rattle.boxes.proofs.CrowdLaws.{few_cuts, Crowd_start, crowd_most, Crowd_turn}
use Rattle.boxes.proofs.StripesLaws.{Seated, seat_at}

-- ---- the waiting reports of the desk, one after the other

-- the first i of them are counted
pub record Crowding (easts norths : CutList) (w : Waiting) (i : ℕ) (crowd : List ℕ) : Type 0 where
  pub so : Crowd (cuts_by easts norths) (take i (reports_of w)) crowd

pub Crowding_start : (easts norths : CutList) (w : Waiting) → Crowding easts norths w 0 (replicate table_size 0)
Crowding_start easts norths w = record { so = Crowd_start (cuts_by easts norths) }

module _ {easts norths : CutList} (w : Waiting) {i : ℕ} {crowd : List ℕ} (c : Crowding easts norths w i crowd) (size : length (every_report w.words) ≡ full_memory) (fits : w.n ≤ full_memory) where
  module _ (east_cuts : easts.n ≤ max_cuts) (north_cuts : norths.n ≤ max_cuts) (more : i < w.n) {k : ℕ}
      (said : k ≡ box_at (box_of (cuts_by easts norths) (record { east = (get_or (every_report w.words) i no_report).east; north = (get_or (every_report w.words) i no_report).north }))) where
    pub Crowding_room : get_or crowd k 0 < full_memory
    Crowding_room = omega (arith, crowd_most c.so (few_cuts easts east_cuts) (few_cuts norths north_cuts) (row_of (get_or (every_report w.words) i no_report)) said, length-take i (reports_of w))

    pub Crowding_turn : Crowding easts norths w (i + 1) (set crowd k (get_or crowd k 0 + 1))
    Crowding_turn = record {
      so = rw (reports_next w size fits i more) (Crowd_turn c.so (few_cuts easts east_cuts) (few_cuts norths north_cuts) (row_of (get_or (every_report w.words) i no_report)) said);
    }

  pub Crowding_end : w.n ≤ i → Crowd (cuts_by easts norths) (reports_of w) crowd
  Crowding_end h = rw (take_all i (reports_of w) (rw (length_reports w size fits) h)) at c.so

-- ---- by the memory cells of the slots

-- whosever memory cells these are, the first i are counted
pub record CrowdingAt (n : ℕ) (at : Stripes) (i : ℕ) (crowd : List ℕ) : Type 0 where
  pub so : (easts norths : CutList) (w : Waiting) → Seated easts norths w at → w.n ≡ n → Crowding easts norths w i crowd

pub CrowdingAt_start : (n : ℕ) (at : Stripes) → CrowdingAt n at 0 (replicate table_size 0)
CrowdingAt_start n at = record { so = λ easts norths w s e. Crowding_start easts norths w }

module _ {n : ℕ} {at : Stripes} {i : ℕ} {crowd : List ℕ} (c : CrowdingAt n at i crowd) {k : ℕ} (said : k ≡ box_at (record { east = get_or at.easts i 0; north = get_or at.norths i 0 })) (more : i < n) where
  pub CrowdingAt_room : (easts norths : CutList) (w : Waiting) → Seated easts norths w at → w.n ≡ n → get_or crowd k 0 < full_memory
  CrowdingAt_room easts norths w s e =
      let h : i < w.n = omega (arith, e) in
      Crowding_room w (c.so easts norths w s e) s.size s.fits s.east_cuts s.north_cuts h (seat_at s h said)

  pub CrowdingAt_turn : CrowdingAt n at (i + 1) (set crowd k (get_or crowd k 0 + 1))
  CrowdingAt_turn = record {
    so = λ easts norths w s e.
        let h : i < w.n = omega (arith, e) in
        Crowding_turn w (c.so easts norths w s e) s.size s.fits s.east_cuts s.north_cuts h (seat_at s h said);
  }
