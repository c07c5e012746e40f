-- Waiting reports against the cuts, by a table of memory cells.
use mathlib.Core.Path.{◌≡◌, refl, sym, ap}
use mathlib.Core.Bool.{true, false}
use mathlib.Core.List.{List, [], ◌∷◌, ◌++◌}
use Prim.Native.Nat.{ℕ, ◌+◌, ◌-◌, ◌*◌, ◌≤◌, ◌<◌}
use native.Mathlib.Omega.{arith}
use lib.ListN.{length, get_or, set, take, replicate}
use lib.Seq.{take_all}
use Rattle.lists.specs.Rows.{Row, Rows}
use Rattle.lists.specs.Tests.{one_if}
use Rattle.lists.proofs.Cases.{by_cases}
use Rattle.lists.proofs.SumsLaws.{sum-take-drop}
use Rattle.rules.specs.Limits.{max_cuts, full_box, full_memory}
use Rattle.rules.specs.Grid.{Box, Cuts, box_of}
use Rattle.rules.specs.Flush.{in_box}
use Rattle.rules.specs.Carry.{waiting_in}
use Rattle.rules.specs.Store.{Report as StoreReport}
use Rattle.desk.specs.declared.CutList.{CutList}
use Rattle.desk.specs.Held.{Waiting, waiting_with}
use Rattle.desk.specs.Layout.{report_fields, no_report}
use Rattle.desk.specs.Views.{every_report, cuts_by}
use Rattle.sound_clauses.specs.Waiting.{few_test}
use Rattle.sound_clauses.proofs.WaitingLaws.{few_true, true_few}
use Rattle.boxes.specs.Boxes.{table_size, box_at, Boxed, Crowd}
use Rattle.boxes.specs.declared.Stripes.{Stripes}
use Rattle.boxes.proofs.CrowdLaws.{few_cuts, box_in, in_box_lem, none_wait, wait_last, Crowd_start, crowd_here, Crowd_turn}
use Rattle.boxes.proofs.StripesLaws.{Seated, seat_at}
use Rattle.waiting.specs.Waiting.{row_of, reports_of}
use Rattle.waiting.proofs.WaitingLaws.{length_reports, reports_next, every_size}
use Rattle.sound_desk.specs.Sound.{few_sound}

-- the reports up to i are counted at their memory cells, and none has 8
pub record Few (easts norths : CutList) (w : Waiting) (i : ℕ) (crowd : List ℕ) : Type 0 where
  pub so : Crowd (cuts_by easts norths) (take i (reports_of w)) crowd
  pub few : (m : Box) → waiting_in (cuts_by easts norths) (take i (reports_of w)) m < full_box

wait_part : (cuts : Cuts) (ws : Rows StoreReport) (i : ℕ) (m : Box) → waiting_in cuts (take i ws) m ≤ waiting_in cuts ws m
unfolding waiting_in
wait_part cuts ws i m = omega (arith, sum-take-drop (λ w. one_if (in_box cuts m w)) i ws)

module _ {easts norths : CutList} {w : Waiting} {at : Stripes} (seats : Seated easts norths w at) {i : ℕ} {crowd : List ℕ} (r : Few easts norths w i crowd) where
  -- the next report, and the memory cell of its place
  abbrev cuts : Cuts
  cuts = cuts_by easts norths

  abbrev it : Row StoreReport
  it = row_of (get_or (every_report w.words) i no_report)

  abbrev its : Box
  its = box_of cuts it.val.fix.place

  module _ (more : i < w.n) {k : ℕ} (said : k ≡ box_at (record { east = get_or at.easts i 0; north = get_or at.norths i 0 })) where
    few_east : length cuts.easts ≤ max_cuts
    few_east = few_cuts easts seats.east_cuts

    few_north : length cuts.norths ≤ max_cuts
    few_north = few_cuts norths seats.north_cuts

    home : k ≡ box_at its
    home = seat_at seats more said

    next : take (i + 1) (reports_of w) ≡ take i (reports_of w) ++ (it ∷ [])
    next = reports_next w seats.size seats.fits i more

    one_more : (m : Box) → waiting_in cuts (take (i + 1) (reports_of w)) m ≡ waiting_in cuts (take i (reports_of w)) m + one_if (in_box cuts m it)
    one_more m = rw next (wait_last cuts (take i (reports_of w)) it m)

    here : get_or crowd k 0 ≡ waiting_in cuts (take i (reports_of w)) its
    here = crowd_here r.so few_east few_north it home

    pub few_full : full_box - 1 ≤ get_or crowd k 0 → false ≡ few_sound easts norths w
    unfolding few_sound
    few_full h =
        by_cases (few_test cuts (reports_of w))
        (λ t. absurd (omega (arith, few_true cuts (reports_of w) t its, wait_part cuts (reports_of w) (i + 1) its, one_more its, ap one_if (in_box_lem cuts its it refl refl), here)))
        (λ t. sym t)

    module _ (room : get_or crowd k 0 < full_box - 1) where
      few_next : (m : Box) → waiting_in cuts (take (i + 1) (reports_of w)) m < full_box
      few_next m =
          by_cases (in_box cuts m it)
          (λ t. let q = box_in cuts m it t in
          let e : its ≡ m = λ z. record { east = q.0 z; north = q.1 z } in
          omega (arith, one_more m, ap one_if t, here, ap (waiting_in cuts (take i (reports_of w))) e))
          (λ t. omega (arith, one_more m, ap one_if t, r.few m))

      Few_more : Few easts norths w (i + 1) (set crowd k (get_or crowd k 0 + 1))
      Few_more = record { so = rw next (Crowd_turn r.so few_east few_north it home); few = few_next }

  pub few_end : w.n ≤ i → true ≡ few_sound easts norths w
  unfolding few_sound
  few_end h =
      let a : take i (reports_of w) ≡ reports_of w = take_all i (reports_of w) (omega (arith, length_reports w seats.size seats.fits)) in
      sym (true_few cuts (reports_of w) (rw a at r.few))

-- ---- counting by the memory cells of the slots

-- by whichever cuts these are their memory cells
pub record FewAt (w : Waiting) (at : Stripes) (i : ℕ) (crowd : List ℕ) : Type 0 where
  pub so : (easts norths : CutList) → Seated easts norths w at → Few easts norths w i crowd

pub few_start : (w : Waiting) (at : Stripes) → FewAt w at 0 (replicate table_size 0)
few_start w at = record {
  so = λ easts norths s. record { so = Crowd_start (cuts_by easts norths); few = λ m. omega (arith, none_wait (cuts_by easts norths) m) };
}

pub few_turn : {w : Waiting} {at : Stripes} {i k : ℕ} {crowd : List ℕ} → FewAt w at i crowd → i < w.n → k ≡ box_at (record { east = get_or at.easts i 0; north = get_or at.norths i 0 })
    → get_or crowd k 0 < full_box - 1 → FewAt w at (i + 1) (set crowd k (get_or crowd k 0 + 1))
few_turn f more said room = record { so = λ easts norths s. Few_more s (f.so easts norths s) more said room }

-- ---- the memory cells of an array's slots

pub seated : (easts norths : CutList) (n : ℕ) (ws : List ℕ) {at : Stripes} → (easts.n ≤ max_cuts) × (norths.n ≤ max_cuts) × (n ≤ full_memory) → length ws ≡ report_fields * full_memory
    → Boxed (cuts_by easts norths) (every_report ws) at → Seated easts norths (waiting_with n ws) at
seated easts norths n ws h l b = record { size = every_size ws l; fits = h.2; east_cuts = h.0; north_cuts = h.1; boxes = b }
