-- The tests of the waiting reports say just the clauses: every place's memory cell is among those that the test goes through.
use mathlib.Core.Path.{◌≡◌, subst}
use mathlib.Core.Bool.{true}
use Rattle.std.specs.Prelude.{Some}
use Prim.Native.Nat.{ℕ, ◌≤◌, ◌<◌}
use native.Mathlib.Omega.{arith}
use lib.Dec.{leb, ltb}
use lib.ListN.{length}
use borrow.Author.Tests.{le-leb, leb-true, lt-ltb, ltb-true}
use Rattle.terms.specs.Terms.{max_radio}
use Rattle.lists.specs.Rows.{Rows, Rising, UpTo, find}
use Rattle.lists.specs.Tests.{Each}
use Rattle.lists.proofs.RowsLaws.{Each-find, find-Each}
use Rattle.lists.proofs.TestsLaws.{both_left, both_right, both_intro, all-Each, Each-all}
use Rattle.rules.specs.Limits.{full_box, full_memory}
use Rattle.rules.specs.Grid.{Cuts, Box, boxes}
use Rattle.rules.specs.Store.{Report}
use Rattle.rules.specs.Flush.{in_box}
use Rattle.rules.specs.Carry.{waiting_in}
use Rattle.rules.specs.WellFormed.{InSquare, WaitingDated}
use Rattle.rules.proofs.CutLaws.{in_box_box, boxes_hold}
use Rattle.sound_clauses.specs.Loops.{rises_to, keys}
use Rattle.sound_clauses.specs.Grid.{place_test}
use Rattle.sound_clauses.specs.Waiting.{waiting_test, places_test, dated_test, few_test}
use Rattle.sound_clauses.proofs.LoopsLaws.{all_every, sum_cases, rises_rows, rows_rise}
use Rattle.sound_clauses.proofs.GridLaws.{place_true, true_place}

pub waiting_true : (ws : Rows Report) → waiting_test ws ≡ true → (length ws < full_memory) × Rising 0 ws × UpTo max_radio ws
unfolding waiting_test
waiting_true ws e =
    let r = rises_rows max_radio 0 ws (both_right (ltb (length ws) full_memory) (rises_to max_radio 0 (keys ws)) e) in
    (ltb-true (length ws) full_memory (both_left (ltb (length ws) full_memory) (rises_to max_radio 0 (keys ws)) e), r.0, r.1)

pub true_waiting : (ws : Rows Report) → length ws < full_memory → Rising 0 ws → UpTo max_radio ws → waiting_test ws ≡ true
unfolding waiting_test
true_waiting ws h r u = both_intro (lt-ltb (length ws) full_memory h) (rows_rise max_radio 0 ws r u)

-- ---- places

pub places_true : (ws : Rows Report) → places_test ws ≡ true → (r : ℕ) (w : Report) → find ws r ≡ Some w → InSquare w.fix.place
unfolding places_test
places_true ws e r w =
    Each-find (λ _ v. InSquare v.fix.place) r w ws (all-Each (λ x. place_test x.val.fix.place) (λ x. InSquare x.val.fix.place) ws (λ x t. place_true x.val.fix.place t) e)

pub true_places : (ws : Rows Report) → Rising 0 ws → ((r : ℕ) (w : Report) → find ws r ≡ Some w → InSquare w.fix.place) → places_test ws ≡ true
unfolding places_test
true_places ws a h =
    Each-all (λ x. place_test x.val.fix.place) (λ x. InSquare x.val.fix.place) ws (λ x s. true_place x.val.fix.place s) (find-Each (λ _ v. InSquare v.fix.place) 0 ws a h)

-- ---- minutes

pub dated_true : (highest : ℕ) (ws : Rows Report) → dated_test highest ws ≡ true → WaitingDated highest ws
unfolding dated_test
dated_true highest ws e =
    all-Each (λ w. leb w.val.fix.minute highest) (λ w. w.val.fix.minute ≤ highest) ws (λ w t. leb-true w.val.fix.minute highest t) e

pub true_dated : (highest : ℕ) (ws : Rows Report) → WaitingDated highest ws → dated_test highest ws ≡ true
unfolding dated_test
true_dated highest ws h =
    Each-all (λ w. leb w.val.fix.minute highest) (λ w. w.val.fix.minute ≤ highest) ws (λ w t. le-leb w.val.fix.minute highest t) h

-- ---- fewer than 8 a memory cell

-- a memory cell in which a report waits is that of a place; in any other none waits
pub few_true : (cuts : Cuts) (ws : Rows Report) → few_test cuts ws ≡ true → (m : Box) → waiting_in cuts ws m < full_box
unfolding few_test waiting_in
few_true cuts ws e m =
    sum_cases (in_box cuts m) ws
    (λ z. omega arith)
    (λ w t. subst (λ (b : Box). waiting_in cuts ws b < full_box) (in_box_box cuts m w t) (boxes_hold (λ b. waiting_in cuts ws b < full_box) cuts w.val.fix.place each))
  where
    each : Each (λ b. waiting_in cuts ws b < full_box) (boxes cuts)
    each = all-Each (λ b. ltb (waiting_in cuts ws b) full_box) (λ b. waiting_in cuts ws b < full_box) (boxes cuts) (λ b t. ltb-true (waiting_in cuts ws b) full_box t) e

pub true_few : (cuts : Cuts) (ws : Rows Report) → ((m : Box) → waiting_in cuts ws m < full_box) → few_test cuts ws ≡ true
unfolding few_test
true_few cuts ws h = all_every (λ m. ltb (waiting_in cuts ws m) full_box) (boxes cuts) (λ m. lt-ltb (waiting_in cuts ws m) full_box (h m))
