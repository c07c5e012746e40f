-- A table of how many wait in each memory cell, filled report by report.
use mathlib.Core.Bool.{true}
use mathlib.Core.List.{List, [], ◌∷◌, ◌++◌}
use mathlib.Core.Logic.{◌≢◌}
use mathlib.Core.Path.{◌≡◌, sym, ap, ◌∙◌}
use Prim.Native.Nat.{ℕ, ◌+◌, ◌≤◌, ◌<◌}
use native.Mathlib.Omega.{arith}
use lib.Dec.{eqb}
use lib.ListN.{length, get_or, set, replicate, length-set, length-take, length-replicate, get_or-replicate}
use lib.Seq.{get_or-set_same, get_or-set_other}
use borrow.Author.Tests.{eqb-true, eq-eqb}
use Rattle.lists.specs.Rows.{Row, Rows}
use Rattle.lists.specs.Tests.{one_if}
use Rattle.lists.proofs.Cases.{by_cases}
use Rattle.lists.proofs.SumsLaws.{sum-nil, sum_last, sum-le, sum_const}
use Rattle.lists.proofs.TestsLaws.{both_left, both_right, both_intro, one_if-le}
use Rattle.rules.specs.Limits.{max_cuts}
use Rattle.rules.specs.Grid.{Box, Cuts, stripe, box_of}
use Rattle.rules.specs.Flush.{in_box}
use Rattle.rules.specs.Carry.{waiting_in}
use Rattle.rules.specs.Store.{Report as StoreReport}
use Rattle.rules.proofs.TilingLaws.{stripe_most}
use Rattle.desk.specs.declared.CutList.{CutList}
use Rattle.desk.specs.Views.{cuts_in}
use Rattle.boxes.specs.Boxes.{max_stripes, table_size, box_at, Crowd}

-- ---- the memory cell of a place

pub few_cuts : (c : CutList) → c.n ≤ max_cuts → length (cuts_in c) ≤ max_cuts
unfolding cuts_in
few_cuts c h = rw length-take (omega arith)

pub stripe_few : (c : CutList) (x : ℕ) {a : ℕ} → c.n ≤ max_cuts → a ≡ stripe (cuts_in c) x → a < max_stripes
stripe_few c x h e = omega (arith, stripe_most (cuts_in c) x, few_cuts c h)

-- a memory cell is a report's exactly if its stripes are
module _ (cuts : Cuts) (m : Box) (x : Row StoreReport) where
  abbrev home : Box
  home = box_of cuts x.val.fix.place

  pub box_in : in_box cuts m x ≡ true → (home.east ≡ m.east) × (home.north ≡ m.north)
  unfolding in_box
  box_in t =
      let a = eqb home.east m.east in
      let b = eqb home.north m.north in
      (eqb-true home.east m.east (both_left a b t), eqb-true home.north m.north (both_right a b t))

  pub in_box_lem : home.east ≡ m.east → home.north ≡ m.north → in_box cuts m x ≡ true
  unfolding in_box
  in_box_lem e f = both_intro (eq-eqb home.east m.east e) (eq-eqb home.north m.north f)

-- ---- how many wait

pub none_wait : (cuts : Cuts) (m : Box) → waiting_in cuts [] m ≡ 0
unfolding waiting_in
none_wait cuts m = sum-nil (λ w. one_if (in_box cuts m w))

pub wait_last : (cuts : Cuts) (ws : Rows StoreReport) (x : Row StoreReport) (m : Box) → waiting_in cuts (ws ++ (x ∷ [])) m ≡ waiting_in cuts ws m + one_if (in_box cuts m x)
unfolding waiting_in
wait_last cuts ws x m = sum_last (λ w. one_if (in_box cuts m w)) ws x

wait_most : (cuts : Cuts) (ws : Rows StoreReport) (m : Box) → waiting_in cuts ws m ≤ length ws
unfolding waiting_in
wait_most cuts ws m = omega (arith, sum-le (λ w. one_if (in_box cuts m w)) (λ _. 1) ws (λ w. one_if-le (in_box cuts m w)), sum_const 1 ws)

-- ---- the table

pub Crowd_start : (cuts : Cuts) → Crowd cuts [] (replicate table_size 0)
Crowd_start cuts = record {
  size = length-replicate {A = ℕ} table_size 0;
  counts = λ m a b. get_or-replicate {A = ℕ} table_size (box_at m) 0 0 (omega arith) ∙ sym (none_wait cuts m);
}

module _ {cuts : Cuts} {ws : Rows StoreReport} {crowd : List ℕ} (c : Crowd cuts ws crowd) (east_cuts : length cuts.easts ≤ max_cuts) (north_cuts : length cuts.norths ≤ max_cuts) (x : Row StoreReport) {k : ℕ}
    (said : k ≡ box_at (box_of cuts x.val.fix.place)) where
  abbrev its : Box
  its = box_of cuts x.val.fix.place

  its-east : its.east < max_stripes
  unfolding box_of
  its-east = omega (arith, stripe_most cuts.easts x.val.fix.place.east)

  its-north : its.north < max_stripes
  unfolding box_of
  its-north = omega (arith, stripe_most cuts.norths x.val.fix.place.north)

  -- the number at the report's memory cell
  pub crowd_here : get_or crowd k 0 ≡ waiting_in cuts ws its
  crowd_here = ap (λ (j : ℕ). get_or crowd j 0) said ∙ c.counts its its-east its-north

  pub crowd_most : get_or crowd k 0 ≤ length ws
  crowd_most = omega (arith, crowd_here, wait_most cuts ws its)

  abbrev more : List ℕ
  more = set crowd k (get_or crowd k 0 + 1)

  counts_next : (m : Box) → m.east < max_stripes → m.north < max_stripes → get_or more (box_at m) 0 ≡ waiting_in cuts (ws ++ (x ∷ [])) m
  counts_next m a b =
      by_cases (in_box cuts m x)
      (λ t. let q = box_in cuts m x t in
      let e : box_at m ≡ k = omega (arith, q.0, q.1, said) in
      omega (
        arith,
        ap (λ (j : ℕ). get_or more j 0) e ∙ get_or-set_same crowd k (get_or crowd k 0 + 1) 0 (omega (arith, c.size)),
        ap (λ (j : ℕ). get_or crowd j 0) e,
        c.counts m a b,
        wait_last cuts ws x m,
        ap one_if t,
      ))
      (λ t. let e : box_at m ≢ k = λ z.
      let u : its.east ≡ m.east = omega (arith, said, its-east) in
      let v : its.north ≡ m.north = omega (arith, said, its-east) in
      omega (arith, ap one_if (in_box_lem cuts m x u v), ap one_if t) in
      omega (arith, get_or-set_other crowd k (box_at m) (get_or crowd k 0 + 1) 0 e, c.counts m a b, wait_last cuts ws x m, ap one_if t))

  pub Crowd_turn : Crowd cuts (ws ++ (x ∷ [])) more
  Crowd_turn = record { size = length-set crowd k (get_or crowd k 0 + 1) ∙ c.size; counts = counts_next }
