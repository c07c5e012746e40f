-- The memory cells of all slots at once: the stripes of their coordinates, cut by cut.
use mathlib.Core.List.{List}
use mathlib.Core.Path.{◌≡◌, refl, sym, ap, ◌∙◌}
use Prim.Native.Nat.{ℕ, ◌+◌, ◌*◌, ◌≤◌, ◌<◌}
use native.Mathlib.Numerals.{add-one}
use native.Mathlib.Omega.{arith}
use lib.Dec.{eqb, leb}
use lib.ListN.{length, get_or, set, take, replicate, length-set, length-take, length-replicate, get_or-replicate}
use lib.Seq.{take-suc, take_all, get_or-set_same, get_or-set_other}
use borrow.Author.Tests.{le-leb, lt-leb, eqb-true, eqb-false}
use Rattle.lists.specs.Tests.{one_if}
use Rattle.lists.proofs.Cases.{by_cases}
use Rattle.lists.proofs.SumsLaws.{sum-nil, sum_last}
use Rattle.rules.specs.Limits.{full_memory, max_cuts}
use Rattle.rules.specs.Grid.{Box, stripe, box_of}
use Rattle.rules.proofs.TilingLaws.{stripe_most}
use Rattle.desk.specs.declared.CutList.{CutList}
use Rattle.desk.specs.declared.Report.{Report}
use Rattle.desk.specs.Held.{Waiting}
use Rattle.desk.specs.Layout.{no_report, report_fields}
use Rattle.desk.specs.Views.{every_report, cuts_in, cuts_by}
use Rattle.desk.proofs.ReportsLaws.{report_read}
use Rattle.boxes.specs.declared.Stripes.{Stripes}
use Rattle.boxes.specs.Boxes.{Passing, Striped, Boxed, max_stripes, box_at}
use Rattle.boxes.proofs.BoxLaws.{box_laid}
use Rattle.boxes.proofs.CrowdLaws.{few_cuts, stripe_few}

-- ---- one cut more

module _ (s cut x : ℕ) where
  pub further_yes : cut ≤ x → s + 1 ≡ s + one_if (leb cut x)
  further_yes h = rw (le-leb cut x h)

  pub further_no : x < cut → s ≡ s + one_if (leb cut x)
  further_no h = omega (arith, ap one_if (lt-leb cut x h))

module _ (cut : ℕ) (xs : List ℕ) (column : ℕ) (before : List ℕ) where
  pub Passing_start : length before ≡ full_memory → Passing cut xs column before 0 before
  Passing_start l = record { size = l; passed = λ k h. absurd (omega (arith, h)); ahead = λ k h. refl }

  module _ {i : ℕ} {after : List ℕ} (p : Passing cut xs column before i after) (more : i < full_memory) where
    -- the next is as it was
    pub Passing_here : get_or after i 0 ≡ get_or before i 0
    Passing_here = p.ahead i (omega arith)

    module _ {s : ℕ} (said : s ≡ get_or after i 0 + one_if (leb cut (get_or xs (column + i) 0))) where
      passed_next : (k : ℕ) → k < i + 1 → get_or (set after i s) k 0 ≡ get_or before k 0 + one_if (leb cut (get_or xs (column + k) 0))
      passed_next k h =
          by_cases (eqb k i)
          (λ t. rw (eqb-true k i t) (get_or-set_same after i s 0 (omega (arith, p.size)) ∙ said ∙ ap (λ (y : ℕ). y + one_if (leb cut (get_or xs (column + i) 0))) Passing_here))
          (λ t. get_or-set_other after i k s 0 (eqb-false k i t) ∙ p.passed k (omega (arith, eqb-false k i t)))

      pub Passing_turn : Passing cut xs column before (i + 1) (set after i s)
      Passing_turn = record {
        size = length-set after i s ∙ p.size;
        passed = passed_next;
        ahead = λ k h. get_or-set_other after i k s 0 (omega (arith, h)) ∙ p.ahead k (omega (arith, h));
      }

  pub Passing_end : {i : ℕ} {after : List ℕ} → Passing cut xs column before i after → i ≤ full_memory → full_memory ≤ i → Passing cut xs column before full_memory after
  Passing_end p g h = record { size = p.size; passed = λ k b. p.passed k (omega (arith, h, b)); ahead = λ k b. p.ahead k (omega (arith, g, b)) }

-- ---- all cuts, one after the other

-- the stripes by the first i cuts
pub record StripedBy (cuts : CutList) (xs : List ℕ) (column i : ℕ) (stripes : List ℕ) : Type 0 where
  pub so : Striped (take i (cuts_in cuts)) xs column stripes

pub Striped_start : (cuts : CutList) (xs : List ℕ) (column : ℕ) → StripedBy cuts xs column 0 (replicate full_memory 0)
unfolding stripe
Striped_start cuts xs column = record {
  so = record {
    size = length-replicate {A = ℕ} full_memory 0;
    told = λ k h. get_or-replicate {A = ℕ} full_memory k 0 0 h ∙ sym (sum-nil (λ c. one_if (leb c (get_or xs (column + k) 0))));
  };
}

module _ {cuts : CutList} {xs : List ℕ} {column i : ℕ} {before : List ℕ} (s : StripedBy cuts xs column i before) (fits : cuts.n ≤ max_cuts) where
  pub Striped_low : (k : ℕ) → k < full_memory → get_or before k 0 ≤ max_cuts
  Striped_low k h = omega (arith, s.so.told k h, stripe_most (take i (cuts_in cuts)) (get_or xs (column + k) 0), length-take i (cuts_in cuts), few_cuts cuts fits)

  module _ (more : i < length (take cuts.n cuts.at)) {after : List ℕ} (p : Passing (get_or (take cuts.n cuts.at) i 0) xs column before full_memory after) where
    stripe_next : (x : ℕ) → stripe (take (i + 1) (cuts_in cuts)) x ≡ stripe (take i (cuts_in cuts)) x + one_if (leb (get_or (take cuts.n cuts.at) i 0) x)
    unfolding stripe cuts_in
    stripe_next x =
        rw (add-one i, take-suc (take cuts.n cuts.at) i 0 more)
        (sum_last (λ c. one_if (leb c x)) (take i (take cuts.n cuts.at)) (get_or (take cuts.n cuts.at) i 0))

    pub Striped_turn : StripedBy cuts xs column (i + 1) after
    Striped_turn = record {
      so = record {
        size = p.size;
        told = λ k h. omega (arith, p.passed k h, s.so.told k h, stripe_next (get_or xs (column + k) 0));
      };
    }

  pub Striped_end : length (take cuts.n cuts.at) ≤ i → Striped (cuts_in cuts) xs column before
  unfolding cuts_in
  Striped_end h = rw (take_all i (take cuts.n cuts.at) h) at s.so

-- ---- both directions

pub boxed : (easts norths : CutList) (ws : List ℕ) {a b : List ℕ} → length ws ≡ report_fields * full_memory
    → Striped (cuts_in easts) ws full_memory a → Striped (cuts_in norths) ws (2 * full_memory) b → Boxed (cuts_by easts norths) (every_report ws) (record { easts = a; norths = b })
boxed easts norths ws l sx sy = record {
  told = λ k h.
      let e = report_read ws k h l in
      box_laid easts norths _ _ (sx.told k h ∙ ap (λ (r : Report). stripe (cuts_in easts) r.east) e) (sy.told k h ∙ ap (λ (r : Report). stripe (cuts_in norths) r.north) e);
}

-- the memory cells of the slots, in the tables' bounds
pub record Seated (easts norths : CutList) (w : Waiting) (at : Stripes) : Type 0 where
  pub size : length (every_report w.words) ≡ full_memory
  pub fits : w.n ≤ full_memory
  pub east_cuts : easts.n ≤ max_cuts
  pub north_cuts : norths.n ≤ max_cuts
  pub boxes : Boxed (cuts_by easts norths) (every_report w.words) at

module _ {easts norths : CutList} {w : Waiting} {at : Stripes} (s : Seated easts norths w at) {i : ℕ} (more : i < w.n) where
  abbrev its : Box
  its = box_of (cuts_by easts norths) (record { east = (get_or (every_report w.words) i no_report).east; north = (get_or (every_report w.words) i no_report).north })

  its_seat : record { east = get_or at.easts i 0; north = get_or at.norths i 0 } ≡ its
  its_seat = s.boxes.told i (omega (arith, s.fits))

  pub seat_east : get_or at.easts i 0 < max_stripes
  unfolding box_of
  seat_east = stripe_few easts _ s.east_cuts (ap (λ (b : Box). b.east) its_seat)

  pub seat_north : get_or at.norths i 0 < max_stripes
  unfolding box_of
  seat_north = stripe_few norths _ s.north_cuts (ap (λ (b : Box). b.north) its_seat)

  pub seat_at : {k : ℕ} → k ≡ box_at (record { east = get_or at.easts i 0; north = get_or at.norths i 0 }) → k ≡ box_at its
  seat_at e = e ∙ ap box_at its_seat
