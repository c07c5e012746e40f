-- After a sign-on or report: the memory cell that the code finds due is the one that the rules say, and what it leaves goes on to the tally.
use mathlib.Core.Bool.{false}
use mathlib.Core.List.{List}
use Rattle.std.specs.Prelude.{Option, None, Some}
use mathlib.Core.Path.{◌≡◌, sym, ap₂, ◌∙◌, subst}
use Prim.Native.Nat.{ℕ, ◌+◌, ◌≤◌, ◌<◌}
use native.Mathlib.Omega.{arith}
use lib.ListN.{length}
use Rattle.terms.specs.Terms.{Place}
use Rattle.lists.specs.Rows.{Rows}
use Rattle.rules.specs.Limits.{max_cuts, full_box, full_memory}
use Rattle.rules.specs.Grid.{Cuts, Box, same_box, box_of}
use Rattle.rules.specs.Store.{Report}
use Rattle.rules.specs.Flush.{flush}
use Rattle.rules.specs.Carry.{box_to_flush, waiting_in, flush_due, after_report}
use Rattle.rules.specs.Midway.{MidCallRoomy}
use Rattle.rules.proofs.StepLaws.{after_tally, report_done}
use Rattle.desk.specs.Held.{Grid, Memo, Waiting}
use Rattle.desk.specs.Laid.{LaidWaiting}
use Rattle.desk.specs.Views.{cuts_by}
use Rattle.boxes.specs.declared.BoxAt.{BoxAt}
use Rattle.boxes.specs.Boxes.{box_in}
use Rattle.std.proofs.Common.{option_map}
use Rattle.box_due.proofs.DueLaws.{means_flush, means_nothing}
use Rattle.waiting.specs.Waiting.{reports_of}
use Rattle.waiting.proofs.WaitingLaws.{reports_laid}
use Rattle.boxes.proofs.BoxLaws.{Boxed}
use Rattle.directory.proofs.DirectoryLaws.{Boxed_due, Boxed_counts}
use Rattle.tally.specs.Tally.{BeforeTally}
use Rattle.flush.specs.Flush.{BoxOf, BeforeFlush}
use Rattle.flush.proofs.FlushLaws.{laid_easts, laid_norths, laid_cuts, few_easts, few_norths, few_wait}

-- ---- the flush

module _ {grid : Grid} {waiting : Waiting} {memo : Memo} {b : List ℕ} (x : BeforeFlush grid waiting memo b) where
  -- what `box_due` asks
  pub due_asks : (waiting.n ≤ full_memory) × (grid.easts.n ≤ max_cuts) × (grid.norths.n ≤ max_cuts)
  due_asks = (few_wait x, few_easts x, few_norths x)

  due_told : (p : Place)
      → box_to_flush (cuts_by grid.easts grid.norths) (waiting_in (cuts_by grid.easts grid.norths) (reports_of waiting)) (length (reports_of waiting)) p ≡ flush_due x.store p
  unfolding flush_due
  due_told p = ap₂ (λ (c : Cuts) (w : Rows Report). box_to_flush c (waiting_in c w) (length w) p) (laid_cuts x.laid.in_memo) (reports_laid x.laid.waiting_is)

  -- none is
  pub after_none : (p : Place)
      → box_to_flush (cuts_by grid.easts grid.norths) (waiting_in (cuts_by grid.easts grid.norths) (reports_of waiting)) (length (reports_of waiting)) p ≡ None
      → LaidWaiting (after_report p x.store) grid waiting memo b
  unfolding after_report
  after_none p e = rw (sym (due_told p) ∙ e) x.laid

  module _ (p : Place) {o : Option BoxAt}
      (told : option_map box_in o ≡ box_to_flush (cuts_by grid.easts grid.norths) (waiting_in (cuts_by grid.easts grid.norths) (reports_of waiting)) (length (reports_of waiting)) p) where
    pub after_nothing : o ≡ None → LaidWaiting (after_report p x.store) grid waiting memo b
    after_nothing e = after_none p (means_nothing told e)

    -- m is: `flush` may be called, and what it leaves
    module _ (m : BoxAt) (e : o ≡ Some m) where
      due_is : flush_due x.store p ≡ Some (box_in m)
      due_is = means_flush (told ∙ due_told p) m e

      due_Boxed : Boxed x.store.cuts (box_in m)
      unfolding flush_due
      due_Boxed = Boxed_due x.store.cuts (waiting_in x.store.cuts x.store.waiting) (length x.store.waiting) p (box_in m) due_is

      pub flush_asks : BeforeFlush grid waiting memo b × BoxOf grid.easts grid.norths m
      flush_asks = let k = Boxed_counts (laid_easts x.laid.in_memo) (laid_norths x.laid.in_memo) due_Boxed in (x, (k.0, k.1))

      pub after_flush : {g : Grid} {w : Waiting} {lines : Memo} {b' : List ℕ}
          → ((y : BeforeFlush grid waiting memo b) → LaidWaiting (flush (box_in m) y.store) g w lines b') → LaidWaiting (after_report p x.store) g w lines b'
      unfolding after_report
      after_flush f = rw due_is (f x)

-- ---- on to the tally

-- what `tick` asks, where no memory cell but that of p was full
abbrev pub after_tallied : {grid : Grid} {waiting : Waiting} {memo : Memo} {b : List ℕ} (x : BeforeFlush grid waiting memo b) (p : Place) (tally : ℕ) {g : Grid} {w : Waiting} {lines : Memo} {b' : List ℕ}
    → ((n : Box) → same_box n (box_of x.store.cuts p) ≡ false → waiting_in x.store.cuts x.store.waiting n < full_box)
    → LaidWaiting (after_report p x.store) g w lines b' → tally ≡ x.store.tally → BeforeTally g lines tally b'
after_tallied x p tally others_few a e =
    let s = x.store in
    let same = after_tally p s in
    record {
      store = after_report p s;
      early = omega (arith, same, x.early);
      roomy = subst (λ (c : ℕ). MidCallRoomy (after_report p s) (c + 1)) (sym same) (report_done p s (s.tally + 1) x.mid.core x.mid.bounded (omega (arith, x.early)) x.few others_few);
      laid = a.in_memo;
      tally_is = e ∙ sym same;
    }
