-- Every call, with any bytes and any name of a neighbour, leaves a well-formed store where it found one.
use mathlib.Core.Bool.{Bool, true, false, not}
use mathlib.Core.List.{List, [], ◌∷◌, ◌++◌}
use Rattle.std.specs.Prelude.{Option, None, Some}
use mathlib.Core.Path.{◌≡◌, refl, sym, ap, ◌∙◌, subst}
use Prim.Native.Nat.{ℕ, ◌+◌, ◌*◌, ◌≤◌, ◌<◌}
use native.Mathlib.Omega.{arith}
use lib.Dec.{eqb, ltb}
use lib.ListN.{length}
use borrow.Author.Tests.{ltb-true, ltb-false, eqb-true, eq-eqb, ne_eqb}
use Rattle.terms.specs.Terms.{Place, Fix, max_radio, max_on}
use Rattle.lists.specs.Rows.{Rows, find, alter, insert}
use Rattle.lists.specs.Tests.{one_if}
use Rattle.lists.specs.Words.{Bytes}
use Rattle.lists.proofs.Cases.{by_cases, option_cases, list_cases, none-some, false-true, some_injective}
use Rattle.lists.proofs.RowsLaws.{find-alter, length-alter, length-alter-le}
use Rattle.lists.proofs.TestsLaws.{both_intro, one_if-le}
use Rattle.rules.specs.Limits.{full_box, full_memory, sweep_every}
use Rattle.rules.specs.Grid.{Box, same_box, box_of, corner_of}
use Rattle.rules.specs.Store.{Report, Cell, Store, settled, with_highest}
use Rattle.rules.specs.Sweep.{swept, swept_memo, sweep_front, counted, tick}
use Rattle.rules.specs.Flush.{flushed_into, reshaped, cell_of_box, flush}
use Rattle.rules.specs.Records.{Request, request_of, refusal}
use Rattle.rules.specs.Carry.{is_on, on_count, was_new, signed_on, reported, signed_off, waiting_in, flush_due, after_report, found, list_bytes, answered, carried_out, carry}
use Rattle.rules.specs.WellFormed.{InSquare, EntriesDated, WellFormed}
use Rattle.rules.specs.Parts.{Tiling, Books, Paged, Bounded, Core, marks, on_set}
use Rattle.rules.specs.Midway.{Roomy, MidCallRoomy}
use Rattle.rules.proofs.WellLaws.{well_Core, well_Bounded, Core_well, later_well}
use Rattle.rules.proofs.DatedLaws.{Dated_settled, Dated_swept, Dated_back, Dated_put, Dated_off}
use Rattle.rules.proofs.RecordLaws.{Accepted, on_passed, report_passed, off_passed, range_passed, accepted, signed_on_lem, signed_off_lem, Waits-alter}
use Rattle.rules.proofs.BooksLaws.{Books_ext, Books_on, Books_off, stale_off, Books_sweep, Clean-swept, stale_sweep, Books_same, Books_back, marks_signed_on, marks_reported, marks_signed_off, on_signed_on, on_signed_off}
use Rattle.rules.proofs.TilingLaws.{cell_at_split, home_some, Tiling_move, some_cell}
use Rattle.rules.proofs.CutLaws.{box_same, waiting_new, waiting_less, length_cleared, waiting_cleared, most_some, due_none, due_some, reshaped-waiting, reshaped-tally, waiting-reshaped, flush_cases}
use Rattle.rules.proofs.PagedLaws.{sweep_front-Paged}
use Rattle.rules.proofs.RoundLaws.{Bounded_record, sweep_front-Bounded}
use Rattle.rules.proofs.FlushLaws.{ready, reshaped_mid}

-- ---- a flush

-- the reports of m wait no longer; no other memory cell was full
module _ (m : Box) (s : Store) (c : ℕ) (k : Core s) (b : Bounded s.memo s.cells (length s.waiting) c) (late : c ≤ sweep_every)
    (few : length s.waiting ≤ full_memory) (some_wait : 1 ≤ waiting_in s.cuts s.waiting m)
    (others_few : (n : Box) → same_box n m ≡ false → waiting_in s.cuts s.waiting n < full_box) where
  flushed_few : (d : Cell) → length (flushed_into m s d).store.waiting < full_memory
  unfolding flushed_into
  flushed_few d = omega (arith, length_cleared s.cuts s.waiting m)

  flushed_boxes : (d : Cell) (n : Box) → waiting_in (flushed_into m s d).store.cuts (flushed_into m s d).store.waiting n < full_box
  unfolding flushed_into
  flushed_boxes d n = waiting_cleared s.cuts s.waiting m full_box (omega arith) others_few n

  flushed_done : (d : Cell) → cell_of_box s m ≡ Some d → MidCallRoomy (reshaped (flushed_into m s d)) c
  unfolding cell_of_box
  flushed_done d e =
      let at = cell_at_split s.cells (corner_of s.cuts m) d e in
      record {
        mid = reshaped_mid (flushed_into m s d) d at.0.before at.0.after s.memo _ c (ready m s d k at.0 at.1 c b late (omega (arith, flushed_few d)));
        roomy = record {
          few = rw (reshaped-waiting (flushed_into m s d)) (flushed_few d);
          boxes = waiting-reshaped full_box (flushed_into m s d) (flushed_boxes d);
        };
      }

  pub flush_done : MidCallRoomy (flush m s) c
  unfolding flush cell_of_box
  flush_done =
      let h = home_some s.cuts s.cells m k.tiling in
      rw h.1 (flushed_done h.0 h.1)

-- ---- after a sign-on or report at p

module _ (p : Place) (s : Store) (c : ℕ) (k : Core s) (b : Bounded s.memo s.cells (length s.waiting) c) (late : c ≤ sweep_every)
    (few : length s.waiting ≤ full_memory) (others_few : (n : Box) → same_box n (box_of s.cuts p) ≡ false → waiting_in s.cuts s.waiting n < full_box) where
  none_due : flush_due s p ≡ None → Roomy s
  unfolding flush_due
  none_due e =
      let q = due_none s.cuts (waiting_in s.cuts s.waiting) (length s.waiting) p e in
      record {
        few = q.1;
        boxes = λ n. by_cases (same_box n (box_of s.cuts p)) (λ t. rw (box_same n (box_of s.cuts p) t) q.0) (others_few n);
      }

  all_few : waiting_in s.cuts s.waiting (box_of s.cuts p) < full_box → (n : Box) → waiting_in s.cuts s.waiting n < full_box
  all_few h n = by_cases (same_box n (box_of s.cuts p)) (λ t. rw (box_same n (box_of s.cuts p) t) h) (others_few n)

  some_due : (m : Box) → flush_due s p ≡ Some m → MidCallRoomy (flush m s) c
  unfolding flush_due
  some_due m e =
      due_some s.cuts (waiting_in s.cuts s.waiting) (length s.waiting) p m e
      (λ z h. flush_done m s c k b late few (omega (arith, h)) (λ n t. others_few n (rw z t)))
      (λ h i g.
      let q = most_some s.cuts s.waiting (omega (arith, i)) in
      let z : q.0 ≡ m = cc q.1 in
      flush_done m s c k b late few (rw (← z) q.2) (λ n t. all_few h n))

  pub report_done : MidCallRoomy (after_report p s) c
  unfolding after_report
  report_done =
      option_cases (flush_due s p)
      (λ e. rw e (record { mid = record { core = k; bounded = b }; roomy = none_due e }))
      (λ m e. rw e (some_due m e))

-- ---- the tally

-- the front of the round is swept and goes to the end
module _ (s : Store) (d : Cell) (cs : List Cell) (e : s.cells ≡ d ∷ cs) (x : MidCallRoomy s sweep_every) where
  front_Books : Books (d ∷ cs) s.memo (marks s.waiting) (on_set s.on)
  front_Books = subst (λ (l : List Cell). Books l s.memo (marks s.waiting) (on_set s.on)) e x.mid.core.books

  front_Tiling : Tiling s.cuts (d ∷ cs)
  front_Tiling = subst (Tiling s.cuts) e x.mid.core.tiling

  front_kept : Tiling s.cuts (cs ++ (settled s.free (swept s.memo d) ∷ []))
  unfolding settled swept
  front_kept = Tiling_move s.cuts [] d cs _ front_Tiling refl refl

  front_swept : Books (cs ++ (settled s.free (swept s.memo d) ∷ [])) (swept_memo s.memo d.entries) (marks s.waiting) (on_set s.on)
  unfolding settled
  front_swept = Books_back _ cs (Books_same (swept s.memo d) _ cs refl refl (Books_sweep d cs front_Books))

  front_dated : EntriesDated s.highest (cs ++ (settled s.free (swept s.memo d) ∷ []))
  front_dated =
      let h = s.highest in
      let e = subst (EntriesDated h) e x.mid.core.dated.entries in
      Dated_back h _ cs (Dated_settled h s.free (swept s.memo d) (Dated_swept h s.memo d e.0), e.1)

  front_Core : Core (sweep_front (d ∷ cs) s)
  unfolding sweep_front
  front_Core = record {
    tiling = front_kept;
    books = front_swept;
    paged = sweep_front-Paged d cs s (subst (λ (l : List Cell). Paged l s.free) e x.mid.core.paged);
    signed = x.mid.core.signed;
    waits = x.mid.core.waits;
    dated = record { entries = front_dated; reports = x.mid.core.dated.reports };
  }

  pub front_well : WellFormed (sweep_front (d ∷ cs) s)
  unfolding sweep_front
  front_well =
      Core_well (sweep_front (d ∷ cs) s) front_Core
      (sweep_front-Bounded d cs s (length s.waiting) sweep_every (subst (λ (l : List Cell). Bounded s.memo l (length s.waiting) sweep_every) e x.mid.bounded) (omega arith)
      (omega (arith, x.roomy.few)) front_Tiling.few_cells (stale_sweep d cs front_Books) (Clean-swept d cs front_Books))
      x.roomy.few x.roomy.boxes (omega arith)

pub tick_well : (s : Store) → s.tally < sweep_every → MidCallRoomy s (s.tally + 1) → WellFormed (tick s)
unfolding tick
tick_well s t x =
    by_cases (ltb (s.tally + 1) sweep_every)
    (λ u. let h = ltb-true (s.tally + 1) sweep_every u in rw u (Core_well _ (counted-Core x.mid.core) x.mid.bounded x.roomy.few x.roomy.boxes h))
    (λ u. let h = ltb-false (s.tally + 1) sweep_every u in
    let z : s.tally + 1 ≡ sweep_every = omega arith in
    rw u (list_cases s.cells
    (λ e. absurd (omega (arith, some_cell x.mid.core.tiling, ap length e)))
    (λ d cs e. subst (λ (l : List Cell). WellFormed (sweep_front l s)) (sym e) (front_well s d cs e (subst (MidCallRoomy s) z x)))))
  where
    counted-Core : Core s → Core (counted s)
    counted-Core k = record { tiling = k.tiling; books = k.books; paged = k.paged; signed = k.signed; waits = k.waits; dated = k.dated }

-- ---- a record's own effect

box_other : (n m : Box) → same_box n m ≡ false → same_box m n ≡ false
box_other n m t =
    by_cases (same_box m n)
    (λ u. let same : same_box n m ≡ true = subst (λ (k : Box). same_box n k ≡ true) (sym (box_same m n u)) (both_intro (eq-eqb n.east n.east refl) (eq-eqb n.north n.north refl)) in
    false-true (sym t ∙ same))
    (λ u. u)

-- a report is put among the waiting: one more waits, in the memory cell of its place
module _ (s : Store) (w : WellFormed s) (r : ℕ) (h : 1 ≤ r) (g : Option Report → Option Report) (f : Fix) (b : Bool)
    (put : g (find s.waiting r) ≡ Some (record { fix = f; new = b })) where
  pub put_few : length (alter g r s.waiting) ≤ full_memory
  put_few = omega (arith, length-alter-le g 0 r s.waiting h w.waiting_rises, w.few_wait)

  pub put_boxes : (n : Box) → same_box n (box_of s.cuts f.place) ≡ false → waiting_in s.cuts (alter g r s.waiting) n < full_box
  put_boxes n t =
      omega (
        arith,
        waiting_new s.cuts g r s.waiting (record { fix = f; new = b }) n h w.waiting_rises put,
        w.few_in_box n,
        ap one_if (box_other n (box_of s.cuts f.place) t),
      )

  pub put_Bounded : Bounded s.memo s.cells (length (alter g r s.waiting)) (s.tally + 1)
  put_Bounded =
      Bounded_record s.memo s.memo s.cells (length s.waiting) (length (alter g r s.waiting)) s.tally (well_Bounded s w)
      (λ k. omega (arith, length-alter-le g 0 r s.waiting h w.waiting_rises))

pub on_Core : (s : Store) (w : WellFormed s) (r : ℕ) (f : Fix) → 1 ≤ r → r ≤ max_radio → InSquare f.place → is_on s r ≡ false → on_count s < max_on → f.minute ≤ s.highest → Core (signed_on r f s)
unfolding signed_on is_on on_count
on_Core s w r f h k q off room early =
    let c = well_Core s w in
    record {
      tiling = c.tiling;
      books = Books_ext (marks_signed_on r f s.waiting h w.waiting_rises) (on_signed_on r s.on h w.rising_on) (Books_on r off c.books);
      paged = c.paged;
      signed = signed_on_lem r s.on h k room c.signed;
      waits = Waits-alter s.waiting s.on c.waits r h k (λ _. Some (record { fix = f; new = true })) (insert r tt s.on)
          (λ v e. subst (λ (z : Report). InSquare z.fix.place) (some_injective e) q)
          (λ v e u. absurd (not_marked v e u))
          (λ n z. rw (find-alter (λ _. Some tt) 0 r n s.on h w.rising_on, ne_eqb n r z));
      dated = Dated_put s c.dated r f early (λ _. Some (record { fix = f; new = true })) (λ o v e. ap (λ (z : Report). z.fix) (sym (some_injective e)));
    }
  where
    not_marked : (v : Report) → Some (record { fix = f; new = true }) ≡ Some v → v.new ≡ false → ⊥
    not_marked v e u = false-true (sym u ∙ sym (ap (λ (x : Report). x.new) (some_injective e)))

pub report_Core : (s : Store) (w : WellFormed s) (r : ℕ) (f : Fix) → 1 ≤ r → r ≤ max_radio → InSquare f.place → is_on s r ≡ true → f.minute ≤ s.highest → Core (reported r f s)
unfolding reported is_on
report_Core s w r f h k q on early =
    let c = well_Core s w in
    record {
      tiling = c.tiling;
      books = Books_ext (marks_reported r f s.waiting h w.waiting_rises) (λ n. refl) c.books;
      paged = c.paged;
      signed = c.signed;
      waits = Waits-alter s.waiting s.on c.waits r h k (λ o. Some (record { fix = f; new = was_new o })) s.on
          (λ v e. subst (λ (z : Report). InSquare z.fix.place) (some_injective e) q)
          (λ v e u. on)
          (λ n z. refl);
      dated = Dated_put s c.dated r f early (λ o. Some (record { fix = f; new = was_new o })) (λ o v e. ap (λ (z : Report). z.fix) (sym (some_injective e)));
    }

pub off_Core : (s : Store) (w : WellFormed s) (r : ℕ) → 1 ≤ r → r ≤ max_radio → is_on s r ≡ true → Core (signed_off r s)
unfolding signed_off is_on
off_Core s w r h k on =
    let c = well_Core s w in
    record {
      tiling = c.tiling;
      books = Books_ext (marks_signed_off r s.waiting h w.waiting_rises) (on_signed_off r s.on h w.rising_on) (Books_off r h k on c.books);
      paged = c.paged;
      signed = signed_off_lem r s.on h k c.signed;
      waits = Waits-alter s.waiting s.on c.waits r h k (λ _. None) (alter (λ _. None) r s.on)
          (λ v e. none-some e)
          (λ v e u. none-some e)
          (λ n z. rw (find-alter (λ _. None) 0 r n s.on h w.rising_on, ne_eqb n r z));
      dated = Dated_off s c.dated r;
    }

-- ---- sign-on, report, sign-off

-- a flush leaves the tally
pub after_tally : (p : Place) (s : Store) → (after_report p s).tally ≡ s.tally
unfolding after_report
after_tally p s =
    option_cases (flush_due s p)
    (λ e. rw e)
    (λ m e. rw e (flush_cases (λ t. t.tally ≡ s.tally) m s (λ n. refl) (λ d n. reshaped-tally (flushed_into m s d) ∙ flushed_tally m d)))
  where
    flushed_tally : (m : Box) (d : Cell) → (flushed_into m s d).store.tally ≡ s.tally
    flushed_tally m d = unfold flushed_into in refl

report_well : (p : Place) (s : Store) → Core s → Bounded s.memo s.cells (length s.waiting) (s.tally + 1) → s.tally < sweep_every → length s.waiting ≤ full_memory
    → ((n : Box) → same_box n (box_of s.cuts p) ≡ false → waiting_in s.cuts s.waiting n < full_box) → WellFormed (tick (after_report p s))
report_well p s k b t few boxes =
    tick_well (after_report p s) (subst (λ (c : ℕ). c < sweep_every) (sym (after_tally p s)) t)
    (subst (λ (c : ℕ). MidCallRoomy (after_report p s) (c + 1)) (sym (after_tally p s)) (report_done p s (s.tally + 1) k b (omega arith) few boxes))

on_well : (s : Store) (w : WellFormed s) (r : ℕ) (f : Fix) → 1 ≤ r → r ≤ max_radio → InSquare f.place → is_on s r ≡ false → on_count s < max_on → f.minute ≤ s.highest
    → WellFormed (tick (after_report f.place (signed_on r f s)))
unfolding signed_on
on_well s w r f h k q off room early =
    let g : Option Report → Option Report = λ _. Some (record { fix = f; new = true }) in
    report_well f.place (signed_on r f s) (on_Core s w r f h k q off room early) (put_Bounded s w r h g f true refl) w.tallied (put_few s w r h g f true refl) (put_boxes s w r h g f true refl)

report_on_well : (s : Store) (w : WellFormed s) (r : ℕ) (f : Fix) → 1 ≤ r → r ≤ max_radio → InSquare f.place → is_on s r ≡ true → f.minute ≤ s.highest
    → WellFormed (tick (after_report f.place (reported r f s)))
unfolding reported
report_on_well s w r f h k q on early =
    let g : Option Report → Option Report = λ o. Some (record { fix = f; new = was_new o }) in
    let b = was_new (find s.waiting r) in
    report_well f.place (reported r f s) (report_Core s w r f h k q on early) (put_Bounded s w r h g f b refl) w.tallied (put_few s w r h g f b refl) (put_boxes s w r h g f b refl)

-- before the tally
pub off_done : (s : Store) (w : WellFormed s) (r : ℕ) → 1 ≤ r → r ≤ max_radio → is_on s r ≡ true → MidCallRoomy (signed_off r s) ((signed_off r s).tally + 1)
unfolding signed_off is_on
off_done s w r h k on =
    let less = length-alter (λ _. None) 0 r s.waiting h w.waiting_rises in
    record {
      mid = record {
        core = off_Core s w r h k on;
        bounded =
            Bounded_record s.memo _ s.cells (length s.waiting) (length (alter (λ _. None) r s.waiting)) s.tally (well_Bounded s w)
            (λ j. omega (arith, stale_off r h k on (well_Core s w).books j, less, one_if-le (not (was_new (find s.waiting r)))));
      };
      roomy = record {
        few = omega (arith, less, w.few_wait);
        boxes = λ n. omega (arith, waiting_less s.cuts (λ _. None) r s.waiting n h w.waiting_rises refl, w.few_in_box n);
      };
    }

off_well : (s : Store) (w : WellFormed s) (r : ℕ) → 1 ≤ r → r ≤ max_radio → is_on s r ≡ true → WellFormed (tick (signed_off r s))
off_well s w r h k on = tick_well (signed_off r s) (off_early s w r) (off_done s w r h k on)
  where
    off_early : (s : Store) → WellFormed s → (r : ℕ) → (signed_off r s).tally < sweep_every
    off_early s w r = unfold signed_off in w.tallied

-- ---- any call

pub answered-store : (l : Rows Place) (s : Store) (buffer : List ℕ) → (answered l s buffer).store ≡ s
unfolding answered
answered-store l s buffer = by_cases (ltb (length buffer) (list_bytes * length l)) (λ t. rw t) (λ t. rw t)

done_well : (q : Request) (s : Store) (buffer : List ℕ) → WellFormed s → Accepted s.highest (is_on s) (on_count s) q → WellFormed (carried_out q s buffer).store
unfolding carried_out is_on on_count
done_well q s buffer w (on_passed r f h k i off room late) =
    on_well (with_highest f.minute s) (later_well s w f.minute late) r f h k i off room (omega arith)
done_well q s buffer w (report_passed r f h k i on late) =
    report_on_well (with_highest f.minute s) (later_well s w f.minute late) r f h k i on (omega arith)
done_well q s buffer w (off_passed r minute h k on late) = off_well (with_highest minute s) (later_well s w minute late) r h k on
done_well q s buffer w (range_passed rect minute) = subst WellFormed (sym (answered-store (found s rect minute) s buffer)) w

pub step_well : (s : Store) (bytes buffer : List ℕ) → Bytes bytes → WellFormed s → WellFormed (carry s bytes buffer).store
unfolding carry
step_well s bytes buffer small w =
    by_cases (eqb (refusal s.highest (is_on s) (on_count s) bytes) 0)
    (λ t. rw t (done_well (request_of bytes) s buffer w (accepted s.highest (is_on s) (on_count s) bytes small (eqb-true (refusal s.highest (is_on s) (on_count s) bytes) 0 t))))
    (λ t. rw t w)
