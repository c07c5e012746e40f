-- The link between the store and the plain rule is kept by every call.
use mathlib.Core.Bool.{Bool, true, false, not, cond}
use mathlib.Core.List.{List, ◌∷◌}
use Rattle.std.specs.Prelude.{Option, None, Some}
use mathlib.Core.Path.{◌≡◌, refl, sym, ap, ◌∙◌, subst}
use Prim.Native.Nat.{ℕ, ◌+◌, ◌≤◌, ◌<◌}
use native.Mathlib.Omega.{arith}
use lib.ListN.{length}
use lib.Dec.{eqb, ltb}
use borrow.Author.Tests.{eqb-true}
use Rattle.terms.specs.Terms.{Place, Fix}
use Rattle.lists.specs.Rows.{Rows, Rising, find}
use Rattle.lists.specs.Sums.{filter}
use Rattle.lists.specs.Tests.{both, is_some}
use Rattle.lists.proofs.Cases.{by_cases, option_cases, list_cases, none-some, is_some-false, false-true}
use Rattle.lists.proofs.TestsLaws.{both_right, not-true}
use Rattle.lists.proofs.RowsLaws.{find-alter, find-filter, Rising-filter}
use Rattle.rules.specs.Limits.{sweep_every, full_box, full_memory}
use Rattle.rules.specs.Grid.{Box, corner_of, inside, same_box, box_of}
use Rattle.rules.specs.Store.{Report, Line, Cell, Store, with_highest}
use Rattle.rules.specs.Sweep.{swept_entries, swept, swept_memo, sweep_front, tick}
use Rattle.rules.specs.Flush.{raised, entered, in_box, Flushed, flushed_into, flush}
use Rattle.rules.specs.Carry.{is_on, was_new, fix_of, stored_in, signed_off, flush_due, after_report, on_count, waiting_in, signed_on, reported, found, carried_out, carry}
use Rattle.rules.specs.Plain.{Plain, plain_on, place_of, plain_in, plain_flush, plain_after, plain_off, plain_place, plain_at, plain_done, plain_step}
use Rattle.rules.specs.WellFormed.{WellFormed}
use Rattle.rules.specs.Records.{Request, request_of, refusal}
use Rattle.rules.specs.Parts.{Books, Core, marks, on_set, Bounded}
use Rattle.lists.specs.Words.{Bytes}
use Rattle.lists.specs.Among.{Among}
use Rattle.rules.proofs.WellLaws.{well_Core, later_well}
use Rattle.rules.proofs.LiveLaws.{find-enter_each-memo, swept_memo-last}
use Rattle.rules.proofs.FlushLaws.{report_found}
use Rattle.rules.proofs.RecordLaws.{Accepted, on_passed, report_passed, off_passed, range_passed, accepted}
use Rattle.rules.proofs.StepLaws.{report_done, on_Core, report_Core, off_Core, put_few, put_boxes, put_Bounded, answered-store}
use Rattle.rules.proofs.LatestLaws.{Leaves, swept-others, Books-others, stored_in_lem, stored_out, flushes, front_Books, stored_front, stored_off}
use Rattle.rules.proofs.LinkLaws.{Link, due_same, Link_at, Link-on, Link_report, refusal_same}

-- ---- sign-off

-- a report marked new: nothing of its radio was flushed
unflushed : (s : Store) (x : Plain) → Link s x → (r : ℕ) → was_new (find s.waiting r) ≡ true → x.flushed r ≡ None
unflushed s x k r u = is_some-false (x.flushed r) (not-true (is_some (x.flushed r)) (both_right (x.waits r) (not (is_some (x.flushed r))) (sym (k.marked r) ∙ u)))

raised-last : (o : Option Line) (l : Line) → raised None o ≡ Some l → l.last ≡ None
raised-last None l e = let z : record { missed = 1; last = None } ≡ l = cc in sym (ap (λ (y : Line). y.last) z)
raised-last (Some k) l e = let z : record { missed = k.missed + 1; last = None } ≡ l = cc in sym (ap (λ (y : Line). y.last) z)

pub Link_off : (s : Store) (x : Plain) → Link s x → (r : ℕ) → 1 ≤ r → WellFormed s → Link (signed_off r s) (plain_off r x)
unfolding signed_off plain_off is_on plain_on
Link_off s x k r h w = record {
  on = λ q. rw (find-alter (λ _. None) 0 r q s.on h w.rising_on) (by_cases (eqb q r) (λ t. rw t) (λ t. rw t (k.on q)));
  waiting = λ q. rw (find-alter (λ _. None) 0 r q s.waiting h w.waiting_rises) (by_cases (eqb q r) (λ t. rw t) (λ t. rw t (k.waiting q)));
  marked = λ q. unfold both in rw (find-alter (λ _. None) 0 r q s.waiting h w.waiting_rises) (by_cases (eqb q r) (λ t. rw t) (λ t. rw t (k.marked q)));
  stored = λ q. ap place_of (stored_off s (well_Core s w) r h q) ∙ by_cases (eqb q r) (λ t. rw t) (λ t. rw t (k.stored q));
  lines = λ q l. by_cases (was_new (find s.waiting r))
      (λ u. rw u (λ e. k.lines q l e ∙ by_cases (eqb q r) (λ t. rw (t, eqb-true q r t) (unflushed s x k r u)) (λ t. rw t)))
      (λ u. rw (u, find-alter (raised None) 0 r q s.memo h w.memo_rises) (by_cases (eqb q r)
      (λ t. rw t (raised-last (find s.memo q) l))
      (λ t. rw t (λ e. k.lines q l e))));
  quiet = λ q e. stored_off s (well_Core s w) r h q ∙ by_cases (eqb q r) (λ t. rw t) (λ t. rw t (k.quiet q (rw t at e)));
  waits_on = λ q. by_cases (eqb q r) (λ t. rw t (λ e. cc)) (λ t. rw t (k.waits_on q));
  minute = k.minute;
}

-- ---- the tally

module _ (s : Store) (x : Plain) (k : Link s x) (b : Books s.cells s.memo (marks s.waiting) (on_set s.on)) (d : Cell) (cs : List Cell) (e : s.cells ≡ d ∷ cs) where
  Link_front : Link (sweep_front (d ∷ cs) s) x
  unfolding sweep_front is_on
  Link_front = record {
    on = k.on;
    waiting = k.waiting;
    marked = k.marked;
    stored = λ q. ap place_of (stored_front s b d cs e q) ∙ k.stored q;
    lines = λ q l z.
        let o = swept_memo-last q s.memo d.entries (front_Books s b d cs e).cells_rowed.0.rising b.memo_rises l z in
        sym o.2 ∙ k.lines q o.0 o.1;
    quiet = λ q f. stored_front s b d cs e q ∙ k.quiet q f;
    waits_on = k.waits_on;
    minute = k.minute;
  }

pub Link-tick : (s : Store) (x : Plain) → Link s x → Books s.cells s.memo (marks s.waiting) (on_set s.on) → Link (tick s) x
unfolding tick is_on
Link-tick s x k b =
    by_cases (ltb (s.tally + 1) sweep_every)
    (λ t. rw t (record { on = k.on; waiting = k.waiting; marked = k.marked; stored = k.stored; lines = k.lines; quiet = k.quiet; waits_on = k.waits_on; minute = k.minute }))
    (λ t. rw t (list_cases s.cells
    (λ e. subst (λ (l : List Cell). Link (sweep_front l s) x) (sym e) (unfold sweep_front in k))
    (λ d cs e. subst (λ (l : List Cell). Link (sweep_front l s) x) (sym e) (Link_front s x k b d cs e))))

-- ---- a flush: the reports of m

-- what a plain flush does to one radio, from its waiting report
module _ (s : Store) (x : Plain) (k : Link s x) (m : Box) where
  -- its report waits in m
  report_in : (r : ℕ) (w : Report) → find s.waiting r ≡ Some w → (x.waits r ≡ true) × (x.latest r ≡ Some w.fix) × (plain_in s.cuts x m r ≡ in_box s.cuts m (record { key = r; val = w }))
  unfolding plain_in in_box plain_on both
  report_in r w e =
      let p : Some w.fix ≡ cond (x.waits r) (x.latest r) None = sym (ap fix_of e) ∙ k.waiting r in
      by_cases (x.waits r)
      (λ t. let l : x.latest r ≡ Some w.fix = sym (p ∙ rw t refl) in (t, l, rw (t, l)))
      (λ t. none-some (sym (p ∙ rw t refl)))

  -- none of its waits in m
  report_out : (r : ℕ) → find s.waiting r ≡ None → x.waits r ≡ false
  unfolding plain_on
  report_out r e =
      by_cases (x.waits r)
      (λ t. let l : x.latest r ≡ None = sym (sym (ap fix_of e) ∙ k.waiting r ∙ rw t refl) in let o = k.waits_on r t in absurd (let z : ◌≡◌ {A = ℕ} 0 1 = cc in omega arith))
      (λ t. t)

entered-last : (b n : Bool) (p : Place) (o : Option Line) (l : Line) → entered b n p o ≡ Some l → l.last ≡ Some p
entered-last true n p None l e = none-some e
entered-last true n p (Some k) l e = let z : record { missed = k.missed; last = Some p } ≡ l = cc in sym (ap (λ (y : Line). y.last) z)
entered-last false true p None l e = none-some e
entered-last false true p (Some k) l e = let z : record { missed = k.missed; last = Some p } ≡ l = cc in sym (ap (λ (y : Line). y.last) z)
entered-last false false p None l e = let z : record { missed = 1; last = Some p } ≡ l = cc in sym (ap (λ (y : Line). y.last) z)
entered-last false false p (Some k) l e = let z : record { missed = k.missed + 1; last = Some p } ≡ l = cc in sym (ap (λ (y : Line). y.last) z)

module _ (s : Store) (x : Plain) (k : Link s x) (m : Box) (d : Cell) (c : Core s) (a : Among s.cells d) (home : inside d.edges (corner_of s.cuts m) ≡ true) where
  abbrev flushed_here : Flushed
  flushed_here = flushed_into m s d

  rises : Rising 0 s.waiting
  rises = c.waits.waiting_rises

  -- no report of the radio goes in
  stays_out : (r : ℕ) → find (filter (in_box s.cuts m) s.waiting) r ≡ None → plain_in s.cuts x m r ≡ false
  stays_out r e =
      option_cases (find s.waiting r)
      (λ n. unfold plain_in both in rw (report_out s x k m r n))
      (λ w n. (report_in s x k m r w n).2 ∙ by_cases (in_box s.cuts m (record { key = r; val = w }))
      (λ t. none-some {a = w} (sym e ∙ find-filter (in_box s.cuts m) 0 r s.waiting rises ∙ rw (n, t) refl))
      (λ t. t))

  goes_in : (r : ℕ) (w : Report) → find (filter (in_box s.cuts m) s.waiting) r ≡ Some w → (plain_in s.cuts x m r ≡ true) × (x.latest r ≡ Some w.fix)
  goes_in r w e =
      let q = report_found m s d c a home r w e in
      let i = report_in s x k m r w q.0 in
      (i.2 ∙ q.1, i.1)

  -- ---- the waiting

  kept_place : (r : ℕ) → fix_of (find (filter (λ w. not (in_box s.cuts m w)) s.waiting) r) ≡ cond (cond (plain_in s.cuts x m r) false (x.waits r)) (x.latest r) None
  kept_place r =
      rw (find-filter (λ w. not (in_box s.cuts m w)) 0 r s.waiting rises) (option_cases (find s.waiting r)
      (λ n. rw (n, report_out s x k m r n) (never (plain_in s.cuts x m r) (x.latest r)))
      (λ w n. let i = report_in s x k m r w n in rw (n, i.2, i.0, i.1) (by_cases (in_box s.cuts m (record { key = r; val = w })) (λ t. rw t) (λ t. rw t))))
    where
      never : (b : Bool) (o : Option Fix) → None ≡ cond (cond b false false) o None
      never true o = refl
      never false o = refl

  kept_mark : (r : ℕ) → was_new (find (filter (λ w. not (in_box s.cuts m w)) s.waiting) r)
      ≡ both (cond (plain_in s.cuts x m r) false (x.waits r)) (not (is_some (cond (plain_in s.cuts x m r) (place_of (x.latest r)) (x.flushed r))))
  kept_mark r =
      rw (find-filter (λ w. not (in_box s.cuts m w)) 0 r s.waiting rises) (option_cases (find s.waiting r)
      (λ n. rw (n, report_out s x k m r n) (never (plain_in s.cuts x m r) _))
      (λ w n. let i = report_in s x k m r w n in rw (n, i.2) (by_cases (in_box s.cuts m (record { key = r; val = w }))
      (λ t. rw t (gone _))
      (λ t. rw t (sym (ap was_new n) ∙ k.marked r)))))
    where
      never : (b c : Bool) → false ≡ both (cond b false false) c
      never true c = unfold both in refl
      never false c = unfold both in refl

      gone : (c : Bool) → false ≡ both false c
      gone true = unfold both in refl
      gone false = unfold both in refl

  -- ---- the entries and the lines

  flushed_stored : (t : Store) → Leaves flushed_here t → (q : ℕ) → stored_in t.memo q t.cells ≡ cond (plain_in s.cuts x m q) (x.latest q) (stored_in s.memo q s.cells)
  flushed_stored t v q =
      option_cases (find (filter (in_box s.cuts m) s.waiting) q)
      (λ n. rw (stays_out q n) (stored_out m s d c a home t v q n))
      (λ w n. let g = goes_in q w n in rw (g.0, g.1) (stored_in_lem m s d c a home t v q w n))

  flushed_line : (q : ℕ) (l : Line) → find flushed_here.store.memo q ≡ Some l → l.last ≡ cond (plain_in s.cuts x m q) (place_of (x.latest q)) (x.flushed q)
  unfolding flushed_into
  flushed_line q l e =
      let ws = filter (in_box s.cuts m) s.waiting in
      let b = (swept-others m s d c a home).cells_rowed.0.rising in
      let z = sym (find-enter_each-memo q 0 ws (record { entries = swept_entries s.memo d.entries; memo = swept_memo s.memo d.entries }) (Rising-filter (in_box s.cuts m) 0 s.waiting rises)
      (unfold swept in b) (swept-others m s d c a home).memo_rises) ∙ e in
      option_cases (find ws q)
      (λ n. rw (stays_out q n)
      (let o = swept_memo-last q s.memo d.entries (Books-others m s d c a home).cells_rowed.0.rising c.books.memo_rises l (rw n at z) in
      sym o.2 ∙ k.lines q o.0 o.1))
      (λ w n. let g = goes_in q w n in rw (g.0, g.1) (entered-last (is_some (find (swept_entries s.memo d.entries) q)) w.new w.fix.place (find (swept_memo s.memo d.entries) q) l (rw n at z)))

  pub Link-Leaves : (t : Store) → Leaves flushed_here t → Link t (plain_flush s.cuts (Some m) x)
  unfolding is_on plain_on
  Link-Leaves t v = record {
    on = λ q. ap (λ (l : Rows (Unit {0})). is_some (find l q)) (v.on ∙ flushed_on) ∙ k.on q;
    waiting = λ q. ap (λ (l : Rows Report). fix_of (find l q)) (v.waiting ∙ flushed_waiting) ∙ kept_place q;
    marked = λ q. ap (λ (l : Rows Report). was_new (find l q)) (v.waiting ∙ flushed_waiting) ∙ kept_mark q;
    stored = λ q. ap place_of (flushed_stored t v q) ∙ by_cases (plain_in s.cuts x m q) (λ u. rw u) (λ u. rw u (k.stored q));
    lines = λ q l e. let o = v.lines q l e in sym o.2 ∙ flushed_line q o.0 o.1;
    quiet = λ q e. flushed_stored t v q ∙ by_cases (plain_in s.cuts x m q) (λ u. rw u) (λ u. rw u (k.quiet q (rw u at e)));
    waits_on = λ q. by_cases (plain_in s.cuts x m q) (λ u. rw u false-true) (λ u. rw u (k.waits_on q));
    minute = v.minute ∙ flushed_minute ∙ k.minute;
  }
    where
      flushed_minute : flushed_here.store.highest ≡ s.highest
      flushed_minute = unfold flushed_into in refl

      flushed_on : flushed_here.store.on ≡ s.on
      flushed_on = unfold flushed_into in refl

      flushed_waiting : flushed_here.store.waiting ≡ filter (λ w. not (in_box s.cuts m w)) s.waiting
      flushed_waiting = unfold flushed_into in refl

pub Link-flush : (m : Box) (s : Store) (x : Plain) → Link s x → Core s → Link (flush m s) (plain_flush s.cuts (Some m) x)
Link-flush m s x k c =
    let f = flushes m s c in
    Link-Leaves s x k m f.cell c f.among f.home (flush m s) f.leaves

-- ---- any call

pub Link_after : (p : Place) (s : Store) (x : Plain) → Link s x → Core s → Link (after_report p s) (plain_after s.cuts p x)
unfolding after_report plain_after
Link_after p s x k c =
    rw (← due_same s x k c.waits p) (option_cases (flush_due s p)
    (λ e. rw e k)
    (λ m e. rw e (Link-flush m s x k c)))

report_Link : (p : Place) (s : Store) (x : Plain) → Link s x → Core s → Bounded s.memo s.cells (length s.waiting) (s.tally + 1) → s.tally < sweep_every
    → length s.waiting ≤ full_memory → ((n : Box) → same_box n (box_of s.cuts p) ≡ false → waiting_in s.cuts s.waiting n < full_box)
    → Link (tick (after_report p s)) (plain_after s.cuts p x)
report_Link p s x l k b t few boxes =
    Link-tick (after_report p s) (plain_after s.cuts p x) (Link_after p s x l k) (report_done p s (s.tally + 1) k b (omega arith) few boxes).mid.core.books

done_Link : (q : Request) (s : Store) (x : Plain) (buffer : List ℕ) → WellFormed s → Link s x → Accepted s.highest (is_on s) (on_count s) q
    → Link (carried_out q s buffer).store (plain_done s.cuts q x)
unfolding carried_out plain_done signed_on reported is_on on_count
done_Link q s x buffer w l (on_passed r f h k i off room late) =
    let s' = with_highest f.minute s in
    let w' = later_well s w f.minute late in
    let x' = plain_at f.minute x in
    let g : Option Report → Option Report = λ _. Some (record { fix = f; new = true }) in
    report_Link f.place (signed_on r f s') (plain_place r f x') (Link-on s' x' (Link_at f.minute s x l) r f h (well_Core s w).signed (well_Core s w).waits off)
    (on_Core s' w' r f h k i off room (omega arith)) (put_Bounded s' w' r h g f true refl) w.tallied (put_few s' w' r h g f true refl) (put_boxes s' w' r h g f true refl)
done_Link q s x buffer w l (report_passed r f h k i on late) =
    let s' = with_highest f.minute s in
    let w' = later_well s w f.minute late in
    let x' = plain_at f.minute x in
    let g : Option Report → Option Report = λ o. Some (record { fix = f; new = was_new o }) in
    let b = was_new (find s.waiting r) in
    report_Link f.place (reported r f s') (plain_place r f x') (Link_report s' x' (Link_at f.minute s x l) r f h (well_Core s w).waits on)
    (report_Core s' w' r f h k i on (omega arith)) (put_Bounded s' w' r h g f b refl) w.tallied (put_few s' w' r h g f b refl) (put_boxes s' w' r h g f b refl)
done_Link q s x buffer w l (off_passed r minute h k on late) =
    let s' = with_highest minute s in
    let w' = later_well s w minute late in
    Link-tick (signed_off r s') (plain_off r (plain_at minute x)) (Link_off s' (plain_at minute x) (Link_at minute s x l) r h w') (off_Core s' w' r h k on).books
done_Link q s x buffer w l (range_passed rect minute) = subst (λ (t : Store). Link t x) (sym (answered-store (found s rect minute) s buffer)) l

pub step_Link : (s : Store) (x : Plain) (bytes buffer : List ℕ) → Bytes bytes → WellFormed s → Link s x
    → Link (carry s bytes buffer).store (plain_step s.cuts bytes x)
unfolding carry plain_step
step_Link s x bytes buffer small w l =
    rw (← refusal_same s x l (well_Core s w).signed bytes) (by_cases (eqb (refusal s.highest (is_on s) (on_count s) bytes) 0)
    (λ t. rw t (done_Link (request_of bytes) s x buffer w l (accepted s.highest (is_on s) (on_count s) bytes small (eqb-true (refusal s.highest (is_on s) (on_count s) bytes) 0 t))))
    (λ t. rw t l))
