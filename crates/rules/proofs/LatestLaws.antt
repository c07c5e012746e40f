-- The latest place of each radio through every step, from any well-formed store: a record changes its own radio's, and nothing else changes any.
use mathlib.Core.Bool.{Bool, true, false, not, cond}
use mathlib.Core.List.{List, [], ◌∷◌, ◌++◌, map}
use Rattle.std.specs.Prelude.{Option, None, Some}
use mathlib.Core.Path.{◌≡◌, refl, sym, ap, ◌∙◌, subst, ap₂}
use Prim.Native.Nat.{ℕ, ◌+◌, ◌≤◌, ◌<◌}
use native.Mathlib.Omega.{arith}
use lib.ListN.{length}
use lib.Dec.{eqb, ltb}
use borrow.Author.Tests.{eqb-true, eqb-false}
use Rattle.terms.specs.Terms.{Place, Fix}
use Rattle.lists.specs.Rows.{Rows, Rising, find, alter, passed}
use Rattle.lists.specs.Sums.{sum_by, filter, count}
use Rattle.lists.specs.Tests.{or_else, one_if}
use Rattle.lists.proofs.Cases.{by_cases, option_cases, list_cases, none-some}
use Rattle.lists.proofs.AmongLaws.{sum-Among, Among_tail}
use Rattle.lists.proofs.SumsLaws.{sum-cons}
use Rattle.lists.proofs.TestsLaws.{one_if-le}
use Rattle.lists.proofs.RowsLaws.{find-alter, find-filter}
use Rattle.rules.specs.Limits.{sweep_every, full_box, full_memory}
use Rattle.rules.specs.Grid.{Box, corner_of, inside, same_box, box_of}
use Rattle.rules.specs.Store.{Report, Line, Cell, Store, others, settled, free_after, with_highest}
use Rattle.rules.specs.Sweep.{swept, swept_memo, sweep_front, tick}
use Rattle.rules.specs.Cut.{Cut}
use Rattle.rules.specs.Flush.{joined, raised, in_box, Flushed, flushed_into, grown, low_cell, high_cell, unused_number, split_at, joined_with, reshaped, cell_of_box, flush}
use Rattle.rules.specs.Carry.{is_on, was_new, fix_of, stored_in, signed_off, flush_due, after_report, on_count, waiting_in, signed_on, reported, found, carried_out, carry, latest}
use Rattle.rules.specs.WellFormed.{WellFormed}
use Rattle.rules.specs.Records.{Request, sign_on, report, sign_off, range, request_of, refusal}
use Rattle.rules.specs.Parts.{Books, Clean, Core, marks, on_set, Bounded}
use Rattle.lists.specs.Words.{Bytes}
use Rattle.lists.specs.Among.{Among}
use Rattle.rules.proofs.WellLaws.{well_Core, later_well}
use Rattle.rules.proofs.LiveLaws.{live_by, stored_none, stored_at, stored_same, live_one, live_order, live_back, live_swap, live_settled, live_sweep, live_off, live_off_other, live_split, live_join, live_flushed, live_flushed_other, swept_memo-last}
use Rattle.rules.proofs.BooksLaws.{Books_swap, Books_sweep, Clean-swept, stale_sweep, Books-Among}
use Rattle.rules.proofs.NeighbourLaws.{neighbour-Near}
use Rattle.rules.proofs.TilingLaws.{cell_at_split, home_some, others-Among, round_others}
use Rattle.rules.proofs.CutLaws.{reshaped_cases}
use Rattle.rules.proofs.FlushLaws.{rest_is, tiled, Books-before, Books_flushed, Clean_flushed, report_found, report_Enters}
use Rattle.rules.proofs.RecordLaws.{Accepted, on_passed, report_passed, off_passed, range_passed, accepted}
use Rattle.rules.proofs.StepLaws.{report_done, on_Core, report_Core, off_Core, put_few, put_boxes, put_Bounded, answered-store}

-- ---- a flush: what follows the entering leaves the live entries and the lines' places

-- d and the other cells, once the reports are in, and the store that a step makes of them
pub record Leaves (f : Flushed) (s : Store) : Type 0 where
  pub live : (t : Fix → Bool) (q : ℕ) → live_by t s.memo q s.cells ≡ live_by t f.store.memo q (f.cell ∷ f.rest)
  pub lines : (q : ℕ) (l : Line) → find s.memo q ≡ Some l → (k : Line) × (find f.store.memo q ≡ Some k) × (k.last ≡ l.last)
  pub waiting : s.waiting ≡ f.store.waiting
  pub on : s.on ≡ f.store.on
  pub minute : s.highest ≡ f.store.highest

module _ (f : Flushed) (b : Books (f.cell ∷ f.rest) f.store.memo (marks f.store.waiting) (on_set f.store.on)) (clean : Clean f.store.memo f.cell) where
  Leaves-grown : Leaves f (grown f)
  unfolding grown
  Leaves-grown = record {
    live = λ t q. live_back t f.store.memo q f.rest (settled f.store.free f.cell ∷ []) ∙ live_settled t f.store.memo q f.store.free f.cell f.rest;
    lines = λ q l e. (l, e, refl);
    waiting = refl;
    on = refl;
    minute = refl;
  }

  Leaves_split : (c : Cut) → Leaves f (split_at c f)
  unfolding split_at
  Leaves_split c =
      let low : Cell = low_cell c f.cell in
      let high : Cell = high_cell c (unused_number f.store.cells) f.cell in
      let laid : Cell = settled (free_after f.store.free low) high in
      record {
        live = λ t q.
            live_back t f.store.memo q f.rest (settled f.store.free low ∷ laid ∷ [])
            ∙ live_settled t f.store.memo q f.store.free low (laid ∷ f.rest)
            ∙ live_swap t f.store.memo q low laid f.rest
            ∙ live_settled t f.store.memo q (free_after f.store.free low) high (low ∷ f.rest)
            ∙ live_swap t f.store.memo q high low f.rest
            ∙ live_split f.cell f.rest f.store.memo c (unused_number f.store.cells) b.cells_rowed.0.rising t q;
        lines = λ q l e. (l, e, refl);
        waiting = refl;
        on = refl;
        minute = refl;
      }

  -- m stands among the others; it is swept, d being one of the others, and joined
  module _ (m : Cell) (a : Among f.rest m) (left_is : others m.number f.rest ≡ a.before ++ a.after) where
    abbrev left : List Cell
    left = a.before ++ a.after

    Books_apart : Books (m ∷ f.cell ∷ left) f.store.memo (marks f.store.waiting) (on_set f.store.on)
    Books_apart = Books-Among (Among_tail f.cell a) b

    abbrev memo_then : Rows Line
    memo_then = swept_memo f.store.memo m.entries

    join_live : (t : Fix → Bool) (q : ℕ) → live_by t memo_then q (joined f m ∷ left) ≡ live_by t f.store.memo q (f.cell ∷ f.rest)
    unfolding settled swept
    join_live t q =
        live_join f.cell (swept f.store.memo m) (joined f m) left memo_then (marks f.store.waiting) (on_set f.store.on)
        (Books_swap (swept f.store.memo m) f.cell left (Books_sweep m (f.cell ∷ left) Books_apart)) ((stale_sweep m (f.cell ∷ left) Books_apart).0 ∙ clean) (Clean-swept m (f.cell ∷ left) Books_apart) refl t q
        ∙ live_swap t memo_then q f.cell (swept f.store.memo m) left
        ∙ live_sweep m (f.cell ∷ left) f.store.memo (marks f.store.waiting) (on_set f.store.on) Books_apart t q
        ∙ live_order t f.store.memo q (m ∷ f.cell ∷ left) (f.cell ∷ f.rest) (λ g. omega (arith, sum-cons g m (f.cell ∷ left), sum-cons g f.cell left, sum-cons g f.cell f.rest, sum-Among g a))

    Leaves_join : Leaves f (joined_with f m)
    unfolding joined_with
    Leaves_join = record {
      live = λ t q.
          subst (λ (l : List Cell). live_by t memo_then q (l ++ (joined f m ∷ [])) ≡ live_by t f.store.memo q (f.cell ∷ f.rest)) (sym left_is)
          (live_back t memo_then q left (joined f m ∷ []) ∙ join_live t q);
      lines = λ q l e. swept_memo-last q f.store.memo m.entries Books_apart.cells_rowed.0.rising b.memo_rises l e;
      waiting = refl;
      on = refl;
      minute = refl;
    }

  pub Leaves-reshaped : ((n : ℕ) → count n (map (λ c. c.number) f.rest) ≤ 1) → Leaves f (reshaped f)
  Leaves-reshaped round =
      reshaped_cases (Leaves f) f Leaves-grown (λ c h i e. Leaves_split c)
      (λ n h e. let a = (neighbour-Near f n e).among in Leaves_join n a (others-Among f.rest n a round))

-- ---- a flush: the entries of each radio

module _ (m : Box) (s : Store) (d : Cell) (c : Core s) (a : Among s.cells d) (home : inside d.edges (corner_of s.cuts m) ≡ true) where
  abbrev reports_in : Rows Report
  reports_in = filter (in_box s.cuts m) s.waiting

  pub Books-others : Books (d ∷ others d.number s.cells) s.memo (marks s.waiting) (on_set s.on)
  Books-others =
      subst (λ (l : List Cell). Books (d ∷ l) s.memo (marks s.waiting) (on_set s.on)) (sym (others-Among s.cells d a c.tiling.round))
      (Books-before m s d c a home)

  pub swept-others : Books (swept s.memo d ∷ others d.number s.cells) (swept_memo s.memo d.entries) (marks s.waiting) (on_set s.on)
  swept-others = Books_sweep d (others d.number s.cells) Books-others

  others_live : (t : Fix → Bool) (q : ℕ) → live_by t s.memo q (d ∷ others d.number s.cells) ≡ live_by t s.memo q s.cells
  others_live t q =
      live_order t s.memo q (d ∷ others d.number s.cells) s.cells
      (λ g. omega (arith, sum-cons g d (others d.number s.cells), ap (sum_by g) (others-Among s.cells d a c.tiling.round), sum-Among g a))

  -- a radio whose report goes in is stored by it; any other stays where it is
  pub stored_in_lem : (t : Store) → Leaves (flushed_into m s d) t → (q : ℕ) (w : Report) → find reports_in q ≡ Some w → stored_in t.memo q t.cells ≡ Some w.fix
  stored_in_lem t v q w n =
      let f = report_found m s d c a home q w n in
      stored_at t.memo q t.cells w.fix
      (λ p. v.live p q
      ∙ live_flushed m s d (marks s.waiting) (on_set s.on) swept-others c.waits.waiting_rises q w n (report_Enters m s d c a home q w f.0 f.1).here (ap was_new f.0) p)

  pub stored_out : (t : Store) → Leaves (flushed_into m s d) t → (q : ℕ) → find reports_in q ≡ None → stored_in t.memo q t.cells ≡ stored_in s.memo q s.cells
  stored_out t v q n =
      stored_same s.memo t.memo q s.cells t.cells
      (λ p. v.live p q ∙ live_flushed_other m s d (marks s.waiting) (on_set s.on) swept-others Books-others c.waits.waiting_rises q n p ∙ others_live p q)
      (live_one s.cells s.memo (marks s.waiting) (on_set s.on) q c.books)

Books_here : (m : Box) (s : Store) (d : Cell) (c : Core s) (a : Among s.cells d) → inside d.edges (corner_of s.cuts m) ≡ true
    → Books ((flushed_into m s d).cell ∷ (flushed_into m s d).rest) (flushed_into m s d).store.memo (marks (flushed_into m s d).store.waiting) (on_set (flushed_into m s d).store.on)
Books_here m s d c a home =
    subst (λ (l : List Cell). Books ((flushed_into m s d).cell ∷ l) (flushed_into m s d).store.memo (marks (flushed_into m s d).store.waiting) (on_set (flushed_into m s d).store.on))
    (sym (rest_is m s d c a home)) (unfold flushed_into in Books_flushed m s d c a home)

-- a flush with the cell that it finds
pub record Flushes (m : Box) (s : Store) : Type 0 where
  pub cell : Cell
  pub among : Among s.cells cell
  pub home : inside cell.edges (corner_of s.cuts m) ≡ true
  pub leaves : Leaves (flushed_into m s cell) (flush m s)

pub flushes : (m : Box) (s : Store) → Core s → Flushes m s
unfolding flush cell_of_box
flushes m s c =
    let h = home_some s.cuts s.cells m c.tiling in
    let at = cell_at_split s.cells (corner_of s.cuts m) h.0 h.1 in
    record {
      cell = h.0;
      among = at.0;
      home = at.1;
      leaves = rw h.1 (Leaves-reshaped (flushed_into m s h.0) (Books_here m s h.0 c at.0 at.1) (Clean_flushed m s h.0 c at.0 at.1)
          (subst (λ (l : List Cell). (n : ℕ) → count n (map (λ y. y.number) l) ≤ 1) (sym (rest_is m s h.0 c at.0 at.1))
          (round_others at.0.before h.0 at.0.after (tiled m s h.0 c at.0 at.1).round)));
    }

-- a report that does not go in stays
kept_report : (m : Box) (s : Store) → Rising 0 s.waiting → (q : ℕ) → find (filter (in_box s.cuts m) s.waiting) q ≡ None
    → find (filter (λ w. not (in_box s.cuts m w)) s.waiting) q ≡ find s.waiting q
kept_report m s a q n =
    find-filter (λ w. not (in_box s.cuts m w)) 0 q s.waiting a ∙ kept (find s.waiting q) (sym (find-filter (in_box s.cuts m) 0 q s.waiting a) ∙ n)
  where
    kept : (o : Option Report) → passed (in_box s.cuts m) q o ≡ None → passed (λ w. not (in_box s.cuts m w)) q o ≡ o
    kept None = λ e. refl
    kept (Some w) = by_cases (in_box s.cuts m (record { key = q; val = w })) (λ t. rw t (λ e. none-some (sym e))) (λ t. rw t (λ e. refl))

gone_report : (m : Box) (s : Store) → Rising 0 s.waiting → (q : ℕ) (w : Report) → find (filter (in_box s.cuts m) s.waiting) q ≡ Some w
    → find (filter (λ w. not (in_box s.cuts m w)) s.waiting) q ≡ None
gone_report m s a q w n =
    find-filter (λ w. not (in_box s.cuts m w)) 0 q s.waiting a ∙ gone (find s.waiting q) (sym (find-filter (in_box s.cuts m) 0 q s.waiting a) ∙ n)
  where
    gone : (o : Option Report) → passed (in_box s.cuts m) q o ≡ Some w → passed (λ w. not (in_box s.cuts m w)) q o ≡ None
    gone None = λ e. none-some e
    gone (Some v) = by_cases (in_box s.cuts m (record { key = q; val = v })) (λ t. rw t (λ e. refl)) (λ t. rw t (λ e. none-some e))

flushed_waiting : (m : Box) (s : Store) → Flushes m s → (flush m s).waiting ≡ filter (λ w. not (in_box s.cuts m w)) s.waiting
flushed_waiting m s f = f.leaves.waiting ∙ unfold flushed_into in refl

pub latest-flush : (m : Box) (s : Store) → Core s → (q : ℕ) → latest (flush m s) q ≡ latest s q
unfolding latest
latest-flush m s c q =
    let f = flushes m s c in
    let a = c.waits.waiting_rises in
    let w = flushed_waiting m s f in
    option_cases (find (filter (in_box s.cuts m) s.waiting) q)
    (λ n. ap₂ or_else (ap (λ (l : Rows Report). fix_of (find l q)) w ∙ ap fix_of (kept_report m s a q n)) (stored_out m s f.cell c f.among f.home (flush m s) f.leaves q n))
    (λ v n.
    ap₂ or_else (ap (λ (l : Rows Report). fix_of (find l q)) w ∙ ap fix_of (gone_report m s a q v n)) (stored_in_lem m s f.cell c f.among f.home (flush m s) f.leaves q v n)
    ∙ sym (ap (λ (o : Option Report). or_else (fix_of o) (stored_in s.memo q s.cells)) (report_found m s f.cell c f.among f.home q v n).0))

-- ---- the tally

module _ (s : Store) (b : Books s.cells s.memo (marks s.waiting) (on_set s.on)) (d : Cell) (cs : List Cell) (e : s.cells ≡ d ∷ cs) where
  pub front_Books : Books (d ∷ cs) s.memo (marks s.waiting) (on_set s.on)
  front_Books = subst (λ (l : List Cell). Books l s.memo (marks s.waiting) (on_set s.on)) e b

  -- the live entries stay
  front_live : (t : Fix → Bool) (q : ℕ) → live_by t (swept_memo s.memo d.entries) q (cs ++ (settled s.free (swept s.memo d) ∷ [])) ≡ live_by t s.memo q (d ∷ cs)
  front_live t q =
      live_back t (swept_memo s.memo d.entries) q cs (settled s.free (swept s.memo d) ∷ [])
      ∙ live_settled t (swept_memo s.memo d.entries) q s.free (swept s.memo d) cs
      ∙ live_sweep d cs s.memo (marks s.waiting) (on_set s.on) front_Books t q

  pub stored_front : (q : ℕ) → stored_in (swept_memo s.memo d.entries) q (cs ++ (settled s.free (swept s.memo d) ∷ [])) ≡ stored_in s.memo q s.cells
  stored_front q =
      stored_same s.memo (swept_memo s.memo d.entries) q (d ∷ cs) _ (λ t. front_live t q) (live_one (d ∷ cs) s.memo (marks s.waiting) (on_set s.on) q front_Books)
      ∙ ap (stored_in s.memo q) (sym e)

pub latest-tick : (s : Store) → Books s.cells s.memo (marks s.waiting) (on_set s.on) → (q : ℕ) → latest (tick s) q ≡ latest s q
unfolding tick latest
latest-tick s b q =
    by_cases (ltb (s.tally + 1) sweep_every)
    (λ t. rw t)
    (λ t. rw t (list_cases s.cells
    (λ e. subst (λ (l : List Cell). latest (sweep_front l s) q ≡ latest s q) (sym e) (unfold sweep_front in refl))
    (λ d cs e. subst (λ (l : List Cell). latest (sweep_front l s) q ≡ latest s q) (sym e) (unfold sweep_front in ap (or_else (fix_of (find s.waiting q))) (stored_front s b d cs e q)))))

-- ---- the record's own effect

latest_put : (s : Store) → Rising 0 s.waiting → (r : ℕ) (f : Fix) → 1 ≤ r → (g : Option Report → Option Report) → (fix_of (g (find s.waiting r)) ≡ Some f) → (q : ℕ)
    → or_else (fix_of (find (alter g r s.waiting) q)) (stored_in s.memo q s.cells) ≡ cond (eqb q r) (Some f) (latest s q)
unfolding latest
latest_put s a r f h g e q =
    rw (find-alter g 0 r q s.waiting h a) (by_cases (eqb q r)
    (λ t. rw (t, eqb-true q r t, e))
    (λ t. rw t))

pub latest_on : (s : Store) → Rising 0 s.waiting → (r : ℕ) (f : Fix) → 1 ≤ r → (q : ℕ) → latest (signed_on r f s) q ≡ cond (eqb q r) (Some f) (latest s q)
unfolding signed_on
latest_on s a r f h q = unfold latest in latest_put s a r f h (λ _. Some (record { fix = f; new = true })) refl q

pub latest_report : (s : Store) → Rising 0 s.waiting → (r : ℕ) (f : Fix) → 1 ≤ r → (q : ℕ) → latest (reported r f s) q ≡ cond (eqb q r) (Some f) (latest s q)
unfolding reported
latest_report s a r f h q = unfold latest in latest_put s a r f h (λ w. Some (record { fix = f; new = was_new w })) refl q

-- a sign-on that never left memory: none of its radio's entries counts
new_unstored : (s : Store) → Core s → (r : ℕ) → was_new (find s.waiting r) ≡ true → stored_in s.memo r s.cells ≡ None
new_unstored s c r u =
    stored_none s.memo r s.cells (omega (arith, c.books.present r, ap one_if u, one_if-le (on_set s.on r)))

-- nothing of the radio is stored then, and every other stays
pub stored_off : (s : Store) → Core s → (r : ℕ) → 1 ≤ r → (q : ℕ) → stored_in (signed_off r s).memo q s.cells ≡ cond (eqb q r) None (stored_in s.memo q s.cells)
unfolding signed_off
stored_off s c r h q =
    by_cases (eqb q r)
    (λ t. rw (t, eqb-true q r t) (by_cases (was_new (find s.waiting r))
    (λ u. rw u (new_unstored s c r u))
    (λ u. rw u (stored_none (alter (raised None) r s.memo) r s.cells (live_off s.memo r h c.books.memo_rises s.cells)))))
    (λ t. rw t (by_cases (was_new (find s.waiting r))
    (λ u. rw u)
    (λ u. rw u (stored_same s.memo (alter (raised None) r s.memo) q s.cells s.cells (live_off_other s.memo r h c.books.memo_rises s.cells q (eqb-false q r t))
    (live_one s.cells s.memo (marks s.waiting) (on_set s.on) q c.books)))))

pub latest_off : (s : Store) → Core s → (r : ℕ) → 1 ≤ r → (q : ℕ) → latest (signed_off r s) q ≡ cond (eqb q r) None (latest s q)
unfolding latest
latest_off s c r h q =
    ap₂ or_else (ap fix_of waiting_off) (stored_off' ∙ stored_off s c r h q) ∙ by_cases (eqb q r) (λ t. rw t) (λ t. rw t)
  where
    waiting_off : find (signed_off r s).waiting q ≡ cond (eqb q r) None (find s.waiting q)
    waiting_off = unfold signed_off in find-alter (λ _. None) 0 r q s.waiting h c.waits.waiting_rises

    stored_off' : stored_in (signed_off r s).memo q (signed_off r s).cells ≡ stored_in (signed_off r s).memo q s.cells
    stored_off' = unfold signed_off in refl

-- ---- any call

latest_after : (p : Place) (s : Store) → Core s → (q : ℕ) → latest (after_report p s) q ≡ latest s q
unfolding after_report
latest_after p s c q = option_cases (flush_due s p) (λ e. rw e) (λ m e. rw e (latest-flush m s c q))

-- what an accepted record makes of the latest places
unfoldable pub latest_by : Request → (ℕ → Option Fix) → ℕ → Option Fix
latest_by (sign_on r f) before q = cond (eqb q r) (Some f) (before q)
latest_by (report r f) before q = cond (eqb q r) (Some f) (before q)
latest_by (sign_off r minute) before q = cond (eqb q r) None (before q)
latest_by (range rect minute) before q = before q

settled_latest : (p : Place) (s : Store) → Core s → Bounded s.memo s.cells (length s.waiting) (s.tally + 1) → s.tally < sweep_every → length s.waiting ≤ full_memory
    → ((n : Box) → same_box n (box_of s.cuts p) ≡ false → waiting_in s.cuts s.waiting n < full_box) → (q : ℕ) → latest (tick (after_report p s)) q ≡ latest s q
settled_latest p s c b t few boxes q =
    latest-tick (after_report p s) (report_done p s (s.tally + 1) c b (omega arith) few boxes).mid.core.books q ∙ latest_after p s c q

-- the minute has no part in it
latest_at : (minute : ℕ) (s : Store) (q : ℕ) → latest (with_highest minute s) q ≡ latest s q
unfolding latest
latest_at minute s q = refl

done_latest : (k : Request) (s : Store) (buffer : List ℕ) → WellFormed s → Accepted s.highest (is_on s) (on_count s) k → (q : ℕ) → latest (carried_out k s buffer).store q ≡ latest_by k (latest s) q
unfolding carried_out latest_by signed_on reported is_on on_count
done_latest k s buffer w (on_passed r f h i here off room late) q =
    let s' = with_highest f.minute s in
    let w' = later_well s w f.minute late in
    let g : Option Report → Option Report = λ _. Some (record { fix = f; new = true }) in
    settled_latest f.place (signed_on r f s') (on_Core s' w' r f h i here off room (omega arith)) (put_Bounded s' w' r h g f true refl) w.tallied
    (put_few s' w' r h g f true refl) (put_boxes s' w' r h g f true refl) q
    ∙ latest_on s' w.waiting_rises r f h q ∙ ap (cond (eqb q r) (Some f)) (latest_at f.minute s q)
done_latest k s buffer w (report_passed r f h i here on late) q =
    let s' = with_highest f.minute s in
    let w' = later_well s w f.minute late in
    let g : Option Report → Option Report = λ o. Some (record { fix = f; new = was_new o }) in
    let b = was_new (find s.waiting r) in
    settled_latest f.place (reported r f s') (report_Core s' w' r f h i here on (omega arith)) (put_Bounded s' w' r h g f b refl) w.tallied
    (put_few s' w' r h g f b refl) (put_boxes s' w' r h g f b refl) q
    ∙ latest_report s' w.waiting_rises r f h q ∙ ap (cond (eqb q r) (Some f)) (latest_at f.minute s q)
done_latest k s buffer w (off_passed r minute h i on late) q =
    let s' = with_highest minute s in
    let w' = later_well s w minute late in
    latest-tick (signed_off r s') (off_Core s' w' r h i on).books q ∙ latest_off s' (well_Core s' w') r h q ∙ ap (cond (eqb q r) None) (latest_at minute s q)
done_latest k s buffer w (range_passed rect minute) q = ap (λ (t : Store). latest t q) (answered-store (found s rect minute) s buffer)

-- an accepted record gives its own radio its place, or takes it, whatever is flushed, split, joined or swept on the way; one turned down changes nothing
pub step_latest : (s : Store) (bytes buffer : List ℕ) → Bytes bytes → WellFormed s → (q : ℕ)
    → latest (carry s bytes buffer).store q ≡ cond (eqb (refusal s.highest (is_on s) (on_count s) bytes) 0) (latest_by (request_of bytes) (latest s) q) (latest s q)
unfolding carry
step_latest s bytes buffer small w q =
    by_cases (eqb (refusal s.highest (is_on s) (on_count s) bytes) 0)
    (λ t. rw t (done_latest (request_of bytes) s buffer w (accepted s.highest (is_on s) (on_count s) bytes small (eqb-true (refusal s.highest (is_on s) (on_count s) bytes) 0 t)) q))
    (λ t. rw t)
