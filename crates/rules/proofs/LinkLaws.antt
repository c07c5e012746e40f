-- The store beside the plain rule: what each says of a radio, and that they answer alike.
use mathlib.Core.Bool.{Bool, true, false, not, cond}
use mathlib.Core.List.{List, [], ◌∷◌}
use Rattle.std.specs.Prelude.{Option, None, Some}
use mathlib.Core.Path.{◌≡◌, refl, sym, ap, ap₂, ◌∙◌, fun_ext}
use Prim.Native.Nat.{ℕ, suc, ◌≤◌, ◌<◌}
use native.Mathlib.Omega.{arith}
use lib.Dec.{eqb}
use lib.ListN.{length}
use borrow.Author.Tests.{eqb-true, eq-eqb}
use Rattle.terms.specs.Terms.{Place, Fix, max_radio}
use Rattle.lists.specs.Parts.{tab}
use Rattle.lists.specs.Rows.{Rows, Rising, find, alter, insert, count_found}
use Rattle.lists.specs.Sums.{sum_to}
use Rattle.lists.specs.Tests.{one_if, both, is_some}
use Rattle.lists.proofs.Cases.{by_cases, option_cases, false-true, is_some-true, is_some-false}
use Rattle.lists.proofs.RowsLaws.{find_below, Rising_less, find-alter, ext_find, sum_rows, Rising-tab, find-tab, find_within, length_found}
use Rattle.lists.proofs.SumsLaws.{sum_to_ext}
use Rattle.rules.specs.Grid.{Rect, Cuts, Box, same_box, box_of}
use Rattle.rules.specs.Store.{Report, Line, Store, with_waiting, with_on, with_highest, fresh}
use Rattle.rules.specs.Flush.{in_box}
use Rattle.rules.specs.Records.{refusal}
use Rattle.rules.specs.Carry.{is_on, on_count, was_new, fix_of, live_in, stored_in, latest, listed, list_if, list_of, found, waiting_in, box_to_flush, flush_due, signed_on, reported}
use Rattle.rules.specs.Plain.{Plain, plain_fresh, plain_on, plain_on_count, put_at, place_of, waits_in, plain_in, plain_due, plain_place, plain_at, plain_refusal, plain_found}
use Rattle.rules.specs.Parts.{Signed, Waits}

pub record Link (s : Store) (x : Plain) : Type 0 where
  pub on : (r : ℕ) → is_on s r ≡ plain_on x r
  -- the reports waiting are the plain rule's waiting radios with their latest places
  pub waiting : (r : ℕ) → fix_of (find s.waiting r) ≡ cond (x.waits r) (x.latest r) None
  -- "marked new" is "no last place flushed"
  pub marked : (r : ℕ) → was_new (find s.waiting r) ≡ both (x.waits r) (not (is_some (x.flushed r)))
  -- the live entry has the last place flushed, and so has any memo line
  pub stored : (r : ℕ) → place_of (stored_in s.memo r s.cells) ≡ x.flushed r
  pub lines : (r : ℕ) (l : Line) → find s.memo r ≡ Some l → l.last ≡ x.flushed r
  -- where nothing waits, the live entry has what the latest report told, or the radio is off
  pub quiet : (r : ℕ) → x.waits r ≡ false → stored_in s.memo r s.cells ≡ x.latest r
  pub waits_on : (r : ℕ) → x.waits r ≡ true → plain_on x r ≡ true
  pub minute : s.highest ≡ x.highest

pub fresh-Link : Link fresh plain_fresh
unfolding fresh plain_fresh is_on plain_on find stored_in live_in both
fresh-Link = record {
  on = λ r. refl;
  waiting = λ r. refl;
  marked = λ r. refl;
  stored = λ r. refl;
  lines = λ r l e. cc;
  quiet = λ r e. refl;
  waits_on = λ r e. e;
  minute = refl;
}

-- ---- the same latest place

pub latest_same : (s : Store) (x : Plain) → Link s x → (r : ℕ) → latest s r ≡ x.latest r
unfolding latest plain_on
latest_same s x k r =
    by_cases (x.waits r)
    (λ t. is_some-true (x.latest r) (k.waits_on r t) (λ p e. rw (k.waiting r, t, e)))
    (λ t. rw (k.waiting r, t) (k.quiet r t))

-- ---- the same who is on

pub refusal_same : (s : Store) (x : Plain) → Link s x → Signed s.on → (bytes : List ℕ) → refusal s.highest (is_on s) (on_count s) bytes ≡ plain_refusal x bytes
unfolding plain_refusal plain_on_count on_count is_on
refusal_same s x k g bytes =
    ap (λ (m : ℕ). refusal m (is_on s) (on_count s) bytes) k.minute
    ∙ ap₂ (λ (f : ℕ → Bool) (n : ℕ). refusal x.highest f n bytes) (fun_ext k.on)
    (length_found 0 max_radio s.on g.rising_on g.radios_on ∙ sum_to_ext (suc max_radio) _ _ (λ r h. ap one_if (k.on r)))

-- ---- the same list

abbrev place_in : Rect → ℕ → Option Fix → Option Place
place_in rect minute None = None
place_in rect minute (Some f) = cond (listed rect minute f) (Some f.place) None

module _ (rect : Rect) (minute : ℕ) (f : ℕ → Option Fix) where
  Rising-list_if : (b r : ℕ) (o : Option Fix) (l : Rows Place) → b < r → Rising r l → Rising b (list_if rect minute r o l)
  Rising-list_if b r None l h a = Rising_less b r l (omega arith) a
  Rising-list_if b r (Some g) l h a = by_cases (listed rect minute g) (λ t. rw t (h, a)) (λ t. rw t (Rising_less b r l (omega arith) a))

  pub Rising-list_of : (b : ℕ) (l : Rows (Unit {0})) → Rising b l → Rising b (list_of rect minute f l)
  unfolding list_of
  Rising-list_of b [] a = tt
  Rising-list_of b (x ∷ xs) a = Rising-list_if b x.key (f x.key) (list_of rect minute f xs) a.0 (Rising-list_of x.key xs a.1)

  find-list_if_same : (r : ℕ) (o : Option Fix) (l : Rows Place) → Rising r l → find (list_if rect minute r o l) r ≡ place_in rect minute o
  unfolding find
  find-list_if_same r None l a = find_below r r l (omega arith) a
  find-list_if_same r (Some g) l a = by_cases (listed rect minute g) (λ t. rw (t, eq-eqb r r refl)) (λ t. rw t (find_below r r l (omega arith) a))

  find-list_if_other : (r q : ℕ) (o : Option Fix) (l : Rows Place) → eqb q r ≡ false → find (list_if rect minute r o l) q ≡ find l q
  unfolding find
  find-list_if_other r q None l e = refl
  find-list_if_other r q (Some g) l e = by_cases (listed rect minute g) (λ t. rw (t, e)) (λ t. rw t)

  find-list_of : (b q : ℕ) (l : Rows (Unit {0})) → Rising b l → find (list_of rect minute f l) q ≡ cond (is_some (find l q)) (place_in rect minute (f q)) None
  unfolding list_of find
  find-list_of b q [] a = refl
  find-list_of b q (x ∷ xs) a =
      by_cases (eqb q x.key)
      (λ t. rw (t, eqb-true q x.key t) (find-list_if_same x.key (f x.key) (list_of rect minute f xs) (Rising-list_of x.key xs a.1)))
      (λ t. rw t (find-list_if_other x.key q (f x.key) (list_of rect minute f xs) t ∙ find-list_of x.key q xs a.1))

pub found_same : (s : Store) (x : Plain) → Link s x → Signed s.on → (rect : Rect) (minute : ℕ) → found s rect minute ≡ plain_found x rect minute
unfolding found plain_found is_on plain_on
found_same s x k g rect minute =
    let all : Rows (Unit {0}) = tab max_radio (λ i. record { key = suc i; val = tt }) in
    let rises : Rising 0 all = Rising-tab max_radio 0 suc (λ _. tt) (λ i. omega arith) in
    ap (λ (f : ℕ → Option Fix). list_of rect minute f s.on) (fun_ext (latest_same s x k))
    ∙ ext_find 0 (list_of rect minute x.latest s.on) (list_of rect minute x.latest all) (Rising-list_of rect minute x.latest 0 s.on g.rising_on) (Rising-list_of rect minute x.latest 0 all rises)
    (λ r. find-list_of rect minute x.latest 0 r s.on g.rising_on ∙ option_cases (x.latest r)
    (λ e. rw e (never (is_some (find s.on r)) ∙ sym (rw (find-list_of rect minute x.latest 0 r all rises, e) (never (is_some (find all r))))))
    (λ p e. let o : is_some (find s.on r) ≡ true = k.on r ∙ ap is_some e in
    let w = find_within 0 max_radio r s.on g.rising_on g.radios_on o in
    rw o (sym (rw (find-list_of rect minute x.latest 0 r all rises, find-tab max_radio 0 r suc (λ _. tt {0}) (λ i. omega arith) w.0 w.1)))))
  where
    never : (b : Bool) → ◌≡◌ {A = Option Place} (cond b None None) None
    never true = refl
    never false = refl

-- ---- the same memory cell to flush

abbrev count_at : Cuts → Box → Option Fix → ℕ
count_at cuts m None = 0
count_at cuts m (Some f) = one_if (same_box (box_of cuts f.place) m)

count_report : (cuts : Cuts) (m : Box) (r : ℕ) (o : Option Report) → count_found (λ q w. one_if (in_box cuts m (record { key = q; val = w }))) r o ≡ count_at cuts m (fix_of o)
unfolding in_box
count_report cuts m r None = refl
count_report cuts m r (Some w) = refl

count_plain : (cuts : Cuts) (m : Box) (b : Bool) (o : Option Fix) → count_at cuts m (cond b o None) ≡ one_if (both b (waits_in cuts m o))
unfolding both
count_plain cuts m true None = refl
count_plain cuts m true (Some f) = refl
count_plain cuts m false o = refl

pub waiting_in_same : (s : Store) (x : Plain) → Link s x → Waits s.waiting s.on → (m : Box)
    → waiting_in s.cuts s.waiting m ≡ sum_to (suc max_radio) (λ r. one_if (plain_in s.cuts x m r))
unfolding waiting_in plain_in
waiting_in_same s x k w m =
    sum_rows (λ q v. one_if (in_box s.cuts m (record { key = q; val = v }))) 0 max_radio s.waiting w.waiting_rises w.waiting_radios
    ∙ sum_to_ext (suc max_radio) _ _ (λ r h. count_report s.cuts m r (find s.waiting r) ∙ ap (count_at s.cuts m) (k.waiting r) ∙ count_plain s.cuts m (x.waits r) (x.latest r))

some_fix : (o : Option Report) → is_some o ≡ is_some (fix_of o)
some_fix None = refl
some_fix (Some w) = refl

some_place : (o : Option Fix) → is_some (place_of o) ≡ is_some o
some_place None = refl
some_place (Some f) = refl

waits_found : (s : Store) (x : Plain) → Link s x → (r : ℕ) → is_some (find s.waiting r) ≡ x.waits r
unfolding plain_on
waits_found s x k r =
    some_fix (find s.waiting r) ∙ ap is_some (k.waiting r)
    ∙ by_cases (x.waits r) (λ t. rw t (k.waits_on r t)) (λ t. rw t)

pub length-waiting : (s : Store) (x : Plain) → Link s x → Waits s.waiting s.on → length s.waiting ≡ sum_to (suc max_radio) (λ r. one_if (x.waits r))
length-waiting s x k w =
    length_found 0 max_radio s.waiting w.waiting_rises w.waiting_radios ∙ sum_to_ext (suc max_radio) _ _ (λ r h. ap one_if (waits_found s x k r))

pub due_same : (s : Store) (x : Plain) → Link s x → Waits s.waiting s.on → (p : Place) → flush_due s p ≡ plain_due s.cuts x p
unfolding flush_due plain_due
due_same s x k w p = ap₂ (λ (f : Box → ℕ) (n : ℕ). box_to_flush s.cuts f n p) (fun_ext (waiting_in_same s x k w)) (length-waiting s x k w)

-- ---- a minute remembered

pub Link_at : (minute : ℕ) (s : Store) (x : Plain) → Link s x → Link (with_highest minute s) (plain_at minute x)
unfolding is_on plain_on
Link_at minute s x k =
    record { on = k.on; waiting = k.waiting; marked = k.marked; stored = k.stored; lines = k.lines; quiet = k.quiet; waits_on = k.waits_on; minute = refl }

-- ---- a record's own effect

-- a radio that is off has nothing here
off_nothing : (s : Store) (x : Plain) → Link s x → (r : ℕ) → plain_on x r ≡ false → (x.waits r ≡ false) × (x.latest r ≡ None) × (x.flushed r ≡ None)
unfolding plain_on
off_nothing s x k r e =
    let l = is_some-false (x.latest r) e in
    by_cases (x.waits r)
    (λ t. false-true (sym e ∙ k.waits_on r t))
    (λ t. (t, l, sym (k.stored r) ∙ ap place_of (k.quiet r t ∙ l)))

-- a report is put among the waiting, marked where nothing of its radio was flushed
module _ (s : Store) (x : Plain) (k : Link s x) (r : ℕ) (f : Fix) (h : 0 < r) (rises : Rising 0 s.waiting) (g : Option Report → Option Report) (b : Bool)
    (put : g (find s.waiting r) ≡ Some (record { fix = f; new = b })) (mark : b ≡ not (is_some (x.flushed r))) where
  waiting_place : (q : ℕ) → fix_of (find (alter g r s.waiting) q) ≡ cond (put_at r true x.waits q) (put_at r (Some f) x.latest q) None
  waiting_place q =
      rw (find-alter g 0 r q s.waiting h rises) (by_cases (eqb q r)
      (λ t. rw (t, eqb-true q r t, put))
      (λ t. rw t (k.waiting q)))

  marked_place : (q : ℕ) → was_new (find (alter g r s.waiting) q) ≡ both (put_at r true x.waits q) (not (is_some (x.flushed q)))
  unfolding both
  marked_place q =
      rw (find-alter g 0 r q s.waiting h rises) (by_cases (eqb q r)
      (λ t. rw (t, eqb-true q r t, put) mark)
      (λ t. rw t (k.marked q)))

  quiet_place : (q : ℕ) → put_at r true x.waits q ≡ false → stored_in s.memo q s.cells ≡ put_at r (Some f) x.latest q
  quiet_place q =
      by_cases (eqb q r)
      (λ t. rw t (λ e. cc))
      (λ t. rw t (λ e. k.quiet q e))

  waits_place : (q : ℕ) → put_at r true x.waits q ≡ true → is_some (put_at r (Some f) x.latest q) ≡ true
  unfolding plain_on
  waits_place q =
      by_cases (eqb q r)
      (λ t. rw t (λ e. refl))
      (λ t. rw t (λ e. k.waits_on q e))

  Link_place : (on : Rows (Unit {0})) → ((q : ℕ) → is_some (find on q) ≡ is_some (put_at r (Some f) x.latest q))
      → Link (with_waiting (alter g r s.waiting) (with_on on s)) (plain_place r f x)
  unfolding plain_place is_on plain_on
  Link_place on same = record {
    on = same;
    waiting = waiting_place;
    marked = marked_place;
    stored = k.stored;
    lines = k.lines;
    quiet = quiet_place;
    waits_on = waits_place;
    minute = k.minute;
  }

pub Link-on : (s : Store) (x : Plain) → Link s x → (r : ℕ) (f : Fix) → 1 ≤ r → Signed s.on → Waits s.waiting s.on → is_on s r ≡ false
    → Link (signed_on r f s) (plain_place r f x)
unfolding signed_on is_on plain_on
Link-on s x k r f h g w off =
    let o = off_nothing s x k r (sym (k.on r) ∙ off) in
    Link_place s x k r f h w.waiting_rises (λ _. Some (record { fix = f; new = true })) true refl (sym (rw o.2 refl)) (insert r tt s.on)
    (λ q. rw (find-alter (λ _. Some tt) 0 r q s.on h g.rising_on) (by_cases (eqb q r) (λ t. rw t) (λ t. rw t (k.on q))))

pub Link_report : (s : Store) (x : Plain) → Link s x → (r : ℕ) (f : Fix) → 1 ≤ r → Waits s.waiting s.on → is_on s r ≡ true
    → Link (reported r f s) (plain_place r f x)
unfolding reported is_on plain_on
Link_report s x k r f h w on =
    Link_place s x k r f h w.waiting_rises (λ o. Some (record { fix = f; new = was_new o })) (was_new (find s.waiting r)) refl
    (k.marked r ∙ by_cases (x.waits r) (λ t. unfold both in rw t) (λ t. unfold both in rw (t, ← k.stored r, some_place (stored_in s.memo r s.cells), k.quiet r t, sym (k.on r) ∙ on)))
    s.on
    (λ q. k.on q ∙ by_cases (eqb q r) (λ t. rw (t, eqb-true q r t) (sym (k.on r) ∙ on)) (λ t. rw t))
