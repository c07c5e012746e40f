-- The tests of the radios say just the clauses: a count over all entries is the sum of what each cell finds.
use mathlib.Core.Path.{◌≡◌, refl, sym, ap, ap₂, ◌∙◌}
use mathlib.Core.Bool.{Bool, true, false, not, cond}
use mathlib.Core.List.{List}
use Rattle.std.specs.Prelude.{Option, None, Some}
use Prim.Native.Nat.{ℕ, suc, ◌+◌, ◌≤◌, ◌<◌}
use native.Mathlib.Omega.{arith}
use lib.Dec.{eqb, leb, ltb}
use lib.ListN.{length}
use borrow.Author.Tests.{lt-ltb, le-leb, ltb-true, ltb-false, leb-true, eqb-true, eq-eqb, ne_eqb}
use Rattle.terms.specs.Terms.{Place, Fix, max_radio, max_on}
use Rattle.lists.specs.Rows.{Row, Rows, Rising, UpTo, find, count_found}
use Rattle.lists.specs.Sums.{sum_by, concat}
use Rattle.lists.specs.Tests.{one_if, both, either, Each, is_some}
use Rattle.lists.proofs.Cases.{by_cases, option_cases}
use Rattle.lists.proofs.RowsLaws.{sum-key, Each-find, find-Each}
use Rattle.lists.proofs.SumsLaws.{sum-Each, sum_const, sum_zero, sum-map}
use Rattle.lists.proofs.TestsLaws.{both_left, both_right, both_intro, either_cases, either_left, either_right, Each_map, all-Each, Each-all}
use Rattle.rules.specs.Store.{Report, Line, Cell}
use Rattle.rules.specs.Sweep.{is_at, stale, stale_by}
use Rattle.rules.specs.Carry.{was_new}
use Rattle.rules.specs.WellFormed.{count_if, live_of, stale_of, InSquareIf, GoodLine}
use Rattle.sound_clauses.specs.Loops.{rises_to, keys, passing}
use Rattle.sound_clauses.specs.Cells.{rows_of}
use Rattle.sound_clauses.specs.Radios.{live_at, stale_at, new_at, on_at, on_test, present_test, unmarked_test, memo_test, line_test, lines_test, last_test, lasts_test, entries_at, missed_at}
use Rattle.sound_clauses.proofs.LoopsLaws.{all_to-true, true-all_to, Each_to_map, rises_rows, rows_rise, passing_found, passing_beyond, passing_some, passing-concat, passing_parts}
use Rattle.sound_clauses.proofs.GridLaws.{concat-Each, place_true, true_place}

-- ---- who is on

pub on_true : (on : Rows (Unit {0})) → on_test on ≡ true → (length on ≤ max_on) × Rising 0 on × UpTo max_radio on
unfolding on_test
on_true on e =
    let r = rises_rows max_radio 0 on (both_right (leb (length on) max_on) (rises_to max_radio 0 (keys on)) e) in
    (leb-true (length on) max_on (both_left (leb (length on) max_on) (rises_to max_radio 0 (keys on)) e), r.0, r.1)

pub true_on : (on : Rows (Unit {0})) → length on ≤ max_on → Rising 0 on → UpTo max_radio on → on_test on ≡ true
unfolding on_test
true_on on h r u = both_intro (le-leb (length on) max_on h) (rows_rise max_radio 0 on r u)

-- ---- counts over all entries

abbrev pub RowsRise : List Cell → Type 0
RowsRise cells = Each (λ c. Rising 0 c.entries) cells

abbrev pub RowsUpTo : List Cell → Type 0
RowsUpTo cells = Each (λ c. UpTo max_radio c.entries) cells

-- of one cell: what is found, if it passes
passing_cell : (t : Row Fix → Bool) (g : Fix → Bool) (r : ℕ) (es : Rows Fix) → ((f : Fix) → t (record { key = r; val = f }) ≡ g f) → Rising 0 es
    → count_if g (find es r) ≡ passing t r es
passing_cell t g r es h a = same (find es r) ∙ sym (passing_found t 0 r es a)
  where
    same : (o : Option Fix) → count_if g o ≡ count_found (λ k v. one_if (t (record { key = k; val = v }))) r o
    same None = refl
    same (Some f) = ap one_if (sym (h f))

-- of all
passing_cells : (t : Row Fix → Bool) (g : Fix → Bool) (r : ℕ) (cells : List Cell) → ((f : Fix) → t (record { key = r; val = f }) ≡ g f) → RowsRise cells
    → sum_by (λ c. count_if g (find c.entries r)) cells ≡ passing t r (concat (rows_of cells))
passing_cells t g r cells h a =
    sum-Each (λ c. count_if g (find c.entries r)) (λ c. passing t r c.entries) cells
    (Each_map (λ c. Rising 0 c.entries) (λ c. count_if g (find c.entries r) ≡ passing t r c.entries) cells (λ c x. passing_cell t g r c.entries h x) a)
    ∙ sym (sum-map (passing t r) (λ c. c.entries) cells)
    ∙ sym (passing-concat t r (rows_of cells))

-- entries that aren't stale
pub live_cells : (memo : Rows Line) (r : ℕ) (cells : List Cell) → RowsRise cells → live_of memo r cells ≡ live_at memo r (concat (rows_of cells))
unfolding live_of live_at
live_cells memo r cells a = passing_cells (λ e. not (stale memo e)) (λ f. not (stale_by (find memo r) f)) r cells (λ f. refl) a

-- stale entries of a radio with a line, judged by the line's place
pub stale_cells : (memo : Rows Line) (r : ℕ) (l : Line) (cells : List Cell) → find memo r ≡ Some l → RowsRise cells → stale_of l.last r cells ≡ stale_at memo r (concat (rows_of cells))
unfolding stale_of stale_at
stale_cells memo r l cells e a = passing_cells (stale memo) (λ f. not (is_at l.last f.place)) r cells (λ f. ap (λ (o : Option Line). stale_by o f) e) a

-- all entries of a radio
pub stale_live : (memo : Rows Line) (r : ℕ) (es : Rows Fix) → stale_at memo r es + live_at memo r es ≡ entries_at r es
unfolding live_at stale_at entries_at
stale_live memo r es = passing_parts (stale memo) r es

pub new_found : (r : ℕ) (ws : Rows Report) → Rising 0 ws → new_at r ws ≡ one_if (was_new (find ws r))
unfolding new_at
new_found r ws a = passing_found (λ w. w.val.new) 0 r ws a ∙ same (find ws r)
  where
    same : (o : Option Report) → count_found (λ _ w. one_if w.new) r o ≡ one_if (was_new o)
    same None = refl
    same (Some w) = refl

pub on_found : (r : ℕ) (on : Rows (Unit {0})) → Rising 0 on → on_at r on ≡ one_if (is_some (find on r))
unfolding on_at
on_found r on a = passing_found (λ _. true) 0 r on a ∙ same (find on r)
  where
    same : (o : Option (Unit {0})) → count_found (λ _ _. 1) r o ≡ one_if (is_some o)
    same None = refl
    same (Some u) = refl

pub on_some : (r : ℕ) (on : Rows (Unit {0})) → ltb 0 (on_at r on) ≡ is_some (find on r)
unfolding on_at
on_some r on = passing_some r on

-- ---- each radio on, each radio off

module _ (memo : Rows Line) (cells : List Cell) (ws : Rows Report) (on : Rows (Unit {0})) (rows : RowsRise cells) (wait : Rising 0 ws) (sign : Rising 0 on) where
  counts : (r : ℕ) → live_at memo r (concat (rows_of cells)) + new_at r ws ≡ live_of memo r cells + one_if (was_new (find ws r))
  counts r = ap₂ ◌+◌ (sym (live_cells memo r cells rows)) (new_found r ws wait)

  pub true_present : ((r : ℕ) → live_of memo r cells + one_if (was_new (find ws r)) ≡ one_if (is_some (find on r))) → present_test memo (concat (rows_of cells)) ws on ≡ true
  unfolding present_test
  true_present h =
      true-all_to (suc max_radio) (λ r. eqb (live_at memo r (concat (rows_of cells)) + new_at r ws) (on_at r on))
      (λ r b. eq-eqb (live_at memo r (concat (rows_of cells)) + new_at r ws) (on_at r on) (counts r ∙ h r ∙ sym (on_found r on sign)))

  module _ (rows_end : RowsUpTo cells) (wait_end : UpTo max_radio ws) (sign_end : UpTo max_radio on) where
    -- beyond the last radio nothing counts
    beyond : (r : ℕ) → max_radio < r → live_at memo r (concat (rows_of cells)) + new_at r ws ≡ on_at r on
    unfolding live_at new_at on_at
    beyond r h =
        let all_End = concat-Each (λ e. e.key ≤ max_radio) (rows_of cells) (Each_to_map (UpTo max_radio) (λ c. c.entries) cells rows_end) in
        omega (
          arith,
          passing_beyond (λ e. not (stale memo e)) max_radio r (concat (rows_of cells)) all_End h,
          passing_beyond (λ w. w.val.new) max_radio r ws wait_end h,
          passing_beyond (λ _. true) max_radio r on sign_end h,
        )

    present_radio : present_test memo (concat (rows_of cells)) ws on ≡ true → (r : ℕ) → live_at memo r (concat (rows_of cells)) + new_at r ws ≡ on_at r on
    unfolding present_test
    present_radio e r =
        let n = live_at memo r (concat (rows_of cells)) + new_at r ws in
        by_cases (ltb r (suc max_radio))
        (λ t. eqb-true n (on_at r on) (all_to-true (suc max_radio) (λ q. eqb (live_at memo q (concat (rows_of cells)) + new_at q ws) (on_at q on)) e r (ltb-true r (suc max_radio) t)))
        (λ t. beyond r (ltb-false r (suc max_radio) t))

    pub present_true : present_test memo (concat (rows_of cells)) ws on ≡ true → (r : ℕ) → live_of memo r cells + one_if (was_new (find ws r)) ≡ one_if (is_some (find on r))
    present_true e r = sym (counts r) ∙ present_radio e r ∙ on_found r on sign

-- ---- unmarked reports

abbrev Belongs : Rows (Unit {0}) → ℕ → Report → Type 0
Belongs on r w = w.new ≡ false → is_some (find on r) ≡ true

pub unmarked_true : (ws : Rows Report) (on : Rows (Unit {0})) → unmarked_test ws on ≡ true → (r : ℕ) (w : Report) → find ws r ≡ Some w → w.new ≡ false → is_some (find on r) ≡ true
unfolding unmarked_test
unmarked_true ws on e r w =
    Each-find (Belongs on) r w ws (all-Each (λ x. either x.val.new (ltb 0 (on_at x.key on))) (λ x. Belongs on x.key x.val) ws
    (λ x t u. either_cases x.val.new (ltb 0 (on_at x.key on)) t (λ v. cc) (λ v. sym (on_some x.key on) ∙ v)) e)

pub true_unmarked : (ws : Rows Report) (on : Rows (Unit {0})) → Rising 0 ws → ((r : ℕ) (w : Report) → find ws r ≡ Some w → w.new ≡ false → is_some (find on r) ≡ true) → unmarked_test ws on ≡ true
unfolding unmarked_test
true_unmarked ws on a h =
    Each-all (λ x. either x.val.new (ltb 0 (on_at x.key on))) (λ x. Belongs on x.key x.val) ws
    (λ x b. by_cases x.val.new
    (λ t. either_left (ltb 0 (on_at x.key on)) t)
    (λ t. either_right x.val.new (on_some x.key on ∙ b t)))
    (find-Each (Belongs on) 0 ws a h)

-- ---- memo lines

pub memo_true : (memo : Rows Line) → memo_test memo ≡ true → Rising 0 memo × UpTo max_radio memo
unfolding memo_test
memo_true memo e = rises_rows max_radio 0 memo e

pub true_memo : (memo : Rows Line) → Rising 0 memo → UpTo max_radio memo → memo_test memo ≡ true
unfolding memo_test
true_memo memo r u = rows_rise max_radio 0 memo r u

pub last_true : (o : Option Place) → last_test o ≡ true → InSquareIf o
last_true None e = tt
last_true (Some p) e = place_true p e

pub true_last : (o : Option Place) → InSquareIf o → last_test o ≡ true
true_last None h = refl
true_last (Some p) h = true_place p h

-- a line of the radio, against all entries
abbrev Counted : Rows Line → Rows Fix → ℕ → Line → Type 0
Counted memo es r l = (1 ≤ l.missed) × (stale_at memo r es ≡ l.missed)

line_true : (memo : Rows Line) (es : Rows Fix) (x : Row Line) → line_test memo es x ≡ true → Counted memo es x.key x.val
unfolding line_test
line_true memo es x t =
    let a = ltb 0 x.val.missed in
    let b = eqb (stale_at memo x.key es) x.val.missed in
    (ltb-true 0 x.val.missed (both_left a b t), eqb-true (stale_at memo x.key es) x.val.missed (both_right a b t))

true_line : (memo : Rows Line) (es : Rows Fix) (x : Row Line) → Counted memo es x.key x.val → line_test memo es x ≡ true
unfolding line_test
true_line memo es x c = both_intro (lt-ltb 0 x.val.missed c.0) (eq-eqb (stale_at memo x.key es) x.val.missed c.1)

line_found : (memo : Rows Line) (es : Rows Fix) → lines_test memo es ≡ true → (r : ℕ) (l : Line) → find memo r ≡ Some l → Counted memo es r l
unfolding lines_test
line_found memo es e r l = Each-find (Counted memo es) r l memo (all-Each (line_test memo es) (λ x. Counted memo es x.key x.val) memo (line_true memo es) e)

module _ (memo : Rows Line) (cells : List Cell) (rows : RowsRise cells) where
  pub lines_true : lines_test memo (concat (rows_of cells)) ≡ true → lasts_test memo ≡ true → (r : ℕ) (l : Line) → find memo r ≡ Some l → GoodLine cells r l
  unfolding lasts_test
  lines_true e f r l g =
      let c = line_found memo (concat (rows_of cells)) e r l g in
      record {
        missing = c.0;
        equal = stale_cells memo r l cells g rows ∙ c.1;
        placed = Each-find (λ _ k. InSquareIf k.last) r l memo (all-Each (λ x. last_test x.val.last) (λ x. InSquareIf x.val.last) memo (λ x t. last_true x.val.last t) f) g;
      }

  module _ (rise : Rising 0 memo) (h : (r : ℕ) (l : Line) → find memo r ≡ Some l → GoodLine cells r l) where
    pub true_lines : lines_test memo (concat (rows_of cells)) ≡ true
    unfolding lines_test
    true_lines =
        let es = concat (rows_of cells) in
        Each-all (line_test memo es) (λ x. Counted memo es x.key x.val) memo (true_line memo es)
        (find-Each (Counted memo es) 0 memo rise (λ r l g. ((h r l g).missing, sym (stale_cells memo r l cells g rows) ∙ (h r l g).equal)))

    pub true_lasts : lasts_test memo ≡ true
    unfolding lasts_test
    true_lasts =
        Each-all (λ x. last_test x.val.last) (λ x. InSquareIf x.val.last) memo (λ x s. true_last x.val.last s)
        (find-Each (λ _ l. InSquareIf l.last) 0 memo rise (λ r l g. (h r l g).placed))

-- ---- in balance

missed_found : (r b : ℕ) (memo : Rows Line) → Rising b memo → missed_at r memo ≡ count_found (λ _ l. l.missed) r (find memo r)
unfolding missed_at
missed_found r b memo a =
    omega (
      arith,
      sum-key (λ l. cond (eqb r l.key) l.val.missed 0) (λ _. 0) b r memo (λ x h. other x (λ e. h (sym e))) a,
      sum_const 0 memo,
      nothing (find memo r),
      here (find memo r),
    )
  where
    other : (x : Row Line) → (r ≡ x.key → ⊥) → cond (eqb r x.key) x.val.missed 0 ≡ 0
    other x h = rw (ne_eqb r x.key h)

    nothing : (o : Option Line) → count_found (λ _ _. 0) r o ≡ 0
    nothing None = refl
    nothing (Some l) = refl

    here : (o : Option Line) → count_found (λ k l. cond (eqb r k) l.missed 0) r o ≡ count_found (λ _ l. l.missed) r o
    here None = refl
    here (Some l) = rw (eq-eqb r r refl)

-- without a line nothing is stale
stale_none : (memo : Rows Line) (r : ℕ) (es : Rows Fix) → find memo r ≡ None → stale_at memo r es ≡ 0
unfolding stale_at passing both
stale_none memo r es e =
    sum_zero (λ x. one_if (both (eqb r x.key) (stale memo x))) es
    (λ x. by_cases (eqb r x.key) (λ t. rw (t, ← eqb-true r x.key t, e)) (λ t. rw t))

module _ (memo : Rows Line) (es : Rows Fix) (rise : Rising 0 memo) (lines : lines_test memo es ≡ true) where
  -- the lines' missed counts are the stale entries of every radio
  pub stale_missed : (r : ℕ) → stale_at memo r es ≡ missed_at r memo
  stale_missed r =
      option_cases (find memo r)
      (λ e. stale_none memo r es e ∙ sym (missed_found r 0 memo rise ∙ ap (count_found (λ _ l. l.missed) r) e))
      (λ l e. (line_found memo es lines r l e).1 ∙ sym (missed_found r 0 memo rise ∙ ap (count_found (λ _ k. k.missed) r) e))
