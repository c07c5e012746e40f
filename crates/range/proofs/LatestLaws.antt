-- Why the table has the latest places: a radio on that has no waiting report has one entry that isn't stale, and stale ones are passed over. A cell that the
-- rectangle does not touch has that entry outside the rectangle. This is said of a table for which no place is tested (`table_any`); from there `over_seen`
-- leads to the one for which each is tested as it is laid.
use mathlib.Core.Path.{◌≡◌, refl, sym, ap, ap₂, ◌∙◌, fun_ext}
use mathlib.Core.Bool.{Bool, true, false, not, cond}
use mathlib.Core.List.{List, [], ◌∷◌}
use Rattle.std.specs.Prelude.{Option, None, Some}
use Prim.Native.Nat.{ℕ, ◌+◌, ◌-◌, ◌≤◌}
use native.Mathlib.Omega.{arith}
use lib.Dec.{eqb, leb}
use borrow.Author.Tests.{eqb-true, ltb-true, ltb-false, le-leb, lt-leb}
use Rattle.terms.specs.Terms.{Place, Fix}
use Rattle.lists.specs.Rows.{Row, Rows, Rising, find, put_row, passed}
use Rattle.lists.specs.Sums.{sum_by}
use Rattle.lists.specs.Tests.{one_if, both, is_some, or_else, Each}
use Rattle.lists.proofs.Cases.{by_cases, option_cases, false-true, none-some}
use Rattle.lists.proofs.RowsLaws.{find_below, Each-find, find-Each}
use Rattle.lists.proofs.SumsLaws.{sum-nil, sum-cons, sum_ext}
use Rattle.lists.proofs.TestsLaws.{both_left, both_right, both_intro, one_if-false, Each_map}
use Rattle.rules.specs.Limits.{kept_minutes}
use Rattle.rules.specs.Grid.{Rect, inside, covers, same_place}
use Rattle.rules.specs.Store.{Report, Line, Cell, Store}
use Rattle.rules.specs.Sweep.{stale_by, stale}
use Rattle.rules.specs.Carry.{is_on, was_new, live_in, stored_in, fix_of, latest, too_old, listed, list_if, list_of, found}
use Rattle.rules.specs.Plain.{put_at}
use Rattle.rules.specs.WellFormed.{WellFormed, GoodCell, count_if, live_of}
use Rattle.rules.proofs.PlaceLaws.{same_place_refl, same_place-true}
use Rattle.range_places.specs.Places.{Sought, is_sought, sought, Places, no_places, over, seen, entry_over, entries_over, reports_over, touches}
use Rattle.range_places.proofs.TouchLaws.{covered_touches}
use Rattle.range.specs.Range.{list_held}

-- ---- rows laid one over the other, listed or not

abbrev Fixes : Type 0
Fixes = ℕ → Option Fix

abbrev no_fixes : Fixes
no_fixes r = None

-- the radio of a row has what the row tells, whatever it had
abbrev row_any : {Val : Type 0} → (Val → Fix) → Row Val → Fixes → Fixes
row_any fix x f = put_at x.key (Some (fix x.val)) f

abbrev found_or : {Val : Type 0} → (Val → Fix) → Option Val → Option Fix → Option Fix
found_or fix None o = o
found_or fix (Some v) o = Some (fix v)

-- rows by rising radio: each radio has at most one
over-find : {Val : Type 0} (fix : Val → Fix) (b : ℕ) (l : Rows Val) (f : Fixes) (r : ℕ) → Rising b l → over (row_any fix) l f r ≡ found_or fix (find l r) (f r)
unfolding over find
over-find fix b [] f r a = refl
over-find fix b (x ∷ xs) f r a =
    over-find fix x.key xs (put_at x.key (Some (fix x.val)) f) r a.1
    ∙ by_cases (eqb r x.key)
    (λ t. rw (t, find_below r x.key xs (omega (arith, eqb-true r x.key t)) a.1))
    (λ t. rw t)

-- ---- entries laid over them, unless they are stale

abbrev entry_any : (Row Fix → Bool) → Row Fix → Fixes → Fixes
entry_any old e f = cond (old e) f (row_any (λ v. v) e f)

-- entries by rising radio: the radio has its own, if that isn't stale
over_live : (old : Row Fix → Bool) (b : ℕ) (l : Rows Fix) (f : Fixes) (r : ℕ) → Rising b l → over (entry_any old) l f r ≡ or_else (passed (λ e. not (old e)) r (find l r)) (f r)
unfolding over find
over_live old b [] f r a = refl
over_live old b (x ∷ xs) f r a =
    over_live old x.key xs (entry_any old x f) r a.1
    ∙ by_cases (eqb r x.key)
    (λ t. let e = eqb-true r x.key t in
    let same : old (record { key = r; val = x.val }) ≡ old x = ap (λ (q : ℕ). old (record { key = q; val = x.val })) e in
    rw (t, find_below r x.key xs (omega arith) a.1, same) (by_cases (old x) (λ s. rw s) (λ s. rw (s, t))))
    (λ t. by_cases (old x) (λ s. rw (t, s)) (λ s. rw (t, s, t)))

-- ---- the one entry of a radio that isn't stale

abbrev any_fix : Fix → Bool
any_fix f = true

count_or_else : (t : Fix → Bool) (a b : Option Fix) → count_if any_fix a + count_if any_fix b ≤ 1 → count_if t (or_else a b) ≡ count_if t a + count_if t b
count_or_else t None b h = omega arith
count_or_else t (Some p) None h = omega arith
count_or_else t (Some p) (Some q) h = absurd (omega arith)

passed-some : {Val : Type 0} (p : Row Val → Bool) (r : ℕ) (o : Option Val) (v : Val) → passed p r o ≡ Some v → o ≡ Some v
passed-some p r None v e = e
passed-some p r (Some w) v e = by_cases (p (record { key = r; val = w })) (λ t. rw t at e) (λ t. none-some (rw t at e))

module _ (memo : Rows Line) (r : ℕ) where
  -- entries of the radio that are not stale and pass
  abbrev live_count : (Fix → Bool) → List Cell → ℕ
  live_count t = sum_by (λ c. count_if t (live_in memo r c))

  live_one : (o : Option Fix) → count_if (λ f. not (stale_by (find memo r) f)) o ≡ count_if any_fix (passed (λ e. not (stale memo e)) r o)
  live_one None = refl
  live_one (Some f) = by_cases (not (stale_by (find memo r) f)) (λ s. rw s) (λ s. rw s)

  live_all : (cells : List Cell) → live_of memo r cells ≡ live_count any_fix cells
  unfolding live_of live_in
  live_all cells = sum_ext _ _ cells (λ c. live_one (find c.entries r))

  stored_count : (cells : List Cell) → live_count any_fix cells ≤ 1 → (t : Fix → Bool) → count_if t (stored_in memo r cells) ≡ live_count t cells
  unfolding stored_in
  stored_count [] h t = unfold sum_by in refl
  stored_count (c ∷ cs) h t =
      let f : (Fix → Bool) → Cell → ℕ = λ u x. count_if u (live_in memo r x) in
      let few : live_count any_fix cs ≤ 1 = omega (arith, sum-cons (f any_fix) c cs) in
      count_or_else t (live_in memo r c) (stored_in memo r cs) (omega (arith, stored_count cs few any_fix, sum-cons (f any_fix) c cs))
      ∙ omega (arith, stored_count cs few t, sum-cons (f t) c cs)

-- ---- the cells that the rectangle touches

-- a cell's entries that are not stale, listed or not
abbrev cell_any : Rows Line → Sought → Cell → Fixes → Fixes
cell_any memo look c f = cond (touches look.rect c.edges) (over (entry_any (stale memo)) c.entries f) f

pub record Placed (c : Cell) : Type 0 where
  pub rising : Rising 0 c.entries
  pub placed : Each (λ e. inside c.edges e.val.place ≡ true) c.entries

module _ (memo : Rows Line) (look : Sought) (r : ℕ) where
  entries_live : (c : Cell) (f : Fixes) → Placed c → over (entry_any (stale memo)) c.entries f r ≡ or_else (live_in memo r c) (f r)
  unfolding live_in
  entries_live c f k = over_live (stale memo) 0 c.entries f r k.rising

  live_inside : (c : Cell) (v : Fix) → Placed c → live_in memo r c ≡ Some v → inside c.edges v.place ≡ true
  unfolding live_in
  live_inside c v k e = Each-find (λ _ (q : Fix). inside c.edges q.place ≡ true) r v c.entries k.placed (passed-some (λ e. not (stale memo e)) r (find c.entries r) v e)

  module _ (c : Cell) (f : Fixes) (k : Placed c) (few : count_if any_fix (f r) + count_if any_fix (live_in memo r c) ≤ 1) where
    count_touched : (t : Fix → Bool) → touches look.rect c.edges ≡ true → count_if t (cell_any memo look c f r) ≡ count_if t (f r) + count_if t (live_in memo r c)
    count_touched t u = rw u (ap (count_if t) (entries_live c f k) ∙ count_or_else t (live_in memo r c) (f r) (omega arith) ∙ omega arith)

    count_few : count_if any_fix (cell_any memo look c f r) ≤ count_if any_fix (f r) + count_if any_fix (live_in memo r c)
    count_few = by_cases (touches look.rect c.edges) (λ u. omega (arith, count_touched any_fix u)) (λ u. rw u (omega arith))

    count_skipped : (t : Fix → Bool) → ((v : Fix) → t v ≡ true → is_sought look v ≡ true) → touches look.rect c.edges ≡ false → count_if t (live_in memo r c) ≡ 0
    count_skipped t within u =
        option_cases (live_in memo r c)
        (λ e. rw e)
        (λ v e. rw e (by_cases (t v)
        (λ i. let y = covered_touches look.rect c.edges v.place (both_left _ _ (within v i)) (live_inside c v k e) in false-true (sym u ∙ y))
        (λ i. rw i)))

    count_cell : (t : Fix → Bool) → ((v : Fix) → t v ≡ true → is_sought look v ≡ true) → count_if t (cell_any memo look c f r) ≡ count_if t (f r) + count_if t (live_in memo r c)
    count_cell t within = by_cases (touches look.rect c.edges) (λ u. count_touched t u) (λ u. rw u (omega (arith, count_skipped t within u)))

  -- an entry in the rectangle is met, for its cell is touched
  count_cells : (cells : List Cell) (f : Fixes) → Each Placed cells → count_if any_fix (f r) + live_count memo r any_fix cells ≤ 1 → (t : Fix → Bool)
      → ((v : Fix) → t v ≡ true → is_sought look v ≡ true) → count_if t (over (cell_any memo look) cells f r) ≡ count_if t (f r) + live_count memo r t cells
  unfolding over
  count_cells [] f k h t within = omega (arith, sum-nil (λ (c : Cell). count_if t (live_in memo r c)))
  count_cells (c ∷ cs) f k h t within =
      let g : (Fix → Bool) → Cell → ℕ = λ u x. count_if u (live_in memo r x) in
      let one : count_if any_fix (f r) + count_if any_fix (live_in memo r c) ≤ 1 = omega (arith, sum-cons (g any_fix) c cs) in
      omega (
        arith,
        count_cells cs (cell_any memo look c f) k.1 (omega (arith, count_few c f k.0 one, sum-cons (g any_fix) c cs)) t within,
        count_cell c f k.0 one t within,
        sum-cons (g t) c cs,
      )

-- ---- fixes that count alike where they are listed

abbrev Alike : Sought → Option Fix → Option Fix → Type 0
Alike look a b = (t : Fix → Bool) → ((v : Fix) → t v ≡ true → is_sought look v ≡ true) → count_if t a ≡ count_if t b

seen-Alike : (look : Sought) (a b : Option Fix) → Alike look a b → seen look a ≡ seen look b
seen-Alike look None None h = refl
seen-Alike look None (Some q) h = rw (one_if-false (is_sought look q) (sym (h (is_sought look) (λ p e. e))))
seen-Alike look (Some p) None h = rw (one_if-false (is_sought look p) (h (is_sought look) (λ q e. e)))
seen-Alike look (Some p) (Some q) h =
    by_cases (is_sought look p)
    (λ i. let t : Fix → Bool = λ x. both (is_sought look x) (same_place p.place x.place) in
    let w : (x : Fix) → t x ≡ true → is_sought look x ≡ true = λ x e. both_left _ _ e in
    by_cases (t q)
    (λ u. rw (i, both_left _ _ u, ← same_place-true p.place q.place (both_right _ _ u)))
    (λ u. absurd (omega (arith, h t w, ap one_if (both_intro i (same_place_refl p.place)), ap one_if u))))
    (λ i. by_cases (is_sought look q)
    (λ j. absurd (omega (arith, h (is_sought look) (λ x e. e), ap one_if i, ap one_if j)))
    (λ j. rw (i, j)))

-- ---- the table of a well-formed store

-- what the range would hold if it tested nothing
abbrev table_any : Sought → Store → Fixes
table_any look s = over (row_any (λ w. w.fix)) s.waiting (over (cell_any s.memo look) s.cells no_fixes)

module _ (s : Store) (w : WellFormed s) (look : Sought) (r : ℕ) (on : is_on s r ≡ true) where
  abbrev stored : Fixes
  stored = over (cell_any s.memo look) s.cells no_fixes

  cells-Placed : Each Placed s.cells
  cells-Placed = Each_map (GoodCell s.cuts) Placed s.cells (λ c g. record { rising = g.rising; placed = g.placed }) w.cells

  reports_find : table_any look s r ≡ found_or (λ x. x.fix) (find s.waiting r) (stored r)
  reports_find = over-find _ 0 s.waiting stored r w.waiting_rises

  latest_is : latest s r ≡ or_else (fix_of (find s.waiting r)) (stored_in s.memo r s.cells)
  unfolding latest
  latest_is = refl

  module _ (quiet : find s.waiting r ≡ None) where
    one_live : live_count s.memo r any_fix s.cells ≡ 1
    one_live = omega (arith, live_all s.memo r s.cells, w.present r, ap (λ (o : Option Report). one_if (was_new o)) quiet, ap one_if on)

    seen-stored : seen look (stored r) ≡ seen look (stored_in s.memo r s.cells)
    seen-stored =
        let l = one_live in
        seen-Alike look (stored r) (stored_in s.memo r s.cells)
        (λ t k. omega (
          arith,
          count_cells s.memo look r s.cells no_fixes cells-Placed (omega arith) t k,
          stored_count s.memo r s.cells (omega arith) t,
        ))

  pub seen-latest : seen look (table_any look s r) ≡ seen look (latest s r)
  seen-latest =
      option_cases (find s.waiting r)
      (λ e. ap (seen look) (reports_find ∙ ap (λ (o : Option Report). found_or (λ x. x.fix) o (stored r)) e)
      ∙ seen-stored e
      ∙ ap (seen look) (sym (latest_is ∙ ap (λ (o : Option Report). or_else (fix_of o) (stored_in s.memo r s.cells)) e)))
      (λ v e. ap (seen look) (reports_find ∙ ap (λ (o : Option Report). found_or (λ x. x.fix) o (stored r)) e
      ∙ sym (latest_is ∙ ap (λ (o : Option Report). or_else (fix_of o) (stored_in s.memo r s.cells)) e)))

-- ---- what is not listed has no place

-- The last row that names a radio tells its place, so it is the same whether each is tested as it is laid over the others, or what is left at the end.
module _ (look : Sought) where
  abbrev seen_at : Fixes → Places
  seen_at f r = seen look (f r)

  over_seen : {A : Type 0} (step : A → Fixes → Fixes) (tested : A → Places → Places) → ((x : A) (f : Fixes) → tested x (seen_at f) ≡ seen_at (step x f)) → (l : List A) (f : Fixes) → over tested l (seen_at f) ≡ seen_at (over step l f)
  unfolding over
  over_seen step tested h [] f = refl
  over_seen step tested h (x ∷ l) f = ap (over tested l) (h x f) ∙ over_seen step tested h l (step x f)

  put_seen : (r : ℕ) (o : Option Fix) (f : Fixes) → put_at r (seen look o) (seen_at f) ≡ seen_at (put_at r o f)
  put_seen r o f = fun_ext (λ q. by_cases (eqb q r) (λ t. rw t) (λ t. rw t))

  entry_seen : (old : Row Fix → Bool) (e : Row Fix) (f : Fixes) → entry_over old look e (seen_at f) ≡ seen_at (entry_any old e f)
  entry_seen old e f = by_cases (old e) (λ t. rw t) (λ t. rw t (put_seen e.key (Some e.val) f))

  entries_seen : (old : Row Fix → Bool) (l : Rows Fix) (f : Fixes) → entries_over old look l (seen_at f) ≡ seen_at (over (entry_any old) l f)
  unfolding entries_over
  entries_seen old = over_seen (entry_any old) _ (entry_seen old)

  -- a cell's entries that are not stale, each tested
  abbrev pub cell_over : Rows Line → Cell → Places → Places
  cell_over memo c f = cond (touches look.rect c.edges) (entries_over (stale memo) look c.entries f) f

  cell_seen : (memo : Rows Line) (c : Cell) (f : Fixes) → cell_over memo c (seen_at f) ≡ seen_at (cell_any memo look c f)
  cell_seen memo c f = by_cases (touches look.rect c.edges) (λ t. rw t (entries_seen (stale memo) c.entries f)) (λ t. rw t)

  abbrev pub table_of : Store → Places
  table_of s = reports_over look s.waiting (over (cell_over s.memo) s.cells no_places)

  pub table_seen : (s : Store) → table_of s ≡ seen_at (table_any look s)
  unfolding reports_over no_places
  table_seen s =
      ap (reports_over look s.waiting) (over_seen (cell_any s.memo look) (cell_over s.memo) (cell_seen s.memo) s.cells no_fixes)
      ∙ over_seen (row_any (λ w. w.fix)) _ (λ x f. put_seen x.key (Some x.val.fix) f) s.waiting _

-- ---- the same list

-- what is not too old is no earlier than the earliest that is listed
sought-listed : (rect : Rect) (minute : ℕ) (f : Fix) → is_sought (sought rect minute) f ≡ listed rect minute f
sought-listed rect minute f = ap (both (covers rect f.place)) late
  where
    late : leb (minute - kept_minutes) f.minute ≡ not (too_old minute f)
    late =
        by_cases (too_old minute f)
        (λ t. rw t (lt-leb (minute - kept_minutes) f.minute (omega (arith, ltb-true (f.minute + kept_minutes) minute t))))
        (λ t. rw t (le-leb (minute - kept_minutes) f.minute (omega (arith, ltb-false (f.minute + kept_minutes) minute t))))

list_if-seen : (rect : Rect) (minute r : ℕ) (o : Option Fix) (l : Rows Place) → list_if rect minute r o l ≡ put_row r (seen (sought rect minute) o) l
list_if-seen rect minute r None l = refl
list_if-seen rect minute r (Some f) l =
    by_cases (listed rect minute f) (λ t. rw (t, sought-listed rect minute f ∙ t)) (λ t. rw (t, sought-listed rect minute f ∙ t))

held_seen : (rect : Rect) (minute : ℕ) (f : Places) (g : Fixes) (l : Rows (Unit {0})) → Each (λ x. f x.key ≡ seen (sought rect minute) (g x.key)) l
    → list_held f l ≡ list_of rect minute g l
unfolding list_held list_of
held_seen rect minute f g [] e = refl
held_seen rect minute f g (x ∷ l) e =
    ap₂ (λ (o : Option Place) (m : Rows Place). put_row x.key o m) e.0 (held_seen rect minute f g l e.1)
    ∙ sym (list_if-seen rect minute x.key (g x.key) (list_of rect minute g l))

-- the radios on that have a place in the table are those that a range lists
pub found_table : (s : Store) → WellFormed s → (rect : Rect) (minute : ℕ) → list_held (table_of (sought rect minute) s) s.on ≡ found s rect minute
unfolding found
found_table s w rect minute =
    held_seen rect minute (table_of (sought rect minute) s) (latest s) s.on
    (find-Each (λ r _. table_of (sought rect minute) s r ≡ seen (sought rect minute) (latest s r)) 0 s.on w.rising_on
    (λ r v e. ap (λ (f : Places). f r) (table_seen (sought rect minute) s) ∙ seen-latest s w (sought rect minute) r (unfold is_on in ap is_some e)))
