-- Why the table has the latest places though no entry is judged. A radio on that has no waiting report has one entry that isn't stale. Where it has no memo line
-- it has no other entry, and the table has that one's place. Where it has a line, that entry has the line's place, which lies over all entries.
use mathlib.Core.Bool.{Bool, true, false, not}
use mathlib.Core.List.{List, [], ◌∷◌, map}
use Rattle.std.specs.Prelude.{Option, None, Some}
use mathlib.Core.Path.{◌≡◌, refl, sym, ap, ap₂, ◌∙◌, subst}
use Prim.Native.Nat.{ℕ}
use native.Mathlib.Omega.{arith}
use lib.Dec.{eqb}
use lib.ListN.{take}
use borrow.Author.Tests.{eqb-true}
use Rattle.terms.specs.Terms.{Place, Fix}
use Rattle.lists.specs.Rows.{Rows, Rising, find, passed}
use Rattle.lists.specs.Sums.{sum_by}
use Rattle.lists.specs.Tests.{one_if, or_else, Each}
use Rattle.lists.proofs.Cases.{by_cases, option_cases, false-true, none-some, some_injective, is_some-true, or_else_cases}
use Rattle.lists.proofs.RowsLaws.{find_below}
use Rattle.lists.proofs.SumsLaws.{sum-cons, sum-nil}
use Rattle.lists.proofs.TestsLaws.{Each_map}
use Rattle.rules.specs.Grid.{same_place}
use Rattle.rules.specs.Store.{Report, Cell, Store, Line as StoreLine}
use Rattle.rules.specs.Sweep.{stale_by, stale}
use Rattle.rules.specs.Carry.{is_on, was_new, live_in, stored_in, fix_of, latest}
use Rattle.rules.specs.Plain.{place_of}
use Rattle.rules.specs.Watches.{latest_place}
use Rattle.rules.specs.WellFormed.{GoodCell, count_if, live_of}
use Rattle.rules.proofs.PlaceLaws.{same_place-true}
use Rattle.rules.proofs.WatchesLaws.{latest_on}
use Rattle.desk.specs.declared.Line.{Line}
use Rattle.desk.specs.declared.Slot.{Slot}
use Rattle.desk.specs.Held.{Ledger, ledger_grid, ledger_waiting}
use Rattle.desk.specs.Sound.{SoundLedger}
use Rattle.desk.specs.Views.{slots_in}
use Rattle.memo.specs.Memo.{row_of, lines_of}
use Rattle.memo.proofs.MemoLaws.{lines_are}
use Rattle.waiting.specs.Waiting.{reports_of}
use Rattle.waiting.proofs.WaitingLaws.{reports_laid}
use Rattle.range_places.specs.Places.{Places, over, row_over, entries_over, reports_over, slot_over}
use Rattle.range.proofs.LatestLaws.{cell_over}
use Rattle.range.proofs.StoreLaws.{cells-Read, cells_over, slots_Laid, cells_are, waiting_is, memo_is}
use Rattle.latest_places.specs.Latest.{anywhere, unjudged, place_by, places_by, line_over, lines_over}
use Rattle.latest_places.proofs.TellLaws.{seen_all, touched_all}

-- ---- rows by rising radio: each radio has at most one

abbrev held_or : Option Fix → Option Place → Option Place
held_or None o = o
held_or (Some f) o = Some f.place

abbrev told : {Val : Type 0} → (Val → Fix) → Option Val → Option Fix
told fix None = None
told fix (Some v) = Some (fix v)

row_found : {Val : Type 0} (fix : Val → Fix) (b : ℕ) (l : Rows Val) (f : Places) (r : ℕ) → Rising b l → over (row_over anywhere fix) l f r ≡ held_or (told fix (find l r)) (f r)
unfolding over find
row_found fix b [] f r a = refl
row_found fix b (x ∷ xs) f r a =
    row_found fix x.key xs (row_over anywhere fix x f) r a.1
    ∙ by_cases (eqb r x.key)
    (λ t. rw (t, find_below r x.key xs (omega (arith, eqb-true r x.key t)) a.1) (seen_all (Some (fix x.val))))
    (λ t. rw t)

-- ---- cells

entries_found : (l : Rows Fix) (f : Places) (r : ℕ) → Rising 0 l → entries_over unjudged anywhere l f r ≡ held_or (find l r) (f r)
entries_found l f r a = unfold entries_over in unfold find in (row_found (λ v. v) 0 l f r a ∙ told_same (find l r) (f r))
  where
    told_same : (o : Option Fix) (p : Option Place) → held_or (told (λ v. v) o) p ≡ held_or o p
    told_same None p = refl
    told_same (Some v) p = refl

module _ (r : ℕ) where
  abbrev step : Cell → Places → Places
  step = cell_over anywhere []

  cell_found : (c : Cell) (f : Places) → Rising 0 c.entries → step c f r ≡ held_or (find c.entries r) (f r)
  cell_found c f a = rw (touched_all c.edges) (entries_found c.entries f r a)

  abbrev any_fix : Fix → Bool
  any_fix f = true

  abbrev entry_count : List Cell → ℕ
  entry_count = sum_by (λ c. count_if any_fix (find c.entries r))

  entry_none : (o : Option Fix) → count_if any_fix o ≡ 0 → o ≡ None
  entry_none None e = refl
  entry_none (Some f) e = absurd (omega arith)

  cells_none : (cells : List Cell) (f : Places) → Each (λ c. Rising 0 c.entries) cells → entry_count cells ≡ 0 → over step cells f r ≡ f r
  unfolding over
  cells_none [] f a e = refl
  cells_none (c ∷ cs) f a e =
      let s = sum-cons (λ (x : Cell). count_if any_fix (find x.entries r)) c cs in
      cells_none cs (step c f) a.1 (omega arith) ∙ cell_found c f a.0 ∙ ap (λ (o : Option Fix). held_or o (f r)) (entry_none (find c.entries r) (omega arith))

  module _ (memo : Rows StoreLine) (bare : find memo r ≡ None) where
    live_any : (c : Cell) → live_in memo r c ≡ find c.entries r
    unfolding live_in
    live_any c = option_cases (find c.entries r) (λ e. rw e) (λ v e. rw (e, bare))

    cells_one : (cells : List Cell) (f : Places) → Each (λ c. Rising 0 c.entries) cells → entry_count cells ≡ 1 → over step cells f r ≡ place_of (stored_in memo r cells)
    unfolding over stored_in
    cells_one [] f a e = absurd (omega (arith, sum-nil (λ (x : Cell). count_if any_fix (find x.entries r))))
    cells_one (c ∷ cs) f a e =
        let s = sum-cons (λ (x : Cell). count_if any_fix (find x.entries r)) c cs in
        option_cases (find c.entries r)
        (λ o. cells_one cs (step c f) a.1 (omega (arith, ap (count_if any_fix) o)) ∙ ap (λ (q : Option Fix). place_of (or_else q (stored_in memo r cs))) (sym (live_any c ∙ o)))
        (λ v o. cells_none cs (step c f) a.1 (omega (arith, ap (count_if any_fix) o)) ∙ cell_found c f a.0 ∙ ap (λ (q : Option Fix). held_or q (f r)) o
        ∙ ap (λ (q : Option Fix). place_of (or_else q (stored_in memo r cs))) (sym (live_any c ∙ o)))

    live_count : (cells : List Cell) → live_of memo r cells ≡ entry_count cells
    unfolding live_of
    live_count cells = ap (λ (o : Option StoreLine). sum_by (λ c. count_if (λ f. not (stale_by o f)) (find c.entries r)) cells) bare

  -- what is stored is not stale
  live_fresh : (memo : Rows StoreLine) (o : Option Fix) (v : Fix) → passed (λ e. not (stale memo e)) r o ≡ Some v → stale_by (find memo r) v ≡ false
  live_fresh memo None v e = none-some e
  live_fresh memo (Some f) v e =
      by_cases (stale_by (find memo r) f)
      (λ t. none-some (rw t at e))
      (λ t. ap (stale_by (find memo r)) (sym (some_injective (rw t at e))) ∙ t)

  stored_fresh : (memo : Rows StoreLine) (cells : List Cell) (v : Fix) → stored_in memo r cells ≡ Some v → stale_by (find memo r) v ≡ false
  unfolding stored_in live_in
  stored_fresh memo [] v e = none-some e
  stored_fresh memo (c ∷ cs) v e = or_else_cases (live_in memo r c) (stored_in memo r cs) v e (live_fresh memo (find c.entries r) v) (stored_fresh memo cs v)

  at_line : (l : StoreLine) (v : Fix) → stale_by (Some l) v ≡ false → l.last ≡ Some v.place
  at_line l v e =
      option_cases l.last
      (λ n. false-true (sym (rw n at e)))
      (λ p n. n ∙ ap (λ (q : Place). Some q) (same_place-true p v.place (by_cases (same_place p v.place) (λ t. t) (λ t. false-true (sym (rw (n, t) at e))))))

  -- ---- lines by rising radio

  lines_none : (l : List Line) (f : Places) → find (map row_of l) r ≡ None → over line_over l f r ≡ f r
  unfolding over find
  lines_none [] f e = refl
  lines_none (x ∷ xs) f e =
      by_cases (eqb r x.radio)
      (λ t. none-some (sym (rw t at e)))
      (λ t. lines_none xs (line_over x f) (rw t at e) ∙ rw t)

  last_place : (x : Line) (p : Place) → (row_of x).val.last ≡ Some p → record { east = x.east; north = x.north } ≡ p
  last_place x p = by_cases (eqb x.placed 0) (λ t. rw t (λ e. none-some e)) (λ t. rw t (λ e. some_injective e))

  lines_some : (b : ℕ) (l : List Line) (f : Places) (v : StoreLine) (p : Place) → Rising b (map row_of l) → find (map row_of l) r ≡ Some v → v.last ≡ Some p → over line_over l f r ≡ Some p
  unfolding over find
  lines_some b [] f v p a e h = none-some e
  lines_some b (x ∷ xs) f v p a e h =
      by_cases (eqb r x.radio)
      (λ t. lines_none xs (line_over x f) (find_below r x.radio (map row_of xs) (omega (arith, eqb-true r x.radio t)) a.1)
      ∙ rw t (ap (λ (q : Place). Some q) (last_place x p (ap (λ (y : StoreLine). y.last) (some_injective (rw t at e)) ∙ h))))
      (λ t. lines_some x.radio xs (line_over x f) v p a.1 (rw t at e) h)

-- ---- of a sound ledger

-- what lies in the table at the end: the waiting reports over the lines, these over the entries, over what it had
abbrev pub laid_over : Ledger → List ℕ → Places → Places
laid_over ledger b f =
    reports_over anywhere (reports_of (ledger_waiting ledger))
    (lines_over (take ledger.parts.lines ledger.memo) (over (slot_over unjudged b anywhere) (slots_in (ledger_grid ledger).cells) f))

module _ (ledger : Ledger) (b : List ℕ) (s : SoundLedger ledger b) (f : Places) (r : ℕ) (on : is_on s.store r ≡ true) where
  abbrev st : Store
  st = s.store

  abbrev lines : List Line
  lines = take ledger.parts.lines ledger.memo

  abbrev stored : Places
  stored = over (step r) st.cells f

  stored_is : over (slot_over unjudged b anywhere) (slots_in (ledger_grid ledger).cells) f ≡ stored
  stored_is =
      ap (λ (x : List Slot). over (slot_over unjudged b anywhere) x f) (slots_Laid (ledger_grid ledger).cells st.cells (cells_are st b ledger s.well s.laid s.held))
      ∙ cells_over [] b anywhere st.cells f (cells-Read st b s.well s.laid)

  lines_laid : map row_of lines ≡ st.memo
  unfolding lines_of
  lines_laid = lines_are st.memo (memo_is st b ledger s.well s.laid s.held)

  reports_are : reports_of (ledger_waiting ledger) ≡ st.waiting
  reports_are = reports_laid (waiting_is st b ledger s.well s.laid s.held)

  latest_is : latest st r ≡ or_else (fix_of (find st.waiting r)) (stored_in st.memo r st.cells)
  unfolding latest
  latest_is = refl

  entries_rise : Each (λ c. Rising 0 c.entries) st.cells
  entries_rise = Each_map (GoodCell st.cuts) _ st.cells (λ c g. g.rising) s.well.cells

  module _ (quiet : find st.waiting r ≡ None) where
    stored_latest : latest st r ≡ stored_in st.memo r st.cells
    stored_latest = latest_is ∙ ap (λ (o : Option Report). or_else (fix_of o) (stored_in st.memo r st.cells)) quiet

    without_line : find st.memo r ≡ None → over line_over lines stored r ≡ latest_place st r
    without_line bare =
        lines_none r lines stored (ap (λ (l : Rows StoreLine). find l r) lines_laid ∙ bare)
        ∙ cells_one r st.memo bare st.cells f entries_rise
        (omega (arith, live_count r st.memo bare st.cells, s.well.present r, ap (λ (o : Option Report). one_if (was_new o)) quiet, ap one_if on))
        ∙ ap place_of (sym stored_latest)

    with_line : (l : StoreLine) → find st.memo r ≡ Some l → over line_over lines stored r ≡ latest_place st r
    with_line l e =
        is_some-true (latest st r) (latest_on st s.well r ∙ on)
        (λ v h.
        let fresh = stored_fresh r st.memo st.cells v (sym stored_latest ∙ h) in
        lines_some r 0 lines stored l v.place (subst (λ (x : Rows StoreLine). Rising 0 x) (sym lines_laid) s.well.memo_rises) (ap (λ (x : Rows StoreLine). find x r) lines_laid ∙ e)
        (at_line r l v (ap (λ (o : Option StoreLine). stale_by o v) (sym e) ∙ fresh))
        ∙ ap place_of (sym h))

    quiet_place : lines_over lines stored r ≡ latest_place st r
    unfolding lines_over
    quiet_place = option_cases (find st.memo r) without_line with_line

  reports_over_lem : (g : Places) → reports_over anywhere st.waiting g r ≡ held_or (fix_of (find st.waiting r)) (g r)
  unfolding reports_over
  reports_over_lem g = row_found (λ w. w.fix) 0 st.waiting g r s.well.waiting_rises ∙ ap (λ (o : Option Fix). held_or o (g r)) (same (find st.waiting r))
    where
      same : (o : Option Report) → told (λ w. w.fix) o ≡ fix_of o
      same None = refl
      same (Some w) = refl

  laid_latest : laid_over ledger b f r ≡ latest_place st r
  laid_latest =
      ap₂ (λ (x : Rows Report) (g : Places). reports_over anywhere x (lines_over lines g) r) reports_are stored_is
      ∙ reports_over_lem (lines_over lines stored)
      ∙ option_cases (find st.waiting r)
      (λ e. ap (λ (o : Option Report). held_or (fix_of o) (lines_over lines stored r)) e ∙ quiet_place e)
      (λ w e. ap (λ (o : Option Report). held_or (fix_of o) (lines_over lines stored r)) e
      ∙ ap place_of (sym (latest_is ∙ ap (λ (o : Option Report). or_else (fix_of o) (stored_in st.memo r st.cells)) e)))

  pub latest_told : (easts norths : List ℕ) → places_by easts norths ≡ laid_over ledger b f → latest_place st r ≡ Some (place_by easts norths r)
  unfolding places_by
  latest_told easts norths e = sym (ap (λ (g : Places). g r) e ∙ laid_latest)

-- the three passes, one over the other
pub all_told : (ledger : Ledger) (b : List ℕ) (f₀ f₁ f₂ f₃ : Places) → f₁ ≡ over (slot_over unjudged b anywhere) (slots_in (ledger_grid ledger).cells) f₀
    → f₂ ≡ lines_over (take ledger.parts.lines ledger.memo) f₁ → f₃ ≡ reports_over anywhere (reports_of (ledger_waiting ledger)) f₂
    → f₃ ≡ laid_over ledger b f₀
all_told ledger b f₀ f₁ f₂ f₃ h₁ h₂ h₃ = h₃ ∙ ap (reports_over anywhere (reports_of (ledger_waiting ledger))) (h₂ ∙ ap (lines_over (take ledger.parts.lines ledger.memo)) h₁)
