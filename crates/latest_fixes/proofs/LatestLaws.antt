-- Why the columns have what the latest reports told. Looked at where one radio on stands: rows by rising radio tell it once at most, of the entries only one isn't
-- stale, whatever its cell, and the waiting reports come last.
use mathlib.Core.Path.{◌≡◌, refl, sym, ap, ◌∙◌}
use mathlib.Core.Bool.{Bool, true, not, cond}
use mathlib.Core.List.{List, [], ◌∷◌, map}
use Rattle.std.specs.Prelude.{Option, None, Some}
use Prim.Native.Nat.{ℕ, suc, ◌+◌, ◌≤◌, ◌<◌}
use native.Mathlib.Omega.{arith}
use lib.Dec.{eqb}
use lib.ListN.{length, get_or}
use borrow.Author.Tests.{eqb-true}
use Rattle.terms.specs.Terms.{Fix}
use Rattle.lists.specs.Parts.{tab}
use Rattle.lists.specs.Rows.{Row, Rows, Rising, find, passed}
use Rattle.lists.specs.Tests.{one_if, is_some, or_else, Each}
use Rattle.lists.proofs.Cases.{by_cases, option_cases, false-true}
use Rattle.lists.proofs.RowsLaws.{find_below, passed-true}
use Rattle.lists.proofs.SumsLaws.{sum-cons}
use Rattle.lists.proofs.TestsLaws.{Each_map, one_if-le}
use Rattle.rules.specs.Store.{Report, Line, Cell, Store}
use Rattle.rules.specs.Sweep.{stale_by, stale}
use Rattle.rules.specs.Carry.{is_on, live_in, stored_in, fix_of, latest}
use Rattle.rules.specs.WellFormed.{WellFormed, GoodCell, count_if, live_of}
use Rattle.rules.specs.Everyone.{rows_of}
use Rattle.rules.proofs.LiveLaws.{stored_none}
use Rattle.rules.proofs.WatchesLaws.{latest_on}
use Rattle.desk.specs.Views.{radio_row}
use Rattle.range_places.specs.Places.{over}
use Rattle.latest_fixes.specs.Fixes.{Fixes, retold, entry_told, report_told}

-- what was told, if anything
abbrev told_or : Option Fix → Fix → Fix
told_or None f = f
told_or (Some g) f = g

told_first : (a b : Option Fix) (f : Fix) → told_or a (told_or b f) ≡ told_or (or_else a b) f
told_first None b f = refl
told_first (Some g) b f = refl

told_some : (o : Option Fix) (f : Fix) → is_some o ≡ true → o ≡ Some (told_or o f)
told_some None f e = false-true e
told_some (Some g) f e = refl

-- a cell's entries that are not stale
abbrev pub cell_told : List ℕ → Rows Line → Cell → Fixes → Fixes
cell_told seats memo c = over (entry_told seats (stale memo)) c.entries

-- ---- a live entry, counted

one_live : (memo : Rows Line) (r : ℕ) (c : Cell) (f : Fix) → live_in memo r c ≡ Some f → count_if (λ g. not (stale_by (find memo r) g)) (find c.entries r) ≡ 1
unfolding live_in
one_live memo r c f e =
    let p = passed-true (λ x. not (stale memo x)) r (find c.entries r) f e in
    ap (count_if (λ g. not (stale_by (find memo r) g))) p.0 ∙ ap one_if p.1

live_cell : (memo : Rows Line) (r : ℕ) (c : Cell) (cs : List Cell) → live_of memo r (c ∷ cs) ≡ count_if (λ g. not (stale_by (find memo r) g)) (find c.entries r) + live_of memo r cs
unfolding live_of
live_cell memo r c cs = sum-cons _ c cs

-- ---- at the place where one radio stands

module _ (seats : List ℕ) (i r : ℕ) (own : (q : ℕ) → eqb (get_or seats q 0) (suc i) ≡ eqb r q) where
  own_told : (q : ℕ) (v : Fix) (f : Fixes) → retold seats q v f i ≡ cond (eqb r q) v (f i)
  own_told q v f = ap (λ (t : Bool). cond t v (f i)) (own q)

  reports_over : (b : ℕ) (l : Rows Report) (f : Fixes) → Rising b l → over (report_told seats) l f i ≡ told_or (fix_of (find l r)) (f i)
  unfolding over find
  reports_over b [] f a = refl
  reports_over b (x ∷ xs) f a =
      reports_over x.key xs (report_told seats x f) a.1
      ∙ ap (told_or (fix_of (find xs r))) (own_told x.key x.val.fix f)
      ∙ by_cases (eqb r x.key)
      (λ t. rw (t, find_below r x.key xs (omega (arith, eqb-true r x.key t)) a.1))
      (λ t. rw t)

  entry_own : (old : Row Fix → Bool) (x : Row Fix) (f : Fixes) → entry_told seats old x f i ≡ cond (old x) (f i) (cond (eqb r x.key) x.val (f i))
  entry_own old x f = by_cases (old x) (λ t. rw t) (λ t. rw t (own_told x.key x.val f))

  entries_over : (old : Row Fix → Bool) (b : ℕ) (l : Rows Fix) (f : Fixes) → Rising b l → over (entry_told seats old) l f i ≡ told_or (passed (λ e. not (old e)) r (find l r)) (f i)
  unfolding over find
  entries_over old b [] f a = refl
  entries_over old b (x ∷ xs) f a =
      entries_over old x.key xs (entry_told seats old x f) a.1
      ∙ ap (told_or (passed (λ e. not (old e)) r (find xs r))) (entry_own old x f)
      ∙ by_cases (eqb r x.key)
      (λ t. let e = eqb-true r x.key t in
      let same : old (record { key = r; val = x.val }) ≡ old x = ap (λ (q : ℕ). old (record { key = q; val = x.val })) e in
      rw (t, find_below r x.key xs (omega arith) a.1, same) (by_cases (old x) (λ s. rw s) (λ s. rw s)))
      (λ t. by_cases (old x) (λ s. rw (t, s)) (λ s. rw (t, s)))

  module _ (memo : Rows Line) where
    cell_over : (c : Cell) (f : Fixes) → Rising 0 c.entries → cell_told seats memo c f i ≡ told_or (live_in memo r c) (f i)
    unfolding live_in
    cell_over c f a = entries_over (stale memo) 0 c.entries f a

    -- the last that isn't stale is the first, for it is the only one
    cells_over : (cells : List Cell) (f : Fixes) → Each (λ c. Rising 0 c.entries) cells → live_of memo r cells ≤ 1 → over (cell_told seats memo) cells f i ≡ told_or (stored_in memo r cells) (f i)
    unfolding over stored_in
    cells_over [] f a h = refl
    cells_over (c ∷ cs) f a h =
        cells_over cs (cell_told seats memo c f) a.1 (omega (arith, live_cell memo r c cs))
        ∙ ap (told_or (stored_in memo r cs)) (cell_over c f a.0)
        ∙ option_cases (live_in memo r c)
        (λ e. rw e)
        (λ g e. rw (e, stored_none memo r cs (omega (arith, live_cell memo r c cs, one_live memo r c g e))))

  -- ---- of a well-formed store

  pub told_latest : (s : Store) → WellFormed s → (f : Fixes) → over (report_told seats) s.waiting (over (cell_told seats s.memo) s.cells f) i ≡ told_or (latest s r) (f i)
  unfolding latest
  told_latest s w f =
      reports_over 0 s.waiting (over (cell_told seats s.memo) s.cells f) w.waiting_rises
      ∙ ap (told_or (fix_of (find s.waiting r)))
      (cells_over s.memo s.cells f (Each_map (GoodCell s.cuts) (λ c. Rising 0 c.entries) s.cells (λ c g. g.rising) w.cells) (omega (arith, w.present r, one_if-le (is_on s r))))
      ∙ told_first (fix_of (find s.waiting r)) (stored_in s.memo r s.cells) (f i)

  -- a radio on has a latest report
  pub latest_told : (s : Store) → WellFormed s → is_on s r ≡ true → (f : Fixes) → latest s r ≡ Some (over (report_told seats) s.waiting (over (cell_told seats s.memo) s.cells f) i)
  latest_told s w on f = told_some (latest s r) (f i) (latest_on s w r ∙ on) ∙ ap Some (sym (told_latest s w f))

-- ---- a row for each

abbrev pub row_with : ℕ → Fix → Row Fix
row_with r f = record { key = r; val = f }

pub rows_told : (f : ℕ → Option Fix) (g : ℕ → Fix) (l : List ℕ) → ((i : ℕ) → i < length l → f (get_or l i 0) ≡ Some (g i))
    → tab (length l) (λ i. row_with (get_or l i 0) (g i)) ≡ rows_of f (map radio_row l)
unfolding tab rows_of
rows_told f g [] h = refl
rows_told f g (r ∷ l) h = rw (h 0 (omega arith)) (ap (λ (rest : Rows Fix). row_with r (g 0) ∷ rest) (rows_told f (λ i. g (suc i)) l (λ i k. h (suc i) (omega arith))))
