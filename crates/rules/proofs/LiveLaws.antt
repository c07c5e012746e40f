-- What a radio's live entry has, through every step. Live entries that pass a test are a sum, and the sum for every test tells the entry.
use mathlib.Core.Path.{◌≡◌, refl, sym, ap, ap₂, ◌∙◌}
use mathlib.Core.Logic.{◌≢◌}
use mathlib.Core.Bool.{Bool, true, false, not, cond}
use mathlib.Core.List.{List, [], ◌∷◌, ◌++◌}
use Rattle.std.specs.Prelude.{Option, None, Some}
use Prim.Native.Nat.{ℕ, ◌+◌, ◌-◌, ◌≤◌, ◌<◌}
use native.Mathlib.Omega.{arith}
use lib.Dec.{eqb, ltb}
use borrow.Author.Tests.{ltb-false, eqb-true, ne_eqb, eq-eqb}
use Rattle.terms.specs.Terms.{Place, Fix}
use Rattle.lists.specs.Rows.{Row, Rows, Rising, find, alter, merge, passed}
use Rattle.lists.specs.Sums.{sum_by, filter}
use Rattle.lists.specs.Tests.{one_if, both, either, is_some, or_else, Each}
use Rattle.lists.proofs.Cases.{by_cases, option_cases, none-some}
use Rattle.lists.proofs.TestsLaws.{both_intro, both_left, both_right, both-true, true-both, both_left_false, one_if-both-le, one_if-le, one_if-either, one_if-false}
use Rattle.lists.proofs.SumsLaws.{sum-cons, sum-append, sum_ext, sum-le, sum_zero}
use Rattle.lists.proofs.RowsLaws.{find_below, Rising-alter, find-alter, Rising-filter, find-filter}
use Rattle.rules.specs.Grid.{same_place, inside, Box}
use Rattle.rules.specs.Store.{Report, Line, Cell, Store, others, settled, missed_of, with_entries}
use Rattle.rules.specs.Sweep.{stale_by, stale, lowered, swept_memo, swept}
use Rattle.rules.specs.Cut.{Cut, low_side}
use Rattle.rules.specs.Flush.{raised, entered, Work, enter, enter_each, in_box, flushed_into, low_cell, high_cell}
use Rattle.rules.specs.Carry.{live_in, stored_in, fix_of}
use Rattle.rules.specs.WellFormed.{count_if, live_of}
use Rattle.rules.specs.Parts.{stale_r, Rowed, Books, Clean}
use Rattle.rules.proofs.BooksLaws.{lowered_if, find-swept_memo, find-swept, count_passed, away, count_joined}
use Rattle.rules.proofs.PlaceLaws.{same_place_refl, same_place-true}

-- ---- live entries by a test

-- 1 for an entry that isn't stale by the line and passes the test
abbrev pub count_live : (Fix → Bool) → Option Line → Option Fix → ℕ
count_live t o = count_if (λ f. both (not (stale_by o f)) (t f))

-- the live entries of a radio that pass
unfoldable pub live_by : (Fix → Bool) → Rows Line → ℕ → List Cell → ℕ
live_by t memo r cells = sum_by (λ c. count_live t (find memo r) (find c.entries r)) cells

pub live_cons : (t : Fix → Bool) (memo : Rows Line) (r : ℕ) (c : Cell) (cs : List Cell) →
    live_by t memo r (c ∷ cs) ≡ count_live t (find memo r) (find c.entries r) + live_by t memo r cs
unfolding live_by
live_cons t memo r c cs = sum-cons _ c cs

pub live_append : (t : Fix → Bool) (memo : Rows Line) (r : ℕ) (a b : List Cell) → live_by t memo r (a ++ b) ≡ live_by t memo r a + live_by t memo r b
unfolding live_by
live_append t memo r a b = sum-append _ a b

-- the order of the cells does not matter
pub live_order : (t : Fix → Bool) (memo : Rows Line) (r : ℕ) (a b : List Cell) → ((f : Cell → ℕ) → sum_by f a ≡ sum_by f b) → live_by t memo r a ≡ live_by t memo r b
unfolding live_by
live_order t memo r a b h = h _

pub live_swap : (t : Fix → Bool) (memo : Rows Line) (r : ℕ) (a d : Cell) (rest : List Cell) → live_by t memo r (a ∷ d ∷ rest) ≡ live_by t memo r (d ∷ a ∷ rest)
live_swap t memo r a d rest = omega (arith, live_cons t memo r a (d ∷ rest), live_cons t memo r d rest, live_cons t memo r d (a ∷ rest), live_cons t memo r a rest)

pub live_back : (t : Fix → Bool) (memo : Rows Line) (r : ℕ) (a b : List Cell) → live_by t memo r (a ++ b) ≡ live_by t memo r (b ++ a)
live_back t memo r a b = omega (arith, live_append t memo r a b, live_append t memo r b a)

-- only the radio's own line counts
pub live_line : (t : Fix → Bool) (memo memo' : Rows Line) (r : ℕ) (cells : List Cell) → find memo' r ≡ find memo r → live_by t memo' r cells ≡ live_by t memo r cells
unfolding live_by
live_line t memo memo' r cells e = ap (λ o. sum_by (λ c. count_live t o (find c.entries r)) cells) e

-- only a cell's entry of the radio counts
pub live_entry : (t : Fix → Bool) (memo : Rows Line) (r : ℕ) (c c' : Cell) (cs : List Cell) → find c'.entries r ≡ find c.entries r → live_by t memo r (c' ∷ cs) ≡ live_by t memo r (c ∷ cs)
live_entry t memo r c c' cs e = live_cons t memo r c' cs ∙ ap (λ x. count_live t (find memo r) x + live_by t memo r cs) e ∙ sym (live_cons t memo r c cs)

pub live_settled : (t : Fix → Bool) (memo : Rows Line) (r : ℕ) (free : List ℕ) (c : Cell) (cs : List Cell) → live_by t memo r (settled free c ∷ cs) ≡ live_by t memo r (c ∷ cs)
unfolding settled
live_settled t memo r free c cs = live_entry t memo r c (settled free c) cs refl

-- the entry of one cell: any that is not stale, and at most these
count_true : (o : Option Line) (e : Option Fix) → count_live (λ _. true) o e ≡ count_if (λ p. not (stale_by o p)) e
count_true o None = refl
count_true o (Some p) = ap one_if (both-true (not (stale_by o p)))

count_le : (t : Fix → Bool) (o : Option Line) (e : Option Fix) → count_live t o e ≤ count_if (λ p. not (stale_by o p)) e
count_le t o None = omega arith
count_le t o (Some p) = one_if-both-le (not (stale_by o p)) (t p)

pub live_true : (memo : Rows Line) (r : ℕ) (cells : List Cell) → live_by (λ _. true) memo r cells ≡ live_of memo r cells
unfolding live_by live_of
live_true memo r cells = sum_ext _ _ cells (λ c. count_true (find memo r) (find c.entries r))

pub live_le : (t : Fix → Bool) (memo : Rows Line) (r : ℕ) (cells : List Cell) → live_by t memo r cells ≤ live_of memo r cells
unfolding live_by live_of
live_le t memo r cells = sum-le _ _ cells (λ c. count_le t (find memo r) (find c.entries r))

-- ---- the first live entry, read off

-- the one of a cell
count_live_lem : (t : Fix → Bool) (memo : Rows Line) (r : ℕ) (e : Option Fix) → count_live t (find memo r) e ≡ count_if t (passed (λ x. not (stale memo x)) r e)
unfolding both
count_live_lem t memo r None = refl
count_live_lem t memo r (Some p) = by_cases (not (stale_by (find memo r) p)) (λ s. rw s) (λ s. rw s)

live_step : (t : Fix → Bool) (memo : Rows Line) (r : ℕ) (c : Cell) (cs : List Cell) → live_by t memo r (c ∷ cs) ≡ count_if t (live_in memo r c) + live_by t memo r cs
unfolding live_in
live_step t memo r c cs = live_cons t memo r c cs ∙ ap (λ n. n + live_by t memo r cs) (count_live_lem t memo r (find c.entries r))

none_live : (t : Fix → Bool) (memo : Rows Line) (r : ℕ) (c : Cell) (cs : List Cell) → live_in memo r c ≡ None → live_by t memo r (c ∷ cs) ≡ live_by t memo r cs
none_live t memo r c cs e = omega (arith, live_step t memo r c cs, ap (count_if t) e)

some_live : (t : Fix → Bool) (memo : Rows Line) (r : ℕ) (c : Cell) (cs : List Cell) (f : Fix) → live_in memo r c ≡ Some f → live_by t memo r (c ∷ cs) ≡ one_if (t f) + live_by t memo r cs
some_live t memo r c cs f e = omega (arith, live_step t memo r c cs, ap (count_if t) e)

stored_step : (memo : Rows Line) (r : ℕ) (c : Cell) (cs : List Cell) → stored_in memo r (c ∷ cs) ≡ or_else (live_in memo r c) (stored_in memo r cs)
unfolding stored_in
stored_step memo r c cs = refl

stored_nil : (memo : Rows Line) (r : ℕ) → stored_in memo r [] ≡ None
unfolding stored_in
stored_nil memo r = refl

live_nil : (t : Fix → Bool) (memo : Rows Line) (r : ℕ) → live_by t memo r [] ≡ 0
unfolding live_by sum_by
live_nil t memo r = refl

-- no live entry, and no place
none_stored : (memo : Rows Line) (r : ℕ) (cells : List Cell) → live_by (λ _. true) memo r cells ≡ 0 → stored_in memo r cells ≡ None
none_stored memo r [] h = stored_nil memo r
none_stored memo r (c ∷ cs) h =
    option_cases (live_in memo r c)
    (λ e. rw (stored_step memo r c cs, e) (none_stored memo r cs (omega (arith, none_live (λ _. true) memo r c cs e))))
    (λ p e. absurd (omega (arith, some_live (λ _. true) memo r c cs p e)))

pub stored_none : (memo : Rows Line) (r : ℕ) (cells : List Cell) → live_of memo r cells ≡ 0 → stored_in memo r cells ≡ None
stored_none memo r cells h = none_stored memo r cells (live_true memo r cells ∙ h)

none_counted : (memo : Rows Line) (r : ℕ) (cells : List Cell) → stored_in memo r cells ≡ None → live_by (λ _. true) memo r cells ≡ 0
none_counted memo r [] h = live_nil (λ _. true) memo r
none_counted memo r (c ∷ cs) h =
    option_cases (live_in memo r c)
    (λ e. none_live (λ _. true) memo r c cs e ∙ none_counted memo r cs (rw (stored_step memo r c cs, e) at h))
    (λ p e. let z : ◌≡◌ {A = Option Fix} (Some p) None = rw (stored_step memo r c cs, e) at h in cc)

pub stored_live : (memo : Rows Line) (r : ℕ) (cells : List Cell) → stored_in memo r cells ≡ None → live_of memo r cells ≡ 0
stored_live memo r cells h = sym (live_true memo r cells) ∙ none_counted memo r cells h

abbrev same_fix : Fix → Fix → Bool
same_fix f g = both (same_place f.place g.place) (eqb f.minute g.minute)

same_fix_refl : (f : Fix) → same_fix f f ≡ true
same_fix_refl f = both_intro (same_place_refl f.place) (eq-eqb f.minute f.minute refl)

same_fix-true : (f g : Fix) → same_fix f g ≡ true → f ≡ g
same_fix-true f g s =
    let p = same_place-true f.place g.place (both_left _ _ s) in
    let m = eqb-true f.minute g.minute (both_right _ _ s) in
    λ i. record { place = p i; minute = m i }

-- one live entry, f: the test "is it f?" tells that the first one is f, the test that all pass that no other follows
pub stored_at : (memo : Rows Line) (r : ℕ) (cells : List Cell) (f : Fix) → ((t : Fix → Bool) → live_by t memo r cells ≡ one_if (t f)) → stored_in memo r cells ≡ Some f
stored_at memo r [] f h = absurd (omega (arith, h (λ _. true), live_nil (λ _. true) memo r))
stored_at memo r (c ∷ cs) f h =
    option_cases (live_in memo r c)
    (λ e. rw (stored_step memo r c cs, e) (stored_at memo r cs f (λ t. sym (none_live t memo r c cs e) ∙ h t)))
    (λ g e. rw (stored_step memo r c cs, e) (by_cases (same_fix f g)
    (λ s. ap Some (sym (same_fix-true f g s)))
    (λ s. absurd (omega (
      arith,
      h (λ _. true),
      some_live (λ _. true) memo r c cs g e,
      h (same_fix f),
      some_live (same_fix f) memo r c cs g e,
      ap one_if s,
      ap one_if (same_fix_refl f),
      live_le (same_fix f) memo r cs,
      live_true memo r cs,
    )))))

pub stored_some : (memo : Rows Line) (r : ℕ) (cells : List Cell) (f : Fix) → stored_in memo r cells ≡ Some f → live_of memo r cells ≤ 1
    → (t : Fix → Bool) → live_by t memo r cells ≡ one_if (t f)
stored_some memo r [] f h b t = let z : ◌≡◌ {A = Option Fix} None (Some f) = sym (stored_nil memo r) ∙ h in cc
stored_some memo r (c ∷ cs) f h b t =
    option_cases (live_in memo r c)
    (λ e. none_live t memo r c cs e
    ∙ stored_some memo r cs f (rw (stored_step memo r c cs, e) at h) (omega (arith, none_live (λ _. true) memo r c cs e, live_true memo r cs, live_true memo r (c ∷ cs))) t)
    (λ g e. let z : ◌≡◌ {A = Option Fix} (Some g) (Some f) = rw (stored_step memo r c cs, e) at h in
    let y : g ≡ f = cc in
    omega (
      arith,
      some_live t memo r c cs g e,
      some_live (λ _. true) memo r c cs g e,
      live_true memo r (c ∷ cs),
      live_true memo r cs,
      live_le t memo r cs,
      ap (λ x. one_if (t x)) y,
    ))

pub stored_same : (memo memo' : Rows Line) (r : ℕ) (cells cells' : List Cell) → ((t : Fix → Bool) → live_by t memo' r cells' ≡ live_by t memo r cells) → live_of memo r cells ≤ 1
    → stored_in memo' r cells' ≡ stored_in memo r cells
stored_same memo memo' r cells cells' h b =
    option_cases (stored_in memo r cells)
    (λ e. none_stored memo' r cells' (h (λ _. true) ∙ none_counted memo r cells e) ∙ sym e)
    (λ f e. stored_at memo' r cells' f (λ t. h t ∙ stored_some memo r cells f e b t) ∙ sym e)

-- a radio has one live entry at most
pub live_one : (cells : List Cell) (memo : Rows Line) (new on : ℕ → Bool) (r : ℕ) → Books cells memo new on → live_of memo r cells ≤ 1
live_one cells memo new on r k = omega (arith, k.present r, one_if-le (on r))

-- ---- all entries of a radio by one line

-- live ones, and stale ones
abbrev live_under : (Fix → Bool) → Option Line → ℕ → List Cell → ℕ
live_under t o r cells = sum_by (λ c. count_live t o (find c.entries r)) cells

abbrev stale_under : Option Line → ℕ → List Cell → ℕ
stale_under o r cells = sum_by (λ c. count_if (stale_by o) (find c.entries r)) cells

live_under_lem : (t : Fix → Bool) (memo : Rows Line) (r : ℕ) (cells : List Cell) (o : Option Line) → find memo r ≡ o → live_by t memo r cells ≡ live_under t o r cells
unfolding live_by
live_under_lem t memo r cells o e = ap (λ o. sum_by (λ c. count_live t o (find c.entries r)) cells) e

-- where no entry is stale by a line, all count as without a line
count_no_stale : (t : Fix → Bool) (o : Option Line) (e : Option Fix) → count_if (stale_by o) e ≡ 0 → count_live t o e ≡ count_live t None e
count_no_stale t o None h = refl
count_no_stale t o (Some p) h = by_cases (stale_by o p) (λ s. absurd (omega (arith, ap one_if s))) (λ s. ap (λ b. one_if (both (not b) (t p))) s)

no_stale : (t : Fix → Bool) (o : Option Line) (r : ℕ) (cells : List Cell) → stale_under o r cells ≡ 0 → live_under t o r cells ≡ live_under t None r cells
unfolding sum_by
no_stale t o r [] h = refl
no_stale t o r (c ∷ cs) h = omega (arith, count_no_stale t o (find c.entries r) (omega arith), no_stale t o r cs (omega arith))

-- ---- sweep

lowered-last : (o : Option Line) (l : Line) → lowered o ≡ Some l → (k : Line) × (o ≡ Some k) × (k.last ≡ l.last)
lowered-last None l = none-some
lowered-last (Some k) l =
    by_cases (ltb 1 k.missed)
    (λ t. rw t (λ e. (k, refl, let z : record { missed = k.missed - 1; last = k.last } ≡ l = cc in ap (λ (x : Line). x.last) z)))
    (λ t. rw t none-some)

lowered_if-last : (e : Option Fix) (o : Option Line) (l : Line) → lowered_if e o ≡ Some l → (k : Line) × (o ≡ Some k) × (k.last ≡ l.last)
lowered_if-last None o l h = (l, h, refl)
lowered_if-last (Some p) o l h = lowered-last o l h

-- a sweep changes no line's place
pub swept_memo-last : (r : ℕ) (memo : Rows Line) (es : Rows Fix) → Rising 0 es → Rising 0 memo → (l : Line) → find (swept_memo memo es) r ≡ Some l
    → (k : Line) × (find memo r ≡ Some k) × (k.last ≡ l.last)
swept_memo-last r memo es a m l e = lowered_if-last (passed (stale memo) r (find es r)) (find memo r) l (sym (find-swept_memo memo es m a r) ∙ e)

-- a line that is dropped had one stale entry, and it is the one swept; else the line judges as before
lowered_live : (t : Fix → Bool) (o : Option Line) (f : Fix) (r : ℕ) (cells : List Cell) → stale_by o f ≡ true → 1 + stale_under o r cells ≡ missed_of o
    → live_under t (lowered o) r cells ≡ live_under t o r cells
lowered_live t None p r cells s h = cc
lowered_live t (Some l) p r cells s h =
    by_cases (ltb 1 l.missed)
    (λ u. rw u)
    (λ u. rw u (sym (no_stale t (Some l) r cells (omega (arith, ltb-false 1 l.missed u)))))

swept_live : (t : Fix → Bool) (memo : Rows Line) (e : Option Fix) (r : ℕ) (cells : List Cell) → count_if (stale_by (find memo r)) e + stale_under (find memo r) r cells ≡ missed_of (find memo r)
    → count_live t (lowered_if (passed (stale memo) r e) (find memo r)) (passed (λ x. not (stale memo x)) r e) + live_under t (lowered_if (passed (stale memo) r e) (find memo r)) r cells
    ≡ count_live t (find memo r) e + live_under t (find memo r) r cells
unfolding both
swept_live t memo None r cells h = refl
swept_live t memo (Some p) r cells h =
    by_cases (stale_by (find memo r) p)
    (λ s. rw s (omega (arith, lowered_live t (find memo r) p r cells s (omega (arith, ap one_if s)))))
    (λ s. rw (s, s))

stale_cons : (memo : Rows Line) (r : ℕ) (c : Cell) (cs : List Cell) → stale_r memo r (c ∷ cs) ≡ count_if (stale_by (find memo r)) (find c.entries r) + stale_under (find memo r) r cs
unfolding stale_r
stale_cons memo r c cs = sum-cons _ c cs

pub live_sweep : (d : Cell) (rest : List Cell) (memo : Rows Line) (new on : ℕ → Bool) → Books (d ∷ rest) memo new on
    → (t : Fix → Bool) (r : ℕ) → live_by t (swept_memo memo d.entries) r (swept memo d ∷ rest) ≡ live_by t memo r (d ∷ rest)
live_sweep d rest memo new on k t r =
    let a : Rising 0 d.entries = k.cells_rowed.0.rising in
    let e = find-swept_memo memo d.entries k.memo_rises a r in
    live_cons t (swept_memo memo d.entries) r (swept memo d) rest
    ∙ ap₂ ◌+◌ (ap₂ (count_live t) e (find-swept memo d a r)) (live_under_lem t (swept_memo memo d.entries) r rest _ e)
    ∙ swept_live t memo (find d.entries r) r rest (sym (stale_cons memo r d rest) ∙ k.counted r)
    ∙ ap (λ n. count_live t (find memo r) (find d.entries r) + n) (sym (live_under_lem t memo r rest (find memo r) refl))
    ∙ sym (live_cons t memo r d rest)

-- ---- reports entered

-- the line says p: an entry at p is live, one in a cell that p does not lie in is not
at_live : (t : Fix → Bool) (m : ℕ) (f : Fix) → count_live t (Some (record { missed = m; last = Some f.place })) (Some f) ≡ one_if (t f)
at_live t m f = ap (λ b. one_if (both (not (not b)) (t f))) (same_place_refl f.place) ∙ ap one_if (true-both (t f))

away_one : (t : Fix → Bool) (m : ℕ) (p : Place) (r : ℕ) (c : Cell) → Rowed c → one_if (inside c.edges p) ≡ 0 → (e : Option Fix) → find c.entries r ≡ e
    → count_live t (Some (record { missed = m; last = Some p })) e ≡ 0
away_one t m p r c k h None e = refl
away_one t m p r c k h (Some q) e =
    ap (λ b. one_if (both (not (not b)) (t q))) (away c p k (one_if-false (inside c.edges p) h) r q e) ∙ ap one_if (both_left_false (t q) refl)

away_live : (t : Fix → Bool) (m : ℕ) (p : Place) (r : ℕ) (cells : List Cell) → Each Rowed cells → sum_by (λ c. one_if (inside c.edges p)) cells ≡ 0
    → live_under t (Some (record { missed = m; last = Some p })) r cells ≡ 0
unfolding sum_by
away_live t m p r [] k h = refl
away_live t m p r (c ∷ cs) k h = omega (arith, away_one t m p r c k.0 (omega arith) (find c.entries r) refl, away_live t m p r cs k.1 (omega arith))

-- the new entry is live
entered_here : (t : Fix → Bool) (b n : Bool) (f : Fix) (o : Option Line) → count_live t (entered b n f.place o) (Some f) ≡ one_if (t f)
entered_here t true n f None = ap one_if (true-both (t f))
entered_here t true n f (Some l) = at_live t l.missed f
entered_here t false true f None = ap one_if (true-both (t f))
entered_here t false true f (Some l) = at_live t l.missed f
entered_here t false false f None = at_live t 1 f
entered_here t false false f (Some l) = at_live t (l.missed + 1) f

-- no other is: by a line it lies elsewhere; without one all entries were live, and the radio had one in d, or none at all
entered_away : (t : Fix → Bool) (b n : Bool) (p : Place) (o : Option Line) (r : ℕ) (cells : List Cell) → Each Rowed cells → sum_by (λ c. one_if (inside c.edges p)) cells ≡ 0
    → (o ≡ None → either b n ≡ true → live_under t None r cells ≡ 0) → live_under t (entered b n p o) r cells ≡ 0
unfolding either
entered_away t true n p None r cells k h f = f refl refl
entered_away t true n p (Some l) r cells k h f = away_live t l.missed p r cells k h
entered_away t false true p None r cells k h f = f refl refl
entered_away t false true p (Some l) r cells k h f = away_live t l.missed p r cells k h
entered_away t false false p None r cells k h f = away_live t 1 p r cells k h
entered_away t false false p (Some l) r cells k h f = away_live t (l.missed + 1) p r cells k h

count_held : (e : Option Fix) → count_live (λ _. true) None e ≡ one_if (is_some e)
count_held None = refl
count_held (Some p) = ap one_if (true-both true)

module _ (d : Cell) (rest : List Cell) (memo : Rows Line) (new on : ℕ → Bool) (k : Books (d ∷ rest) memo new on) where
  lineless : (t : Fix → Bool) (r : ℕ) (n : Bool) → new r ≡ n → find memo r ≡ None → either (is_some (find d.entries r)) n ≡ true → live_under t None r rest ≡ 0
  lineless t r n e f h =
      let a : count_live (λ _. true) (find memo r) (find d.entries r) ≡ count_live (λ _. true) None (find d.entries r) = ap (λ o. count_live (λ _. true) o (find d.entries r)) f in
      omega (
        arith,
        k.present r,
        one_if-le (on r),
        live_true memo r (d ∷ rest),
        live_cons (λ _. true) memo r d rest,
        a,
        count_held (find d.entries r),
        one_if-either (is_some (find d.entries r)) n h,
        ap one_if e,
        live_le t memo r rest,
        live_true memo r rest,
        live_under_lem t memo r rest None f,
      )

  -- a report of r, marked n, with the line that it makes
  entered_live : (t : Fix → Bool) (r : ℕ) (n : Bool) (f : Fix) → new r ≡ n → inside d.edges f.place ≡ true → (memo' : Rows Line) (d' : Cell)
      → find memo' r ≡ entered (is_some (find d.entries r)) n f.place (find memo r) → find d'.entries r ≡ Some f → live_by t memo' r (d' ∷ rest) ≡ one_if (t f)
  entered_live t r n f e h memo' d' line entry =
      let o = entered (is_some (find d.entries r)) n f.place (find memo r) in
      let away = entered_away t (is_some (find d.entries r)) n f.place (find memo r) r rest k.cells_rowed.1
      (omega (arith, k.apart f.place, sum-cons (λ (c : Cell). one_if (inside c.edges f.place)) d rest, ap one_if h))
      (lineless t r n e) in
      omega (
        arith,
        live_cons t memo' r d' rest,
        ap₂ (count_live t) line entry,
        entered_here t (is_some (find d.entries r)) n f (find memo r),
        live_under_lem t memo' r rest o line,
        away,
      )

-- ---- one report, and all of a memory cell: what is found then

pub find-enter-entries : (w : Row Report) (k : Work) (q : ℕ) → 0 < w.key → Rising 0 k.entries → find (enter w k).entries q ≡ cond (eqb q w.key) (Some w.val.fix) (find k.entries q)
unfolding enter
find-enter-entries w k q h a = find-alter (λ _. Some w.val.fix) 0 w.key q k.entries h a

pub find-enter-memo : (w : Row Report) (k : Work) (q : ℕ) → 0 < w.key → Rising 0 k.memo
    → find (enter w k).memo q ≡ cond (eqb q w.key) (entered (is_some (find k.entries q)) w.val.new w.val.fix.place (find k.memo q)) (find k.memo q)
unfolding enter
find-enter-memo w k q h a =
    find-alter (entered (is_some (find k.entries w.key)) w.val.new w.val.fix.place) 0 w.key q k.memo h a
    ∙ by_cases (eqb q w.key) (λ t. rw (t, eqb-true q w.key t)) (λ t. rw t)

pub Rising-enter-entries : (w : Row Report) (k : Work) → 0 < w.key → Rising 0 k.entries → Rising 0 (enter w k).entries
unfolding enter
Rising-enter-entries w k h a = Rising-alter (λ _. Some w.val.fix) 0 w.key k.entries h a

pub Rising-enter-memo : (w : Row Report) (k : Work) → 0 < w.key → Rising 0 k.memo → Rising 0 (enter w k).memo
unfolding enter
Rising-enter-memo w k h a = Rising-alter (entered (is_some (find k.entries w.key)) w.val.new w.val.fix.place) 0 w.key k.memo h a

-- the line of a radio, by its report and its entry in d
abbrev pub entered_if : Option Report → Option Fix → Option Line → Option Line
entered_if None e o = o
entered_if (Some w) e o = entered (is_some e) w.new w.fix.place o

pub find-enter_each-entries : (q b : ℕ) (ws : Rows Report) (k : Work) → Rising b ws → Rising 0 k.entries
    → find (enter_each ws k).entries q ≡ or_else (fix_of (find ws q)) (find k.entries q)
unfolding enter_each find
find-enter_each-entries q b [] k a c = refl
find-enter_each-entries q b (w ∷ ws) k a c =
    let pos : 0 < w.key = omega arith in
    let ih = find-enter_each-entries q w.key ws (enter w k) a.1 (Rising-enter-entries w k pos c) in
    by_cases (eqb q w.key)
    (λ t. rw (ih, t, find_below q w.key ws (omega (arith, eqb-true q w.key t)) a.1, find-enter-entries w k q pos c, t))
    (λ t. rw (ih, t, find-enter-entries w k q pos c, t))

pub find-enter_each-memo : (q b : ℕ) (ws : Rows Report) (k : Work) → Rising b ws → Rising 0 k.entries → Rising 0 k.memo
    → find (enter_each ws k).memo q ≡ entered_if (find ws q) (find k.entries q) (find k.memo q)
unfolding enter_each find
find-enter_each-memo q b [] k a c m = refl
find-enter_each-memo q b (w ∷ ws) k a c m =
    let pos : 0 < w.key = omega arith in
    let ih = find-enter_each-memo q w.key ws (enter w k) a.1 (Rising-enter-entries w k pos c) (Rising-enter-memo w k pos m) in
    by_cases (eqb q w.key)
    (λ t. rw (ih, t, find_below q w.key ws (omega (arith, eqb-true q w.key t)) a.1, find-enter-memo w k q pos m, t))
    (λ t. rw (ih, t, find-enter-entries w k q pos c, find-enter-memo w k q pos m, t))

module _ (d : Cell) (rest : List Cell) (memo : Rows Line) (new on : ℕ → Bool) (k : Books (d ∷ rest) memo new on) where
  -- each radio's report is entered once, and the others touch neither its line nor its entry: what Books says before is all that is needed
  pub live_enter_each : (ws : Rows Report) → Rising 0 ws → (q : ℕ) (w : Report) → find ws q ≡ Some w → inside d.edges w.fix.place ≡ true → new q ≡ w.new → (t : Fix → Bool)
      → live_by t (enter_each ws (record { entries = d.entries; memo = memo })).memo q (with_entries (enter_each ws (record { entries = d.entries; memo = memo })).entries d ∷ rest)
      ≡ one_if (t w.fix)
  live_enter_each ws a q w f i e t =
      let j : Work = record { entries = d.entries; memo = memo } in
      let c : Rising 0 d.entries = k.cells_rowed.0.rising in
      entered_live d rest memo new on k t q w.new w.fix e i (enter_each ws j).memo (with_entries (enter_each ws j).entries d)
      (rw f at (find-enter_each-memo q 0 ws j a c k.memo_rises))
      (rw f at (find-enter_each-entries q 0 ws j a c))

  pub live_enter_each_other : (ws : Rows Report) → Rising 0 ws → (q : ℕ) → find ws q ≡ None → (t : Fix → Bool)
      → live_by t (enter_each ws (record { entries = d.entries; memo = memo })).memo q (with_entries (enter_each ws (record { entries = d.entries; memo = memo })).entries d ∷ rest)
      ≡ live_by t memo q (d ∷ rest)
  live_enter_each_other ws a q f t =
      let j : Work = record { entries = d.entries; memo = memo } in
      let c : Rising 0 d.entries = k.cells_rowed.0.rising in
      live_line t memo (enter_each ws j).memo q (with_entries (enter_each ws j).entries d ∷ rest) (rw f at (find-enter_each-memo q 0 ws j a c k.memo_rises))
      ∙ live_entry t memo q d (with_entries (enter_each ws j).entries d) rest (rw f at (find-enter_each-entries q 0 ws j a c))

-- ---- the reports of a memory cell in d, swept before: d and the other cells as `flushed_into` has them

module _ (m : Box) (s : Store) (d : Cell) (new on : ℕ → Bool)
    (k : Books (swept s.memo d ∷ others d.number s.cells) (swept_memo s.memo d.entries) new on) where
  pub live_flushed : Rising 0 s.waiting → (q : ℕ) (w : Report) → find (filter (in_box s.cuts m) s.waiting) q ≡ Some w → inside d.edges w.fix.place ≡ true → new q ≡ w.new
      → (t : Fix → Bool) → live_by t (flushed_into m s d).store.memo q ((flushed_into m s d).cell ∷ (flushed_into m s d).rest) ≡ one_if (t w.fix)
  unfolding flushed_into swept
  live_flushed a q w f i e t =
      live_enter_each (swept s.memo d) (others d.number s.cells) (swept_memo s.memo d.entries) new on k
      (filter (in_box s.cuts m) s.waiting) (Rising-filter (in_box s.cuts m) 0 s.waiting a) q w f i e t

  pub live_flushed_other : Books (d ∷ others d.number s.cells) s.memo new on → Rising 0 s.waiting → (q : ℕ) → find (filter (in_box s.cuts m) s.waiting) q ≡ None
      → (t : Fix → Bool) → live_by t (flushed_into m s d).store.memo q ((flushed_into m s d).cell ∷ (flushed_into m s d).rest) ≡ live_by t s.memo q (d ∷ others d.number s.cells)
  unfolding flushed_into swept
  live_flushed_other b a q f t =
      live_enter_each_other (swept s.memo d) (others d.number s.cells) (swept_memo s.memo d.entries) new on k
      (filter (in_box s.cuts m) s.waiting) (Rising-filter (in_box s.cuts m) 0 s.waiting a) q f t
      ∙ live_sweep d (others d.number s.cells) s.memo new on b t q

-- ---- sign-off

pub live_off_other : (memo : Rows Line) (r : ℕ) → 0 < r → Rising 0 memo → (cells : List Cell) (q : ℕ) → q ≢ r → (t : Fix → Bool)
    → live_by t (alter (raised None) r memo) q cells ≡ live_by t memo q cells
live_off_other memo r h a cells q n t = live_line t memo (alter (raised None) r memo) q cells (rw (ne_eqb q r n) at (find-alter (raised None) 0 r q memo h a))

-- a line that says "none" makes all stale
raised-none : (t : Fix → Bool) (o : Option Line) (e : Option Fix) → count_live t (raised None o) e ≡ 0
raised-none t o None = refl
raised-none t None (Some p) = ap one_if (both_left_false (t p) refl)
raised-none t (Some l) (Some p) = ap one_if (both_left_false (t p) refl)

pub live_off : (memo : Rows Line) (r : ℕ) → 0 < r → Rising 0 memo → (cells : List Cell) → live_of (alter (raised None) r memo) r cells ≡ 0
live_off memo r h a cells =
    sym (live_true (alter (raised None) r memo) r cells)
    ∙ live_under_lem (λ _. true) (alter (raised None) r memo) r cells (raised None (find memo r)) (rw (eq-eqb r r refl) at (find-alter (raised None) 0 r r memo h a))
    ∙ sum_zero _ cells (λ c. raised-none (λ _. true) (find memo r) (find c.entries r))

-- ---- split

pub live_split : (d : Cell) (rest : List Cell) (memo : Rows Line) (c : Cut) (n : ℕ) → Rising 0 d.entries → (t : Fix → Bool) (r : ℕ)
    → live_by t memo r (low_cell c d ∷ high_cell c n d ∷ rest) ≡ live_by t memo r (d ∷ rest)
unfolding low_cell high_cell
live_split d rest memo c n a t r =
    omega (
      arith,
      live_cons t memo r (low_cell c d) (high_cell c n d ∷ rest),
      live_cons t memo r (high_cell c n d) rest,
      live_cons t memo r d rest,
      ap (count_live t (find memo r)) (find-filter (low_side c) 0 r d.entries a),
      ap (count_live t (find memo r)) (find-filter (λ e. not (low_side c e)) 0 r d.entries a),
      count_passed (λ f. both (not (stale_by (find memo r) f)) (t f)) (low_side c) r (find d.entries r),
    )

-- ---- join

pub live_join : (d n j : Cell) (rest : List Cell) (memo : Rows Line) (new on : ℕ → Bool) → Books (d ∷ n ∷ rest) memo new on → Clean memo d → Clean memo n
    → j.entries ≡ merge n.entries d.entries → (t : Fix → Bool) (r : ℕ) → live_by t memo r (j ∷ rest) ≡ live_by t memo r (d ∷ n ∷ rest)
live_join d n j rest memo new on k x y e t r =
    omega (
      arith,
      live_cons t memo r j rest,
      ap (λ es. count_live t (find memo r) (find es r)) e,
      count_joined d n rest k x y (λ f. both (not (stale_by (find memo r) f)) (t f)) r,
      live_cons t memo r d (n ∷ rest),
      live_cons t memo r n rest,
    )
