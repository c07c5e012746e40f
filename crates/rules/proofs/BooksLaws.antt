-- The radios' books (record Books) are kept by every step: sweep, entering reports, sign-on, sign-off, split, join; and what each does to the stale counts of other cells.
use mathlib.Core.Path.{◌≡◌, refl, sym, ap, ◌∙◌, subst}
use mathlib.Core.Bool.{Bool, true, false, not, cond}
use mathlib.Core.List.{List, [], ◌∷◌, ◌++◌}
use Rattle.std.specs.Prelude.{Option, None, Some}
use Prim.Native.Nat.{ℕ, suc, ◌+◌, ◌-◌, ◌≤◌, ◌<◌}
use native.Mathlib.Omega.{arith}
use lib.Dec.{eqb, ltb}
use lib.ListN.{length, drop}
use borrow.Author.Tests.{ltb-true, ltb-false, eqb-true, eqb-false, ne_eqb, eq-eqb}
use Rattle.terms.specs.Terms.{Place, Fix, max_radio}
use Rattle.lists.specs.Rows.{Row, Rows, Rising, UpTo, find, alter, insert, merge, count_found, passed}
use Rattle.lists.specs.Sums.{sum_by, sum_to, filter}
use Rattle.lists.specs.Tests.{one_if, is_some, or_else, Each}
use Rattle.lists.specs.Among.{Among}
use Rattle.lists.proofs.Cases.{by_cases, option_cases, none-some, or_else_cases}
use Rattle.lists.proofs.TestsLaws.{not-true, Each_map, Each-append, Each_split, Each_for, Each_every, Each_zip, Each-drop, Each-filter, one_if-false, one_if-le}
use Rattle.lists.proofs.SumsLaws.{sum-append, sum_ext, sum-add, sum-Each, sum_to_ext, sum_to-le, sum_to-add, sum_to-sum_by, sum_zero_Each, sum-drop-le, sum-le, length-sum}
use Rattle.lists.proofs.RowsLaws.{find_below, Rising-alter, find-alter, Rising-filter, find-filter, sum-key, sum_zero_find, Rising-merge, find-merge, Each-find, find-Each, sum_rows, Rising_above, UpTo-alter, UpTo-merge, length_found, find-alter_other, find-alter_same}
use Rattle.rules.specs.Grid.{same_place, Rect, span_of, inside}
use Rattle.rules.specs.Store.{Report, Line, Cell, missed_of, with_entries}
use Rattle.rules.specs.Sweep.{is_at, stale_by, stale, lowered, lower_each, swept_entries, swept_memo, swept}
use Rattle.rules.specs.Cut.{Cut, low_side, through}
use Rattle.rules.specs.Flush.{placed, raised, entered, Work, enter, enter_each, low_cell, high_cell, Side, beside, joined_edges}
use Rattle.rules.specs.Carry.{was_new}
use Rattle.rules.specs.Plain.{put_at}
use Rattle.rules.specs.WellFormed.{count_if, live_of, stale_in, InSquare, InSquareIf}
use Rattle.rules.specs.Parts.{stale_r, Rowed, Books, Clean, Signed, marks, on_set}
use Rattle.rules.proofs.PlaceLaws.{same_place_refl, same_place-true, inside_cut, inside_low, inside_high, inside_joined_left, inside_joined_right, inside_joined_le}

-- ---- one radio's entries: those that its line tells to be stale, the live ones, all

abbrev stale_c : Option Line → ℕ → Cell → ℕ
stale_c o r c = count_if (stale_by o) (find c.entries r)

abbrev live_c : Option Line → ℕ → Cell → ℕ
live_c o r c = count_if (λ p. not (stale_by o p)) (find c.entries r)

abbrev held_c : ℕ → Cell → ℕ
held_c r c = count_if (λ _. true) (find c.entries r)

count_split : (t : Fix → Bool) (x : Option Fix) → count_if (λ p. not (t p)) x + count_if t x ≡ count_if (λ _. true) x
count_split t None = refl
count_split t (Some p) = by_cases (t p) (λ e. rw e) (λ e. rw e)

-- every count of a step is this, before and after
live_stale : (o : Option Line) (r : ℕ) (cells : List Cell) → sum_by (live_c o r) cells + sum_by (stale_c o r) cells ≡ sum_by (held_c r) cells
live_stale o r cells = sym (sum-add (live_c o r) (stale_c o r) cells) ∙ sum_ext (λ c. live_c o r c + stale_c o r c) (held_c r) cells (λ c. count_split (stale_by o) (find c.entries r))

judged_by : {o u : Option Line} (f : Fix) → u ≡ o → stale_by u f ≡ stale_by o f
judged_by p e = ap (λ o. stale_by o p) e

pub count_passed : (t : Fix → Bool) (u : Row Fix → Bool) (r : ℕ) (x : Option Fix) → count_if t (passed u r x) + count_if t (passed (λ e. not (u e)) r x) ≡ count_if t x
count_passed t u r None = refl
count_passed t u r (Some p) = by_cases (u (record { key = r; val = p })) (λ e. rw e (omega arith)) (λ e. rw e (omega arith))

count_zero : (t : Fix → Bool) (x : Option Fix) (f : Fix) → count_if t x ≡ 0 → x ≡ Some f → t f ≡ false
count_zero t x p z e = one_if-false (t p) (sym (ap (count_if t) e) ∙ z)

-- two tests that judge the entry alike count alike
count_same : (t u : Fix → Bool) (x : Option Fix) → ((f : Fix) → x ≡ Some f → t f ≡ u f) → count_if t x ≡ count_if u x
count_same t u None h = refl
count_same t u (Some p) h = ap one_if (h p refl)

held_found : (x : Option Fix) → count_if (λ _. true) x ≡ one_if (is_some x)
held_found None = refl
held_found (Some p) = refl

-- the books of one radio, by its line, its mark and whether it is on
record Book (cells : List Cell) (r : ℕ) (o : Option Line) (n b : Bool) : Type 0 where
  counted : sum_by (stale_c o r) cells ≡ missed_of o
  present : sum_by (live_c o r) cells + one_if n ≡ one_if b

module _ {cells : List Cell} {memo : Rows Line} {new on : ℕ → Bool} where
  Book_of : Books cells memo new on → (r : ℕ) → Book cells r (find memo r) (new r) (on r)
  unfolding stale_r live_of
  Book_of b r = record { counted = b.counted r; present = b.present r }

  Books_from : Each Rowed cells → ((p : Place) → sum_by (λ c. one_if (inside c.edges p)) cells ≤ 1) → Rising 0 memo → UpTo max_radio memo →
      ((r : ℕ) (l : Line) → find memo r ≡ Some l → (1 ≤ l.missed) × InSquareIf l.last) → ((r : ℕ) → Book cells r (find memo r) (new r) (on r)) → Books cells memo new on
  unfolding stale_r live_of
  Books_from rowed apart rises radios lines book = record {
    cells_rowed = rowed;
    apart = apart;
    memo_rises = rises;
    memo_radios = radios;
    lines = lines;
    counted = λ r. (book r).counted;
    present = λ r. (book r).present;
  }

-- the first cell may change where the radio's entry stays
Book_other : {d e : Cell} {rest : List Cell} {r : ℕ} {o : Option Line} {n b : Bool} → find e.entries r ≡ find d.entries r → Book (d ∷ rest) r o n b → Book (e ∷ rest) r o n b
unfolding sum_by
Book_other {d} {e} {rest} {r} {o} {n} {b} same k = record {
  counted = omega (arith, k.counted, ap (count_if (stale_by o)) same);
  present = omega (arith, k.present, ap (count_if (λ p. not (stale_by o p))) same);
}

-- ---- the same cells in another order, or with other numbers and chains; the same marks

-- cells with the same sums
pub Books_order : {cells cells' : List Cell} {memo : Rows Line} {new on : ℕ → Bool} → Each Rowed cells' → ((f : Cell → ℕ) → sum_by f cells' ≡ sum_by f cells)
    → Books cells memo new on → Books cells' memo new on
Books_order {memo = memo} rowed same b =
    Books_from rowed (λ p. omega (arith, b.apart p, same (λ c. one_if (inside c.edges p)))) b.memo_rises b.memo_radios b.lines
    (λ r. let k = Book_of b r in record {
      counted = same (stale_c (find memo r) r) ∙ k.counted;
      present = omega (arith, k.present, same (live_c (find memo r) r));
    })

pub Books_front : {memo : Rows Line} {new on : ℕ → Bool} (xs : List Cell) (d : Cell) (ys : List Cell) → Books (xs ++ (d ∷ ys)) memo new on → Books (d ∷ (xs ++ ys)) memo new on
unfolding sum_by
Books_front xs d ys b =
    let e = Each_split Rowed xs (d ∷ ys) b.cells_rowed in
    Books_order (e.1.0, Each-append Rowed xs ys e.0 e.1.1) (λ f. omega (arith, sum-append f xs (d ∷ ys), sum-append f xs ys)) b

-- a cell that stands among them comes first
pub Books-Among : {cells : List Cell} {d : Cell} {memo : Rows Line} {new on : ℕ → Bool} (a : Among cells d) → Books cells memo new on → Books (d ∷ (a.before ++ a.after)) memo new on
Books-Among {d = d} {memo} {new} {on} a b = Books_front a.before d a.after (subst (λ (l : List Cell). Books l memo new on) a.split b)

pub Books-append : {memo : Rows Line} {new on : ℕ → Bool} (xs ys : List Cell) → Books (xs ++ ys) memo new on → Books (ys ++ xs) memo new on
Books-append xs ys b =
    let e = Each_split Rowed xs ys b.cells_rowed in
    Books_order (Each-append Rowed ys xs e.1 e.0) (λ f. omega (arith, sum-append f xs ys, sum-append f ys xs)) b

pub Books_back : {memo : Rows Line} {new on : ℕ → Bool} (d : Cell) (rest : List Cell) → Books (d ∷ rest) memo new on → Books (rest ++ (d ∷ [])) memo new on
Books_back d rest b = Books-append (d ∷ []) rest b

pub Books_back2 : {memo : Rows Line} {new on : ℕ → Bool} (a d : Cell) (rest : List Cell) → Books (a ∷ d ∷ rest) memo new on → Books (rest ++ (a ∷ d ∷ [])) memo new on
Books_back2 a d rest b = Books-append (a ∷ d ∷ []) rest b

pub Books_swap : {memo : Rows Line} {new on : ℕ → Bool} (a d : Cell) (rest : List Cell) → Books (a ∷ d ∷ rest) memo new on → Books (d ∷ a ∷ rest) memo new on
Books_swap a d rest b = Books_front (a ∷ []) d rest b

Rowed_same : (d e : Cell) → e.edges ≡ d.edges → e.entries ≡ d.entries → Rowed d → Rowed e
Rowed_same d e edges entries k = record {
  rising = subst (λ (l : Rows Fix). Rising 0 l) (sym entries) k.rising;
  radios = subst (λ (l : Rows Fix). UpTo max_radio l) (sym entries) k.radios;
  placed =
      subst (λ (l : Rows Fix). Each (λ x. inside e.edges x.val.place ≡ true) l) (sym entries)
      (subst (λ (a : Rect). Each (λ x. inside a x.val.place ≡ true) d.entries) (sym edges) k.placed);
}

-- a first cell with other number or chain
pub Books_same : {memo : Rows Line} {new on : ℕ → Bool} (d e : Cell) (rest : List Cell) → e.edges ≡ d.edges → e.entries ≡ d.entries → Books (d ∷ rest) memo new on → Books (e ∷ rest) memo new on
unfolding sum_by
Books_same d e rest edges entries b =
    Books_from (Rowed_same d e edges entries b.cells_rowed.0, b.cells_rowed.1)
    (λ p. omega (arith, b.apart p, ap (λ (a : Rect). one_if (inside a p)) edges)) b.memo_rises b.memo_radios b.lines
    (λ r. Book_other (ap (λ (l : Rows Fix). find l r) entries) (Book_of b r))

pub Books_ext : {cells : List Cell} {memo : Rows Line} {new new' on on' : ℕ → Bool} → ((r : ℕ) → new r ≡ new' r) → ((r : ℕ) → on r ≡ on' r) → Books cells memo new on → Books cells memo new' on'
Books_ext h k b =
    Books_from b.cells_rowed b.apart b.memo_rises b.memo_radios b.lines
    (λ r. let a = Book_of b r in record { counted = a.counted; present = omega (arith, a.present, ap one_if (h r), ap one_if (k r)) })

-- ---- clean cells

Clean-find : (memo : Rows Line) (c : Cell) → Rowed c → ((r : ℕ) (f : Fix) → find c.entries r ≡ Some f → stale_by (find memo r) f ≡ false) → Clean memo c
unfolding stale_in
Clean-find memo c k h = sum_zero_find (λ e. one_if (stale memo e)) 0 c.entries k.rising (λ r p e. ap one_if (h r p e))

pub find-Clean : (memo : Rows Line) (c : Cell) → Rowed c → Clean memo c → (r : ℕ) (f : Fix) → find c.entries r ≡ Some f → stale_by (find memo r) f ≡ false
unfolding stale_in
find-Clean memo c k clean r p e =
    Each-find (λ r p. stale_by (find memo r) p ≡ false) r p c.entries
    (Each_map _ _ c.entries (λ x z. one_if-false (stale memo x) z) (sum_zero_Each (λ e. one_if (stale memo e)) c.entries clean)) e

Clean_count : (memo : Rows Line) (c : Cell) → Rowed c → Clean memo c → (r : ℕ) → stale_c (find memo r) r c ≡ 0
Clean_count memo c k clean r =
    option_cases (find c.entries r) (λ e. ap (count_if (stale_by (find memo r))) e) (λ p e. ap (count_if (stale_by (find memo r))) e ∙ ap one_if (find-Clean memo c k clean r p e))

-- two memos that judge a cell's entries alike
abbrev Judges : Rows Line → Rows Line → Cell → Type 0
Judges memo memo' c = (r : ℕ) (f : Fix) → find c.entries r ≡ Some f → stale_by (find memo' r) f ≡ stale_by (find memo r) f

judged_stale : (memo memo' : Rows Line) (c : Cell) → Rowed c → Judges memo memo' c → stale_in memo' c ≡ stale_in memo c
unfolding stale_in
judged_stale memo memo' c k h =
    sum-Each (λ e. one_if (stale memo' e)) (λ e. one_if (stale memo e)) c.entries
    (find-Each (λ r p. one_if (stale_by (find memo' r) p) ≡ one_if (stale_by (find memo r) p)) 0 c.entries k.rising (λ r p e. ap one_if (h r p e)))

-- ---- sweep

-- a line is lowered where an entry goes
abbrev pub lowered_if : Option Fix → Option Line → Option Line
lowered_if None o = o
lowered_if (Some f) o = lowered o

find-lower_each : (r b : ℕ) (es : Rows Fix) (memo : Rows Line) → Rising b es → Rising 0 memo → find (lower_each es memo) r ≡ lowered_if (find es r) (find memo r)
unfolding lower_each find
find-lower_each r b [] memo a m = refl
find-lower_each r b (e ∷ es) memo a m =
    let pos : 0 < e.key = omega arith in
    let ih = find-lower_each r e.key es (alter lowered e.key memo) a.1 (Rising-alter lowered 0 e.key memo pos m) in
    by_cases (eqb r e.key)
    (λ t. rw (t, ih, find_below r e.key es (let z = eqb-true r e.key t in omega arith) a.1, find-alter lowered 0 e.key r memo pos m, t))
    (λ t. rw (t, ih, find-alter lowered 0 e.key r memo pos m, t))

Rising-lower_each : (b : ℕ) (es : Rows Fix) (memo : Rows Line) → Rising b es → Rising 0 memo → Rising 0 (lower_each es memo)
unfolding lower_each
Rising-lower_each b [] memo a m = m
Rising-lower_each b (e ∷ es) memo a m = Rising-lower_each e.key es (alter lowered e.key memo) a.1 (Rising-alter lowered 0 e.key memo (omega arith) m)

UpTo-lower_each : (n : ℕ) (es : Rows Fix) (memo : Rows Line) → UpTo n es → UpTo n memo → UpTo n (lower_each es memo)
unfolding lower_each
UpTo-lower_each n [] memo u v = v
UpTo-lower_each n (e ∷ es) memo u v = UpTo-lower_each n es (alter lowered e.key memo) u.1 (UpTo-alter lowered n e.key memo u.0 v)

lowered_line : (o : Option Line) (l : Line) → ((m : Line) → o ≡ Some m → InSquareIf m.last) → lowered o ≡ Some l → (1 ≤ l.missed) × InSquareIf l.last
lowered_line None l h = none-some
lowered_line (Some m) l h =
    by_cases (ltb 1 m.missed)
    (λ t. rw t (λ e. let q : ◌≡◌ {A = Line} (record { missed = m.missed - 1; last = m.last }) l = cc in
    (let a = ap (λ (x : Line). x.missed) q in omega (arith, ltb-true), subst (λ (x : Line). InSquareIf x.last) q (h m refl))))
    (λ t. rw t none-some)

lowered_missed : (o : Option Line) → 1 ≤ missed_of o → missed_of (lowered o) + 1 ≡ missed_of o
lowered_missed None = λ h. absurd (omega arith)
lowered_missed (Some l) = λ h. by_cases (ltb 1 l.missed) (λ t. rw t (omega (arith, ltb-true))) (λ t. rw t (omega (arith, ltb-false)))

-- a line that is lowered and not dropped judges as before; one that is dropped was the last
lowered_Judges : (o : Option Line) (f : Fix) → (missed_of o ≤ 1 → stale_by o f ≡ false) → stale_by (lowered o) f ≡ stale_by o f
lowered_Judges None p h = refl
lowered_Judges (Some l) p h = by_cases (ltb 1 l.missed) (λ t. rw t) (λ t. rw t (sym (h (omega (arith, ltb-false)))))

pub find-swept_memo : (memo : Rows Line) (es : Rows Fix) → Rising 0 memo → Rising 0 es → (r : ℕ) → find (swept_memo memo es) r ≡ lowered_if (passed (stale memo) r (find es r)) (find memo r)
unfolding swept_memo
find-swept_memo memo es m a r =
    find-lower_each r 0 (filter (stale memo) es) memo (Rising-filter (stale memo) 0 es a) m ∙ ap (λ o. lowered_if o (find memo r)) (find-filter (stale memo) 0 r es a)

pub find-swept : (memo : Rows Line) (d : Cell) → Rising 0 d.entries → (r : ℕ) → find (swept memo d).entries r ≡ passed (λ e. not (stale memo e)) r (find d.entries r)
unfolding swept swept_entries
find-swept memo d a r = find-filter (λ e. not (stale memo e)) 0 r d.entries a

Rowed-swept : (memo : Rows Line) (d : Cell) → Rowed d → Rowed (swept memo d)
unfolding swept swept_entries
Rowed-swept memo d k = record {
  rising = Rising-filter (λ e. not (stale memo e)) 0 d.entries k.rising;
  radios = Each-filter _ _ (λ e. not (stale memo e)) d.entries (λ x h _. h) k.radios;
  placed = Each-filter _ _ (λ e. not (stale memo e)) d.entries (λ x h _. h) k.placed;
}

module _ {memo : Rows Line} {new on : ℕ → Bool} (d : Cell) (rest : List Cell) (b : Books (d ∷ rest) memo new on) where
  -- the three ways of a radio in the swept cell: no entry, a live one, a stale one
  swept_lacks : (r : ℕ) → find d.entries r ≡ None → (find (swept memo d).entries r ≡ None) × (find (swept_memo memo d.entries) r ≡ find memo r)
  swept_lacks r e = (rw (find-swept memo d b.cells_rowed.0.rising r, e), rw (find-swept_memo memo d.entries b.memo_rises b.cells_rowed.0.rising r, e))

  swept_keeps : (r : ℕ) (f : Fix) → find d.entries r ≡ Some f → stale_by (find memo r) f ≡ false
      → (find (swept memo d).entries r ≡ Some f) × (find (swept_memo memo d.entries) r ≡ find memo r)
  swept_keeps r f e t =
      (rw (find-swept memo d b.cells_rowed.0.rising r, e, t), rw (find-swept_memo memo d.entries b.memo_rises b.cells_rowed.0.rising r, e, t))

  swept_drops : (r : ℕ) (f : Fix) → find d.entries r ≡ Some f → stale_by (find memo r) f ≡ true
      → (find (swept memo d).entries r ≡ None) × (find (swept_memo memo d.entries) r ≡ lowered (find memo r))
  swept_drops r f e t =
      (rw (find-swept memo d b.cells_rowed.0.rising r, e, t), rw (find-swept_memo memo d.entries b.memo_rises b.cells_rowed.0.rising r, e, t))

  -- the entry that goes is one of those that the line counts
  swept_missed : (r : ℕ) (f : Fix) → find d.entries r ≡ Some f → stale_by (find memo r) f ≡ true → sum_by (stale_c (find memo r) r) rest + 1 ≡ missed_of (find memo r)
  unfolding sum_by
  swept_missed r f e t = omega (arith, (Book_of b r).counted, ap (count_if (stale_by (find memo r))) e, ap one_if t)

  swept_Judges_At : (r : ℕ) → Each (λ c. (f : Fix) → find c.entries r ≡ Some f → stale_by (find (swept_memo memo d.entries) r) f ≡ stale_by (find memo r) f) rest
  swept_Judges_At r =
      option_cases (find d.entries r)
      (λ e. Each_every _ rest (λ c p _. judged_by p (swept_lacks r e).1))
      (λ v e. by_cases (stale_by (find memo r) v)
      (λ t. Each_map _ _ rest
      (λ c h p f. judged_by p (swept_drops r v e t).1 ∙ lowered_Judges (find memo r) p (λ m. count_zero (stale_by (find memo r)) (find c.entries r) p (h m) f))
      (Each_for (λ (m : missed_of (find memo r) ≤ 1) c. stale_c (find memo r) r c ≡ 0) rest (λ m. sum_zero_Each (stale_c (find memo r) r) rest (omega (arith, swept_missed r v e t)))))
      (λ t. Each_every _ rest (λ c p _. judged_by p (swept_keeps r v e t).1)))

  -- the other cells' entries are judged as before
  swept_Judges : Each (Judges memo (swept_memo memo d.entries)) rest
  swept_Judges = Each_for _ rest swept_Judges_At

  swept_stale : (r : ℕ) → sum_by (stale_c (find (swept_memo memo d.entries) r) r) rest ≡ sum_by (stale_c (find memo r) r) rest
  swept_stale r =
      let o = find memo r in
      let u = find (swept_memo memo d.entries) r in
      sum-Each (stale_c u r) (stale_c o r) rest (Each_map _ _ rest (λ c h. count_same (stale_by u) (stale_by o) (find c.entries r) h) (swept_Judges_At r))

  swept_live : (r : ℕ) → sum_by (live_c (find (swept_memo memo d.entries) r) r) rest ≡ sum_by (live_c (find memo r) r) rest
  swept_live r =
      let o = find memo r in
      let u = find (swept_memo memo d.entries) r in
      sum-Each (live_c u r) (live_c o r) rest
      (Each_map _ _ rest (λ c h. count_same (λ p. not (stale_by u p)) (λ p. not (stale_by o p)) (find c.entries r) (λ p e. ap not (h p e))) (swept_Judges_At r))

  -- nothing stale is left of the radio, what is live stays, and the line counts one less for what goes
  swept_first : (r : ℕ) → (stale_c (find (swept_memo memo d.entries) r) r (swept memo d) ≡ 0)
      × (live_c (find (swept_memo memo d.entries) r) r (swept memo d) ≡ live_c (find memo r) r d)
      × (missed_of (find (swept_memo memo d.entries) r) + stale_c (find memo r) r d ≡ missed_of (find memo r))
  swept_first r =
      let o = find memo r in
      let u = find (swept_memo memo d.entries) r in
      option_cases (find d.entries r)
      (λ e. let n = swept_lacks r e in (
        ap (count_if (stale_by u)) n.0,
        ap (count_if (λ p. not (stale_by u p))) n.0 ∙ sym (ap (count_if (λ p. not (stale_by o p))) e),
        omega (arith, ap missed_of n.1, ap (count_if (stale_by o)) e),
      ))
      (λ v e. by_cases (stale_by o v)
      (λ t. let n = swept_drops r v e t in (
        ap (count_if (stale_by u)) n.0,
        ap (count_if (λ p. not (stale_by u p))) n.0 ∙ sym (ap (count_if (λ p. not (stale_by o p))) e ∙ ap (λ a. one_if (not a)) t),
        omega (arith, ap missed_of n.1, ap (count_if (stale_by o)) e, ap one_if t, lowered_missed o (omega (arith, swept_missed r v e t))),
      ))
      (λ t. let n = swept_keeps r v e t in
      let same = judged_by v n.1 in (
        ap (count_if (stale_by u)) n.0 ∙ ap one_if (same ∙ t),
        ap (count_if (λ p. not (stale_by u p))) n.0 ∙ ap (λ a. one_if (not a)) same ∙ sym (ap (count_if (λ p. not (stale_by o p))) e),
        omega (arith, ap missed_of n.1, ap (count_if (stale_by o)) e, ap one_if t),
      )))

  swept-Book : (r : ℕ) → Book (swept memo d ∷ rest) r (find (swept_memo memo d.entries) r) (new r) (on r)
  unfolding sum_by
  swept-Book r =
      let first = swept_first r in
      record {
        counted = omega (arith, (Book_of b r).counted, first.0, first.2, swept_stale r);
        present = omega (arith, (Book_of b r).present, first.1, swept_live r);
      }

  swept_lines : (r : ℕ) (l : Line) → find (swept_memo memo d.entries) r ≡ Some l → (1 ≤ l.missed) × InSquareIf l.last
  swept_lines r l g =
      option_cases (find d.entries r)
      (λ e. b.lines r l (sym (swept_lacks r e).1 ∙ g))
      (λ v e. by_cases (stale_by (find memo r) v)
      (λ t. lowered_line (find memo r) l (λ m f. (b.lines r m f).1) (sym (swept_drops r v e t).1 ∙ g))
      (λ t. b.lines r l (sym (swept_keeps r v e t).1 ∙ g)))

  swept_apart : (p : Place) → sum_by (λ c. one_if (inside c.edges p)) (swept memo d ∷ rest) ≤ 1
  unfolding sum_by swept
  swept_apart p = b.apart p

  swept_rises : Rising 0 (swept_memo memo d.entries)
  unfolding swept_memo
  swept_rises = Rising-lower_each 0 (filter (stale memo) d.entries) memo (Rising-filter (stale memo) 0 d.entries b.cells_rowed.0.rising) b.memo_rises

  swept_radios : UpTo max_radio (swept_memo memo d.entries)
  unfolding swept_memo
  swept_radios = UpTo-lower_each max_radio (filter (stale memo) d.entries) memo (Each-filter _ _ (stale memo) d.entries (λ x h _. h) b.cells_rowed.0.radios) b.memo_radios

  pub Books_sweep : Books (swept memo d ∷ rest) (swept_memo memo d.entries) new on
  Books_sweep = Books_from (Rowed-swept memo d b.cells_rowed.0, b.cells_rowed.1) swept_apart swept_rises swept_radios swept_lines swept-Book

  pub Clean-swept : Clean (swept_memo memo d.entries) (swept memo d)
  Clean-swept =
      Clean-find (swept_memo memo d.entries) (swept memo d) (Rowed-swept memo d b.cells_rowed.0)
      (λ r p e. count_zero (stale_by (find (swept_memo memo d.entries) r)) (find (swept memo d).entries r) p (swept_first r).0 e)

  -- no other cell's stale entries change
  pub stale_sweep : Each (λ c. stale_in (swept_memo memo d.entries) c ≡ stale_in memo c) rest
  stale_sweep = Each_zip _ _ _ rest (λ c k h. judged_stale memo (swept_memo memo d.entries) c k h) b.cells_rowed.1 swept_Judges

  pub stale_sweep_sum : (j : ℕ) → sum_by (stale_in (swept_memo memo d.entries)) (drop j rest) ≡ sum_by (stale_in memo) (drop j rest)
  stale_sweep_sum j = sum-Each (stale_in (swept_memo memo d.entries)) (stale_in memo) (drop j rest) (Each-drop _ j rest stale_sweep)

-- ---- one memo line changes

pub found_stale : (memo : Rows Line) (r : ℕ) (x : Option Fix) → count_found (λ q p. one_if (stale_by (find memo q) p)) r x ≡ count_if (stale_by (find memo r)) x
found_stale memo r None = refl
found_stale memo r (Some p) = refl

-- memos that differ at one radio: the stale entries of that radio make all the difference
stale_line : (memo memo' : Rows Line) (r : ℕ) (c : Cell) → Rowed c → ((q : ℕ) → (q ≡ r → ⊥) → find memo' q ≡ find memo q)
    → stale_in memo' c + stale_c (find memo r) r c ≡ stale_in memo c + stale_c (find memo' r) r c
unfolding stale_in
stale_line memo memo' r c k h =
    omega (
      arith,
      sum-key (λ e. one_if (stale memo' e)) (λ e. one_if (stale memo e)) 0 r c.entries (λ e n. ap one_if (judged_by e.val (h e.key n))) k.rising,
      found_stale memo r (find c.entries r),
      found_stale memo' r (find c.entries r),
    )

stale_lines : (memo memo' : Rows Line) (r : ℕ) (cells : List Cell) → Each Rowed cells → ((q : ℕ) → (q ≡ r → ⊥) → find memo' q ≡ find memo q)
    → sum_by (stale_in memo') cells + sum_by (stale_c (find memo r) r) cells ≡ sum_by (stale_in memo) cells + sum_by (stale_c (find memo' r) r) cells
unfolding sum_by
stale_lines memo memo' r [] k h = refl
stale_lines memo memo' r (c ∷ cs) k h = omega (arith, stale_line memo memo' r c k.0 h, stale_lines memo memo' r cs k.1 h)

-- no more become stale than were live
stale_grows : (memo memo' : Rows Line) (r : ℕ) (cells : List Cell) → Each Rowed cells → ((q : ℕ) → (q ≡ r → ⊥) → find memo' q ≡ find memo q)
    → (j : ℕ) → sum_by (stale_in memo') (drop j cells) ≤ sum_by (stale_in memo) (drop j cells) + sum_by (live_c (find memo r) r) cells
stale_grows memo memo' r cells k h j =
    omega (
      arith,
      stale_lines memo memo' r (drop j cells) (Each-drop Rowed j cells k) h,
      live_stale (find memo r) r (drop j cells),
      live_stale (find memo' r) r (drop j cells),
      sum-drop-le (live_c (find memo r) r) j cells,
    )

-- lines of a memo that changes at one radio
altered_lines : (f : Option Line → Option Line) (r : ℕ) (memo : Rows Line) → 0 < r → Rising 0 memo → ((q : ℕ) (l : Line) → find memo q ≡ Some l → (1 ≤ l.missed) × InSquareIf l.last)
    → ((l : Line) → f (find memo r) ≡ Some l → (1 ≤ l.missed) × InSquareIf l.last) → (q : ℕ) (l : Line) → find (alter f r memo) q ≡ Some l → (1 ≤ l.missed) × InSquareIf l.last
altered_lines f r memo pos m lines at q l e =
    by_cases (eqb q r)
    (λ t. at l (sym (find-alter_same f 0 r memo pos m) ∙ ap (find (alter f r memo)) (sym (eqb-true q r t)) ∙ e))
    (λ t. lines q l (sym (find-alter_other f 0 r memo pos m q (eqb-false q r t)) ∙ e))

-- ---- a report is entered

placed_line : (p : Option Place) (o : Option Line) (l : Line) → InSquareIf p → ((m : Line) → o ≡ Some m → 1 ≤ m.missed) → placed p o ≡ Some l → (1 ≤ l.missed) × InSquareIf l.last
placed_line p None l s h = none-some
placed_line p (Some m) l s h = λ e. let q : ◌≡◌ {A = Line} (record { missed = m.missed; last = p }) l = cc in
    subst (λ (x : Line). (1 ≤ x.missed) × InSquareIf x.last) q (h m refl, s)

raised_line : (p : Option Place) (o : Option Line) (l : Line) → InSquareIf p → raised p o ≡ Some l → (1 ≤ l.missed) × InSquareIf l.last
raised_line p None l s = λ e. let q : ◌≡◌ {A = Line} (record { missed = 1; last = p }) l = cc in
    subst (λ (x : Line). (1 ≤ x.missed) × InSquareIf x.last) q (omega arith, s)
raised_line p (Some m) l s = λ e. let q : ◌≡◌ {A = Line} (record { missed = m.missed + 1; last = p }) l = cc in
    subst (λ (x : Line). (1 ≤ x.missed) × InSquareIf x.last) q (omega arith, s)

entered_line : (f n : Bool) (p : Place) (o : Option Line) (l : Line) → InSquare p → ((m : Line) → o ≡ Some m → 1 ≤ m.missed) → entered f n p o ≡ Some l → (1 ≤ l.missed) × InSquareIf l.last
entered_line true n p o l s h = placed_line (Some p) o l s h
entered_line false true p o l s h = placed_line (Some p) o l s h
entered_line false false p o l s h = raised_line (Some p) o l s

placed_missed : (p : Option Place) (o : Option Line) → missed_of (placed p o) ≡ missed_of o
placed_missed p None = refl
placed_missed p (Some l) = refl

raised_missed : (p : Option Place) (o : Option Line) → missed_of (raised p o) ≡ missed_of o + 1
raised_missed p None = refl
raised_missed p (Some l) = refl

-- one more is missed exactly where no entry was found and the report isn't new
entered_missed : (f n : Bool) (p : Place) (o : Option Line) → one_if f + one_if n ≤ 1 → missed_of (entered f n p o) + (one_if f + one_if n) ≡ missed_of o + 1
entered_missed true true p o h = absurd (omega arith)
entered_missed true false p o h = omega (arith, placed_missed (Some p) o)
entered_missed false true p o h = omega (arith, placed_missed (Some p) o)
entered_missed false false p o h = omega (arith, raised_missed (Some p) o)

-- a line, if any, has the place
abbrev At : Place → Option Line → Type 0
At p None = Unit {0}
At p (Some l) = l.last ≡ Some p

placed-At : (p : Place) (o : Option Line) → At p (placed (Some p) o)
placed-At p None = tt
placed-At p (Some l) = refl

raised-At : (p : Place) (o : Option Line) → At p (raised (Some p) o)
raised-At p None = refl
raised-At p (Some l) = refl

entered-At : (f n : Bool) (p : Place) (o : Option Line) → At p (entered f n p o)
entered-At true n p o = placed-At p o
entered-At false true p o = placed-At p o
entered-At false false p o = raised-At p o

-- at that place nothing is stale
At_live : (f : Fix) (o : Option Line) → At f.place o → stale_by o f ≡ false
At_live f None h = refl
At_live f (Some l) h = ap (λ q. not (is_at q f.place)) h ∙ ap not (same_place_refl f.place)

-- no entry of a cell is at a place outside it
pub away : (c : Cell) (p : Place) → Rowed c → inside c.edges p ≡ false → (r : ℕ) (f : Fix) → find c.entries r ≡ Some f → same_place p f.place ≡ false
away c p k h r f e =
    by_cases (same_place p f.place)
    (λ t. let z = ap (inside c.edges) (same_place-true p f.place t) in let y = Each-find (λ _ (f : Fix). inside c.edges f.place ≡ true) r f c.entries k.placed e in cc)
    (λ t. t)

-- so all entries outside are stale by a line with the place
away_stale : (o : Option Line) (p : Place) (r : ℕ) (c : Cell) → At p o → 1 ≤ missed_of o → Rowed c → inside c.edges p ≡ false → stale_c o r c ≡ held_c r c
away_stale None p r c h m k i = absurd (omega arith)
away_stale (Some l) p r c h m k i =
    count_same (stale_by (Some l)) (λ _. true) (find c.entries r) (λ f e. ap (λ q. not (is_at q f.place)) h ∙ ap not (away c p k i r f e))

-- radio r, on, reports a place, which lies in d; d is clean, and n is the mark
module _ {memo : Rows Line} {new on : ℕ → Bool} (d : Cell) (rest : List Cell) (b : Books (d ∷ rest) memo new on) (clean : Clean memo d) (r : ℕ) (f : Fix) (n : Bool)
    (pos : 0 < r) (top : r ≤ max_radio) (here : inside d.edges f.place ≡ true) (square : InSquare f.place) (mark : new r ≡ n) (is_on : on r ≡ true) where
  -- what becomes of a line of r, the line then, and d's entries then
  abbrev line_then : Option Line → Option Line
  line_then = entered (is_some (find d.entries r)) n f.place

  abbrev line_now : Option Line
  line_now = line_then (find memo r)

  abbrev entries_then : Rows Fix
  entries_then = insert r f d.entries

  entry_same : find entries_then r ≡ Some f
  entry_same = rw (find-alter (λ _. Some f) 0 r r d.entries pos b.cells_rowed.0.rising, eq-eqb r r refl)

  entry_other : (q : ℕ) → eqb q r ≡ false → find entries_then q ≡ find d.entries q
  entry_other q t = rw (find-alter (λ _. Some f) 0 r q d.entries pos b.cells_rowed.0.rising, t)

  -- an entry is the new one, or was there
  entry_cases : {P : Type 0} (q : ℕ) (v : Fix) → find entries_then q ≡ Some v → (eqb q r ≡ true → f ≡ v → P) → (eqb q r ≡ false → find d.entries q ≡ Some v → P) → P
  entry_cases q v e new old =
      by_cases (eqb q r)
      (λ t. let z : f ≡ v = cc (entry_same, ap (find entries_then) (eqb-true q r t)) in new t z)
      (λ t. old t (sym (entry_other q t) ∙ e))

  memo_same : find (alter line_then r memo) r ≡ line_now
  memo_same = find-alter_same line_then 0 r memo pos b.memo_rises

  memo_other : (q : ℕ) → (q ≡ r → ⊥) → find (alter line_then r memo) q ≡ find memo q
  memo_other = find-alter_other line_then 0 r memo pos b.memo_rises

  outside : Each (λ c. inside c.edges f.place ≡ false) rest
  unfolding sum_by
  outside = Each_map _ _ rest (λ c. one_if-false (inside c.edges f.place)) (sum_zero_Each (λ c. one_if (inside c.edges f.place)) rest (omega (arith, b.apart f.place, ap one_if here)))

  -- the entries elsewhere are what the line is to count: they were stale, and so was all that is missed, but for a live one if d has none and the mark is off
  held_elsewhere : sum_by (held_c r) rest ≡ missed_of line_now
  unfolding sum_by
  held_elsewhere =
      let o = find memo r in
      let k = Book_of b r in
      let first = count_split (stale_by o) (find d.entries r) in
      let none_stale = Clean_count memo d b.cells_rowed.0 clean r in
      let found = held_found (find d.entries r) in
      let marked = ap one_if mark in
      let signed = ap one_if is_on in
      omega (arith, k.counted, k.present, live_stale o r rest, entered_missed (is_some (find d.entries r)) n f.place o (omega (arith, k.present)))

  At-place : At f.place line_now
  At-place = entered-At (is_some (find d.entries r)) n f.place (find memo r)

  stale_elsewhere : sum_by (stale_c line_now r) rest ≡ sum_by (held_c r) rest
  stale_elsewhere =
      by_cases (ltb 0 (missed_of line_now))
      (λ t. sum-Each (stale_c line_now r) (held_c r) rest
      (Each_zip _ _ _ rest (λ c k i. away_stale line_now f.place r c At-place (ltb-true 0 (missed_of line_now) t) k i) b.cells_rowed.1 outside))
      (λ t. omega (arith, held_elsewhere, live_stale line_now r rest, ltb-false 0 (missed_of line_now) t))

  live_here : stale_by line_now f ≡ false
  live_here = At_live f line_now At-place

  entered_Book : Book (with_entries entries_then d ∷ rest) r line_now false (on r)
  unfolding sum_by
  entered_Book =
      let o = line_now in
      record {
        counted = omega (arith, held_elsewhere, stale_elsewhere, ap (count_if (stale_by o)) entry_same, ap one_if live_here);
        present = omega (arith, stale_elsewhere, live_stale o r rest, ap (count_if (λ v. not (stale_by o v))) entry_same, ap (λ a. one_if (not a)) live_here, ap one_if is_on);
      }

  entered_books_At : (q : ℕ) → Book (with_entries entries_then d ∷ rest) q (find (alter line_then r memo) q) (put_at r false new q) (on q)
  entered_books_At q =
      by_cases (eqb q r)
      (λ t. rw (t, eqb-true q r t, memo_same) entered_Book)
      (λ t. rw (t, memo_other q (eqb-false q r t)) (Book_other (entry_other q t) (Book_of b q)))

  entered_Rowed : Rowed (with_entries entries_then d)
  entered_Rowed =
      let k = b.cells_rowed.0 in
      record {
        rising = Rising-alter (λ _. Some f) 0 r d.entries pos k.rising;
        radios = UpTo-alter (λ _. Some f) max_radio r d.entries top k.radios;
        placed = find-Each (λ _ (v : Fix). inside d.edges v.place ≡ true) 0 entries_then (Rising-alter (λ _. Some f) 0 r d.entries pos k.rising) (λ q v e. entry_cases q v e
            (λ _ z. rw (← z) here)
            (λ _ s. Each-find (λ _ (v : Fix). inside d.edges v.place ≡ true) q v d.entries k.placed s));
      }

  entered_Books : Books (with_entries entries_then d ∷ rest) (alter line_then r memo) (put_at r false new) on
  unfolding sum_by
  entered_Books =
      Books_from (entered_Rowed, b.cells_rowed.1) (λ v. b.apart v) (Rising-alter line_then 0 r memo pos b.memo_rises) (UpTo-alter line_then max_radio r memo top b.memo_radios)
      (altered_lines line_then r memo pos b.memo_rises b.lines
      (λ l e. entered_line (is_some (find d.entries r)) n f.place (find memo r) l square (λ m s. (b.lines r m s).0) e))
      entered_books_At

  entered_Clean : Clean (alter line_then r memo) (with_entries entries_then d)
  entered_Clean = Clean-find (alter line_then r memo) (with_entries entries_then d) entered_Rowed (λ q v e. entry_cases q v e
      (λ t z. judged_by v (ap (find (alter line_then r memo)) (eqb-true q r t) ∙ memo_same) ∙ ap (stale_by line_now) (sym z) ∙ live_here)
      (λ t s. judged_by v (memo_other q (eqb-false q r t)) ∙ find-Clean memo d b.cells_rowed.0 clean q v s))

  entered_stale : (j : ℕ) → sum_by (stale_in (alter line_then r memo)) (drop j rest) ≤ sum_by (stale_in memo) (drop j rest) + 1
  unfolding sum_by
  entered_stale j = omega (arith, stale_grows memo (alter line_then r memo) r rest b.cells_rowed.1 memo_other j, (Book_of b r).present, ap one_if is_on)

-- what is asked of a report that goes into a cell with these edges
pub record Enters (edges : Rect) (new on : ℕ → Bool) (w : Row Report) : Type 0 where
  pub radio : w.key ≤ max_radio
  pub here : inside edges w.val.fix.place ≡ true
  pub square : InSquare w.val.fix.place
  pub marked : new w.key ≡ w.val.new
  pub signed : on w.key ≡ true

-- a cell's entries and the memo, to begin with
abbrev pub work_of : Rows Line → Cell → Work
work_of memo d = record { entries = d.entries; memo = memo }

-- no mark is left where a report went in
abbrev pub marks_without : Rows Report → (ℕ → Bool) → ℕ → Bool
marks_without ws new q = cond (is_some (find ws q)) false (new q)

module _ {memo : Rows Line} {new on : ℕ → Bool} (d : Cell) (rest : List Cell) (b : Books (d ∷ rest) memo new on) (clean : Clean memo d)
    (w : Row Report) (pos : 0 < w.key) (e : Enters d.edges new on w) where
  pub Books-enter : Books (with_entries (enter w (work_of memo d)).entries d ∷ rest) (enter w (work_of memo d)).memo (put_at w.key false new) on
  unfolding enter
  Books-enter = entered_Books d rest b clean w.key w.val.fix w.val.new pos e.radio e.here e.square e.marked e.signed

  pub Clean-enter : Clean (enter w (work_of memo d)).memo (with_entries (enter w (work_of memo d)).entries d)
  unfolding enter
  Clean-enter = entered_Clean d rest b clean w.key w.val.fix w.val.new pos e.radio e.here e.square e.marked e.signed

  pub stale_enter : (j : ℕ) → sum_by (stale_in (enter w (work_of memo d)).memo) (drop j rest) ≤ sum_by (stale_in memo) (drop j rest) + 1
  unfolding enter
  stale_enter = entered_stale d rest b clean w.key w.val.fix w.val.new pos e.radio e.here e.square e.marked e.signed

-- ---- reports are entered one by one

-- what holds then: k is the work done, w reports went in
record Entered (d : Cell) (rest : List Cell) (memo : Rows Line) (new on : ℕ → Bool) (k : Work) (w : ℕ) : Type 0 where
  books : Books (with_entries k.entries d ∷ rest) k.memo new on
  clean : Clean k.memo (with_entries k.entries d)
  stale : (j : ℕ) → sum_by (stale_in k.memo) (drop j rest) ≤ sum_by (stale_in memo) (drop j rest) + w

Enters_after : (r : ℕ) (edges : Rect) (new on : ℕ → Bool) (w : Row Report) → Enters edges new on w → r < w.key → Enters edges (put_at r false new) on w
Enters_after r edges new on w e h = record {
  radio = e.radio;
  here = e.here;
  square = e.square;
  marked = rw (ne_eqb w.key r (omega arith)) e.marked;
  signed = e.signed;
}

marks_after : (w : Row Report) (ws : Rows Report) (new : ℕ → Bool) (q : ℕ) → marks_without ws (put_at w.key false new) q ≡ marks_without (w ∷ ws) new q
unfolding find
marks_after w ws new q = by_cases (eqb q w.key) (λ t. rw t (by_cases (is_some (find ws q)) (λ u. rw u) (λ u. rw u))) (λ t. rw t)

Enters-Each : {memo : Rows Line} {new on : ℕ → Bool} (d : Cell) (rest : List Cell) → Books (d ∷ rest) memo new on → Clean memo d → (a : ℕ) (ws : Rows Report) → Rising a ws
    → Each (Enters d.edges new on) ws → Entered d rest memo (marks_without ws new) on (enter_each ws (work_of memo d)) (length ws)
unfolding enter_each find
Enters-Each d rest b clean a [] r e = record { books = b; clean = clean; stale = λ j. omega arith }
Enters-Each {memo} {new} {on} d rest b clean a (w ∷ ws) r e =
    let pos : 0 < w.key = omega arith in
    let k = enter w (work_of memo d) in
    let ih = Enters-Each {memo = (enter w (work_of memo d)).memo} (with_entries k.entries d) rest (Books-enter d rest b clean w pos e.0) (Clean-enter d rest b clean w pos e.0) w.key ws r.1
    (Each_zip _ _ _ ws (λ x f h. Enters_after w.key d.edges new on x f h) e.1 (Rising_above w.key ws r.1)) in
    record {
      books = Books_ext (marks_after w ws new) (λ _. refl) ih.books;
      clean = ih.clean;
      stale = λ j. omega (arith, ih.stale j, stale_enter d rest b clean w pos e.0 j);
    }

module _ {memo : Rows Line} {new on : ℕ → Bool} (d : Cell) (rest : List Cell) (b : Books (d ∷ rest) memo new on) (clean : Clean memo d)
    (a : ℕ) (ws : Rows Report) (rises : Rising a ws) (enters : Each (Enters d.edges new on) ws) where
  pub Books-enter_each : Books (with_entries (enter_each ws (work_of memo d)).entries d ∷ rest) (enter_each ws (work_of memo d)).memo (marks_without ws new) on
  Books-enter_each = (Enters-Each d rest b clean a ws rises enters).books

  pub Clean-enter_each : Clean (enter_each ws (work_of memo d)).memo (with_entries (enter_each ws (work_of memo d)).entries d)
  Clean-enter_each = (Enters-Each d rest b clean a ws rises enters).clean

  pub stale_enter_each : (j : ℕ) → sum_by (stale_in (enter_each ws (work_of memo d)).memo) (drop j rest) ≤ sum_by (stale_in memo) (drop j rest) + length ws
  stale_enter_each = (Enters-Each d rest b clean a ws rises enters).stale

-- ---- sign-on

pub Books_on : {cells : List Cell} {memo : Rows Line} {new on : ℕ → Bool} (r : ℕ) → on r ≡ false → Books cells memo new on → Books cells memo (put_at r true new) (put_at r true on)
Books_on {cells} {memo} {new} {on} r off b =
    Books_from b.cells_rowed b.apart b.memo_rises b.memo_radios b.lines
    (λ q. let k = Book_of b q in by_cases (eqb q r)
    (λ t. let z : on q ≡ false = ap on (eqb-true q r t) ∙ off in rw t (record { counted = k.counted; present = omega (arith, k.present, ap one_if z) }))
    (λ t. rw t k))

-- ---- sign-off

raised_stale : (o : Option Line) (f : Fix) → stale_by (raised None o) f ≡ true
raised_stale None p = refl
raised_stale (Some l) p = refl

module _ {cells : List Cell} {memo : Rows Line} {new on : ℕ → Bool} (r : ℕ) (pos : 0 < r) (top : r ≤ max_radio) (is_on : on r ≡ true) (b : Books cells memo new on) where
  -- without a mark the live entry becomes stale, as all others are
  off_Book : new r ≡ false → Book cells r (raised None (find memo r)) false false
  off_Book t =
      let o = find memo r in
      let k = Book_of b r in
      let all_stale : sum_by (stale_c (raised None o) r) cells ≡ sum_by (held_c r) cells =
      sum_ext (stale_c (raised None o) r) (held_c r) cells (λ c. count_same (stale_by (raised None o)) (λ _. true) (find c.entries r) (λ p _. raised_stale o p)) in
      record {
        counted = omega (arith, k.counted, k.present, live_stale o r cells, raised_missed None o, ap one_if t, ap one_if is_on);
        present = omega (arith, live_stale (raised None o) r cells);
      }

  off_marked : new r ≡ true → Books cells memo (put_at r false new) (put_at r false on)
  off_marked u =
      Books_from b.cells_rowed b.apart b.memo_rises b.memo_radios b.lines
      (λ q. let k = Book_of b q in by_cases (eqb q r)
      (λ t. let z = eqb-true q r t in
      let marked : new q ≡ true = ap new z ∙ u in
      let signed : on q ≡ true = ap on z ∙ is_on in
      rw t (record { counted = k.counted; present = omega (arith, k.present, ap one_if marked, ap one_if signed) }))
      (λ t. rw t k))

  off_unmarked : new r ≡ false → Books cells (alter (raised None) r memo) (put_at r false new) (put_at r false on)
  off_unmarked u =
      Books_from b.cells_rowed b.apart (Rising-alter (raised None) 0 r memo pos b.memo_rises) (UpTo-alter (raised None) max_radio r memo top b.memo_radios)
      (altered_lines (raised None) r memo pos b.memo_rises b.lines (λ l e. raised_line None (find memo r) l tt e))
      (λ q. by_cases (eqb q r)
      (λ t. rw (t, eqb-true q r t, find-alter_same (raised None) 0 r memo pos b.memo_rises) (off_Book u))
      (λ t. rw (t, find-alter_other (raised None) 0 r memo pos b.memo_rises q (eqb-false q r t)) (Book_of b q)))

  pub Books_off : Books cells (cond (new r) memo (alter (raised None) r memo)) (put_at r false new) (put_at r false on)
  Books_off = by_cases (new r) (λ u. rw u (off_marked u)) (λ u. rw u (off_unmarked u))

  pub stale_off : (j : ℕ) → sum_by (stale_in (cond (new r) memo (alter (raised None) r memo))) (drop j cells) ≤ sum_by (stale_in memo) (drop j cells) + one_if (not (new r))
  stale_off j =
      by_cases (new r)
      (λ u. rw u (omega arith))
      (λ u. rw u (omega (arith, stale_grows memo (alter (raised None) r memo) r cells b.cells_rowed (find-alter_other (raised None) 0 r memo pos b.memo_rises) j, (Book_of b r).present, ap one_if is_on)))

-- ---- split

module _ (c : Cut) (n : ℕ) (d : Cell) (cuts : through (span_of c.axis d.edges) c.at ≡ true) where
  Rowed_low : Rowed d → Rowed (low_cell c d)
  unfolding low_cell
  Rowed_low k = record {
    rising = Rising-filter (low_side c) 0 d.entries k.rising;
    radios = Each-filter _ _ (low_side c) d.entries (λ x h _. h) k.radios;
    placed = Each-filter _ _ (low_side c) d.entries (λ x h t. inside_low c d.edges x.val.place h t) k.placed;
  }

  Rowed_high : Rowed d → Rowed (high_cell c n d)
  unfolding high_cell
  Rowed_high k = record {
    rising = Rising-filter (λ e. not (low_side c e)) 0 d.entries k.rising;
    radios = Each-filter _ _ (λ e. not (low_side c e)) d.entries (λ x h _. h) k.radios;
    placed = Each-filter _ _ (λ e. not (low_side c e)) d.entries (λ x h t. inside_high c d.edges x.val.place h (not-true (low_side c x) t)) k.placed;
  }

  count_cut : (t : Fix → Bool) (r : ℕ) → Rising 0 d.entries → count_if t (find (low_cell c d).entries r) + count_if t (find (high_cell c n d).entries r) ≡ count_if t (find d.entries r)
  unfolding low_cell high_cell
  count_cut t r a =
      omega (
        arith,
        count_passed t (low_side c) r (find d.entries r),
        ap (count_if t) (find-filter (low_side c) 0 r d.entries a),
        ap (count_if t) (find-filter (λ e. not (low_side c e)) 0 r d.entries a),
      )

  pub Books_split : {memo : Rows Line} {new on : ℕ → Bool} (rest : List Cell) → Books (d ∷ rest) memo new on → Books (low_cell c d ∷ high_cell c n d ∷ rest) memo new on
  unfolding sum_by low_cell high_cell
  Books_split {memo} rest b =
      let k = b.cells_rowed.0 in
      Books_from (Rowed_low k, (Rowed_high k, b.cells_rowed.1)) (λ p. omega (arith, b.apart p, inside_cut c d.edges p cuts)) b.memo_rises b.memo_radios b.lines
      (λ r. record {
        counted = omega (arith, (Book_of b r).counted, count_cut (stale_by (find memo r)) r k.rising);
        present = omega (arith, (Book_of b r).present, count_cut (λ p. not (stale_by (find memo r) p)) r k.rising);
      })

-- ---- join

-- two cells made one
abbrev pub joined_cell : ℕ → List ℕ → Cell → Cell → Cell
joined_cell k chain d n = record { number = k; edges = joined_edges d.edges n.edges; chain = chain; entries = merge n.entries d.entries }

count_or_else : (t : Fix → Bool) (x y : Option Fix) → count_if (λ _. true) x + count_if (λ _. true) y ≤ 1 → count_if t (or_else x y) ≡ count_if t x + count_if t y
count_or_else t None y h = omega arith
count_or_else t (Some p) None h = omega arith
count_or_else t (Some p) (Some q) h = absurd (omega arith)

module _ {memo : Rows Line} {new on : ℕ → Bool} (d n : Cell) (rest : List Cell) (b : Books (d ∷ n ∷ rest) memo new on) (clean_d : Clean memo d) (clean_n : Clean memo n) where
  find_joined : (r : ℕ) → find (merge n.entries d.entries) r ≡ or_else (find n.entries r) (find d.entries r)
  find_joined r = find-merge 0 r n.entries d.entries b.cells_rowed.1.0.rising b.cells_rowed.0.rising

  -- both are clean, so an entry in each would be two live ones
  one_held : (r : ℕ) → held_c r n + held_c r d ≤ 1
  unfolding sum_by
  one_held r =
      let o = find memo r in
      let c = Clean_count memo d b.cells_rowed.0 clean_d r in
      let e = Clean_count memo n b.cells_rowed.1.0 clean_n r in
      omega (arith, (Book_of b r).present, one_if-le (on r), count_split (stale_by o) (find d.entries r), count_split (stale_by o) (find n.entries r))

  pub count_joined : (t : Fix → Bool) (r : ℕ) → count_if t (find (merge n.entries d.entries) r) ≡ count_if t (find n.entries r) + count_if t (find d.entries r)
  count_joined t r = ap (count_if t) (find_joined r) ∙ count_or_else t (find n.entries r) (find d.entries r) (one_held r)

  module _ (k : ℕ) (chain : List ℕ) (side : Side) (adjoin : beside side d.edges n.edges ≡ true) where
    Rowed_joined : Rowed (joined_cell k chain d n)
    Rowed_joined =
        let x = b.cells_rowed.0 in
        let y = b.cells_rowed.1.0 in
        let rises = Rising-merge 0 n.entries d.entries y.rising x.rising in
        record {
          rising = rises;
          radios = UpTo-merge max_radio n.entries d.entries y.radios x.radios;
          placed = find-Each (λ _ (f : Fix). inside (joined_edges d.edges n.edges) f.place ≡ true) 0 (merge n.entries d.entries) rises
              (λ r f e. or_else_cases (find n.entries r) (find d.entries r) f (sym (find_joined r) ∙ e)
              (λ s. inside_joined_right d.edges n.edges f.place (Each-find (λ _ (f : Fix). inside n.edges f.place ≡ true) r f n.entries y.placed s))
              (λ s. inside_joined_left d.edges n.edges f.place (Each-find (λ _ (f : Fix). inside d.edges f.place ≡ true) r f d.entries x.placed s)));
        }

    pub Books_join : Books (joined_cell k chain d n ∷ rest) memo new on
    unfolding sum_by
    Books_join =
        Books_from (Rowed_joined, b.cells_rowed.1.1) (λ p. omega (arith, b.apart p, inside_joined_le side d.edges n.edges p adjoin)) b.memo_rises b.memo_radios b.lines
        (λ r. record {
          counted = omega (arith, (Book_of b r).counted, count_joined (stale_by (find memo r)) r);
          present = omega (arith, (Book_of b r).present, count_joined (λ p. not (stale_by (find memo r) p)) r);
        })

    pub Clean_join : Clean memo (joined_cell k chain d n)
    Clean_join =
        Clean-find memo (joined_cell k chain d n) Rowed_joined (λ r p e. or_else_cases (find n.entries r) (find d.entries r) p (sym (find_joined r) ∙ e)
        (find-Clean memo n b.cells_rowed.1.0 clean_n r p)
        (find-Clean memo d b.cells_rowed.0 clean_d r p))

-- ---- the marks and who is on, as the store's rows have them (for books-ext)

pub marks_signed_on : (r : ℕ) (f : Fix) (waiting : Rows Report) → 0 < r → Rising 0 waiting → (q : ℕ) → put_at r true (marks waiting) q ≡ marks (insert r (record { fix = f; new = true }) waiting) q
marks_signed_on r f waiting pos a q =
    rw (find-alter (λ _. Some (record { fix = f; new = true })) 0 r q waiting pos a) (by_cases (eqb q r) (λ t. rw t) (λ t. rw t))

pub marks_reported : (r : ℕ) (f : Fix) (waiting : Rows Report) → 0 < r → Rising 0 waiting → (q : ℕ)
    → marks waiting q ≡ marks (alter (λ w. Some (record { fix = f; new = was_new w })) r waiting) q
marks_reported r f waiting pos a q =
    rw (find-alter (λ w. Some (record { fix = f; new = was_new w })) 0 r q waiting pos a) (by_cases (eqb q r) (λ t. rw t) (λ t. rw t))

pub marks_signed_off : (r : ℕ) (waiting : Rows Report) → 0 < r → Rising 0 waiting → (q : ℕ) → put_at r false (marks waiting) q ≡ marks (alter (λ _. None) r waiting) q
marks_signed_off r waiting pos a q = rw (find-alter (λ _. None) 0 r q waiting pos a) (by_cases (eqb q r) (λ t. rw t) (λ t. rw t))

pub on_signed_on : (r : ℕ) (rows : Rows (Unit {0})) → 0 < r → Rising 0 rows → (q : ℕ) → put_at r true (on_set rows) q ≡ on_set (insert r tt rows) q
on_signed_on r rows pos a q = rw (find-alter (λ _. Some tt) 0 r q rows pos a) (by_cases (eqb q r) (λ t. rw t) (λ t. rw t))

pub on_signed_off : (r : ℕ) (rows : Rows (Unit {0})) → 0 < r → Rising 0 rows → (q : ℕ) → put_at r false (on_set rows) q ≡ on_set (alter (λ _. None) r rows) q
on_signed_off r rows pos a q = rw (find-alter (λ _. None) 0 r q rows pos a) (by_cases (eqb q r) (λ t. rw t) (λ t. rw t))

-- ---- totals

-- a cell's stale entries and its entries, radio by radio
stale_radios : (memo : Rows Line) (n : ℕ) (c : Cell) → Rising 0 c.entries → UpTo n c.entries → stale_in memo c ≡ sum_to (suc n) (λ r. stale_c (find memo r) r c)
unfolding stale_in
stale_radios memo n c a u =
    sum_rows (λ r p. one_if (stale_by (find memo r) p)) 0 n c.entries a u
    ∙ sum_to_ext (suc n) (λ r. count_found (λ q p. one_if (stale_by (find memo q) p)) r (find c.entries r)) (λ r. stale_c (find memo r) r c) (λ r _. found_stale memo r (find c.entries r))

length_radios : (n : ℕ) (c : Cell) → Rising 0 c.entries → UpTo n c.entries → length c.entries ≡ sum_to (suc n) (λ r. held_c r c)
length_radios n c a u = length_found 0 n c.entries a u ∙ sum_to_ext (suc n) (λ r. one_if (is_some (find c.entries r))) (λ r. held_c r c) (λ r _. sym (held_found (find c.entries r)))

module _ {cells : List Cell} {memo : Rows Line} {new on : ℕ → Bool} (b : Books cells memo new on) where
  stale_total : sum_by (stale_in memo) cells ≡ sum_to (suc max_radio) (λ r. sum_by (stale_c (find memo r) r) cells)
  stale_total =
      sum-Each (stale_in memo) (λ c. sum_to (suc max_radio) (λ r. stale_c (find memo r) r c)) cells (Each_map _ _ cells (λ c k. stale_radios memo max_radio c k.rising k.radios) b.cells_rowed)
      ∙ sym (sum_to-sum_by (suc max_radio) (λ r. stale_c (find memo r) r) cells)

  held_total : sum_by (λ c. length c.entries) cells ≡ sum_to (suc max_radio) (λ r. sum_by (held_c r) cells)
  held_total =
      sum-Each (λ c. length c.entries) (λ c. sum_to (suc max_radio) (λ r. held_c r c)) cells (Each_map _ _ cells (λ c k. length_radios max_radio c k.rising k.radios) b.cells_rowed)
      ∙ sym (sum_to-sum_by (suc max_radio) held_c cells)

  line_missed : (r : ℕ) → one_if (is_some (find memo r)) ≤ missed_of (find memo r)
  line_missed r = option_cases (find memo r) (λ e. rw e (omega arith)) (λ l e. rw e (b.lines r l e).0)

  -- each stale entry is counted in one line
  pub missed_total : sum_by (stale_in memo) cells ≡ sum_to (suc max_radio) (λ r. missed_of (find memo r))
  missed_total = stale_total ∙ sum_to_ext (suc max_radio) _ _ (λ r _. (Book_of b r).counted)

  -- each line counts a stale entry or more
  pub memo_total : length memo ≤ sum_by (stale_in memo) cells
  memo_total =
      omega (
        arith,
        length_found 0 max_radio memo b.memo_rises b.memo_radios,
        missed_total,
        sum_to-le (suc max_radio) (λ r. one_if (is_some (find memo r))) (λ r. missed_of (find memo r)) (λ r _. line_missed r),
      )

-- each radio on has one live entry at most
pub entries_total : {cells : List Cell} {memo : Rows Line} {new : ℕ → Bool} (rows : Rows (Unit {0})) → Signed rows → Books cells memo new (on_set rows)
    → sum_by (λ c. length c.entries) cells ≤ length rows + sum_by (stale_in memo) cells
entries_total {cells} {memo} rows s b =
    omega (
      arith,
      length_found 0 max_radio rows s.rising_on s.radios_on,
      stale_total b,
      held_total b,
      sum_to-add (suc max_radio) (λ r. one_if (is_some (find rows r))) (λ r. sum_by (stale_c (find memo r) r) cells),
      sum_to-le (suc max_radio) (λ r. sum_by (held_c r) cells) (λ r. one_if (is_some (find rows r)) + sum_by (stale_c (find memo r) r) cells)
          (λ r _. omega (arith, (Book_of b r).present, live_stale (find memo r) r cells)),
    )

-- ---- a bound

count_one : (t : Fix → Bool) (o : Option Fix) → count_if t o ≤ 1
count_one t None = omega arith
count_one t (Some p) = one_if-le (t p)

-- a radio has one entry in each cell at most
pub missed_few : {cells : List Cell} {memo : Rows Line} {new on : ℕ → Bool} → Books cells memo new on → (r : ℕ) → missed_of (find memo r) ≤ length cells
unfolding stale_r
missed_few {cells} {memo} b r =
    omega (
      arith,
      b.counted r,
      sum-le (stale_c (find memo r) r) (λ _. 1) cells (λ c. count_one (stale_by (find memo r)) (find c.entries r)),
      length-sum cells,
    )
