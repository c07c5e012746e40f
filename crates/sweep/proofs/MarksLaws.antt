-- Lines marked: entries rise by radio, so that a line is marked by its radio's entry only, and what a sweep makes of the memo is each marked line lowered once.
use mathlib.Core.Path.{◌≡◌, refl, sym, ap, ◌∙◌, subst}
use mathlib.Core.Bool.{Bool, false, cond}
use mathlib.Core.List.{List, [], ◌∷◌}
use Rattle.std.specs.Prelude.{Option, None, Some}
use Prim.Native.Nat.{ℕ, ◌≤◌, ◌<◌}
use native.Mathlib.Omega.{arith}
use lib.Dec.{eqb, ltb}
use lib.ListN.{length, get_or, set, replicate, length-set, length-replicate, get_or-replicate}
use lib.Seq.{get_or-set_same, get_or-set_other}
use borrow.Author.Tests.{eqb-true, eqb-false, ltb-true, ltb-false}
use Rattle.terms.specs.Terms.{Fix}
use Rattle.lists.specs.Rows.{Row, Rows, Rising, find, rank, alter, put_row, passed}
use Rattle.lists.specs.Sums.{filter}
use Rattle.lists.specs.Tests.{is_some, or_else}
use Rattle.lists.proofs.Cases.{by_cases, option_cases}
use Rattle.lists.proofs.RowsLaws.{Rising_less, Rising-alter, Rising-filter, find_below, ext_find}
use Rattle.lists.proofs.SearchLaws.{rank-le}
use Rattle.rules.specs.Store.{Line as StoreLine}
use Rattle.rules.specs.Sweep.{stale, lowered, lower_each, swept_memo}
use Rattle.rules.proofs.BooksLaws.{lowered_if, find-swept_memo}
use Rattle.desk.specs.Held.{Memo}
use Rattle.desk.specs.Layout.{line_slots, memo_of}
use Rattle.memo.specs.Memo.{lines_of, GoodMemo}
use Rattle.memo_sweep.specs.Lowering.{lower_if, lower_where, mark_of}
use Rattle.memo_sweep.proofs.LowerLaws.{is_some_kept, in_Slots}
use Rattle.sweep.specs.Sweep.{line_places, State, begun, judged, walked}
use Rattle.sweep.proofs.LinesLaws.{rank_past}

-- ---- marks

-- two keys that are there have two ranks
rank_apart : {Val : Type 0} (q r : ℕ) (l : Rows Val) (v w : Val) → find l q ≡ Some v → find l r ≡ Some w → rank q l ≡ rank r l → q ≡ r
rank_apart q r l v w f g e =
    by_cases (ltb q r)
    (λ t. absurd (omega (arith, rank_past q r l v (ltb-true q r t) f)))
    (λ t. by_cases (ltb r q)
    (λ u. absurd (omega (arith, rank_past r q l w (ltb-true r q u) g)))
    (λ u. omega (arith, ltb-false q r t, ltb-false r q u)))

module _ (l : Rows StoreLine) where
  -- later entries leave the mark of a line before them
  mark_stays : (q : ℕ) (v : StoreLine) (s : State) (es : Rows Fix) → find l q ≡ Some v → Rising q es → get_or (walked l s es).marks (rank q l) false ≡ get_or s.marks (rank q l) false
  unfolding walked
  mark_stays q v s [] f a = refl
  mark_stays q v s (e ∷ es) f a =
      mark_stays q v (judged l s e) es f (Rising_less q e.key es (omega arith) a.1)
      ∙ get_or-set_other s.marks (rank e.key l) (rank q l) (stale l e) false (λ z. absurd (omega (arith, rank_past q e.key l v a.0 f)))

  -- an entry of another radio leaves a line without a mark
  mark_other : (q : ℕ) (v : StoreLine) (marks : List Bool) (e : Row Fix) → find l q ≡ Some v → (q ≡ e.key → ⊥) → rank q l < length marks → get_or marks (rank q l) false ≡ false
      → get_or (set marks (rank e.key l) (stale l e)) (rank q l) false ≡ false
  mark_other q v marks e f n h z =
      by_cases (eqb (rank q l) (rank e.key l))
      (λ t. let r = eqb-true (rank q l) (rank e.key l) t in
      ap (λ (k : ℕ). get_or (set marks (rank e.key l) (stale l e)) k false) r ∙ get_or-set_same marks (rank e.key l) (stale l e) false (omega arith)
      ∙ option_cases (find l e.key) (λ g. rw g) (λ w g. absurd (n (rank_apart q e.key l v w f g r))))
      (λ t. get_or-set_other marks (rank e.key l) (rank q l) (stale l e) false (eqb-false (rank q l) (rank e.key l) t) ∙ z)

  -- a line is marked by its radio's entry
  mark_found : (b q : ℕ) (v : StoreLine) (s : State) (es : Rows Fix) → find l q ≡ Some v → Rising b es → rank q l < length s.marks → get_or s.marks (rank q l) false ≡ false
      → get_or (walked l s es).marks (rank q l) false ≡ is_some (passed (stale l) q (find es q))
  unfolding walked find
  mark_found b q v s [] f a h z = z
  mark_found b q v s (e ∷ es) f a h z =
      by_cases (eqb q e.key)
      (λ t. let k = eqb-true q e.key t in
      rw t
      (mark_stays q v (judged l s e) es f (Rising_less q e.key es (omega arith) a.1)
      ∙ ap (λ (j : ℕ). get_or (judged l s e).marks (rank j l) false) k
      ∙ get_or-set_same s.marks (rank e.key l) (stale l e) false (subst (λ (j : ℕ). rank j l < length s.marks) k h)
      ∙ ap (λ (j : ℕ). stale l (record { key = j; val = e.val })) (sym k)
      ∙ sym (is_some_kept (stale l (record { key = q; val = e.val })) e.val)))
      (λ t. rw t
      (mark_found e.key q v (judged l s e) es f a.1 (rw (length-set s.marks (rank e.key l) (stale l e)) h) (mark_other q v s.marks e f (eqb-false q e.key t) h z)))

-- ---- lines

find-put_row : {Val : Type 0} (k r : ℕ) (o : Option Val) (l : Rows Val) → find (put_row k o l) r ≡ cond (eqb r k) (or_else o (find l r)) (find l r)
unfolding find
find-put_row k r None l = by_cases (eqb r k) (λ t. rw t) (λ t. rw t)
find-put_row k r (Some v) l = refl

Rising-put_row : {Val : Type 0} (b k : ℕ) (o : Option Val) (l : Rows Val) → b < k → Rising k l → Rising b (put_row k o l)
Rising-put_row b k None l h a = Rising_less b k l (omega arith) a
Rising-put_row b k (Some v) l h a = (h, a)

or_none : {A : Type 0} (o : Option A) → or_else o None ≡ o
or_none None = refl
or_none (Some a) = refl

module _ (mark : Row StoreLine → Bool) where
  Rising-lower_where : (b : ℕ) (l : Rows StoreLine) → Rising b l → Rising b (lower_where mark l)
  unfolding lower_where
  Rising-lower_where b [] a = tt
  Rising-lower_where b (x ∷ l) a = Rising-put_row b x.key (lower_if (mark x) x.val) (lower_where mark l) a.0 (Rising-lower_where x.key l a.1)

  -- the line found, lowered if it is marked
  abbrev lower_found : ℕ → Option StoreLine → Option StoreLine
  lower_found r None = None
  lower_found r (Some v) = lower_if (mark (record { key = r; val = v })) v

  find-lower_where : (b r : ℕ) (l : Rows StoreLine) → Rising b l → find (lower_where mark l) r ≡ lower_found r (find l r)
  unfolding lower_where find
  find-lower_where b r [] a = refl
  find-lower_where b r (x ∷ l) a =
      let o : Option StoreLine = lower_if (mark x) x.val in
      let i = find-lower_where x.key r l a.1 in
      find-put_row x.key r o (lower_where mark l) ∙
      by_cases (eqb r x.key)
      (λ t. let k = eqb-true r x.key t in
      rw t
      (ap (or_else o) (i ∙ ap (lower_found r) (find_below r x.key l (omega arith) a.1)) ∙ or_none o
      ∙ ap (λ (j : ℕ). lower_if (mark (record { key = j; val = x.val })) x.val) (sym k)))
      (λ t. rw t i)

-- ---- the memo swept

Rising_lower : (b : ℕ) (es : Rows Fix) (l : Rows StoreLine) → Rising b es → Rising 0 l → Rising 0 (lower_each es l)
unfolding lower_each
Rising_lower b [] l a r = r
Rising_lower b (e ∷ es) l a r = Rising_lower e.key es (alter lowered e.key l) a.1 (Rising-alter lowered 0 e.key l (omega arith) r)

lowered_none : (o : Option Fix) → lowered_if o None ≡ None
lowered_none None = refl
lowered_none (Some p) = refl

lowered_some : (o : Option Fix) (v : StoreLine) → lower_if (is_some o) v ≡ lowered_if o (Some v)
lowered_some None v = refl
lowered_some (Some p) v = refl

module _ (l : Rows StoreLine) (es : Rows Fix) (rising : Rising 0 es) (lines : Rising 0 l) where
  abbrev marks : List Bool
  marks = (walked l (begun (replicate line_places false)) es).marks

  Rising-swept_memo : Rising 0 (swept_memo l es)
  unfolding swept_memo
  Rising-swept_memo = Rising_lower 0 (filter (stale l) es) l (Rising-filter (stale l) 0 es rising) lines

  module _ (few : length l ≤ line_slots) where
    line_marked : (r : ℕ) (v : StoreLine) → find l r ≡ Some v → get_or marks (rank r l) false ≡ is_some (passed (stale l) r (find es r))
    line_marked r v f =
        let h : rank r l < line_places = omega (arith, rank-le r l) in
        mark_found l 0 r v (begun (replicate line_places false)) es f rising (rw (length-replicate line_places false) h) (get_or-replicate line_places (rank r l) false false h)

    lower_found_lem : (r : ℕ) → lower_found (mark_of marks l) r (find l r) ≡ lowered_if (passed (stale l) r (find es r)) (find l r)
    lower_found_lem r =
        option_cases (find l r)
        (λ f. rw f (sym (lowered_none (passed (stale l) r (find es r)))))
        (λ v f. rw f (ap (λ (b : Bool). lower_if b v) (line_marked r v f) ∙ lowered_some (passed (stale l) r (find es r)) v))

    lower_swept : lower_where (mark_of marks l) l ≡ swept_memo l es
    lower_swept =
        ext_find 0 (lower_where (mark_of marks l) l) (swept_memo l es) (Rising-lower_where (mark_of marks l) 0 l lines) Rising-swept_memo
        (λ r. find-lower_where (mark_of marks l) 0 r l lines ∙ lower_found_lem r ∙ sym (find-swept_memo l es lines rising r))

-- ---- the call

pub chain_swept : (m : Memo) (es : Rows Fix) {after : List Bool} {r : Memo} → GoodMemo m → Rising 0 es → after ≡ (walked (lines_of m) (begun (replicate line_places false)) es).marks
    → r ≡ memo_of (lower_where (mark_of after (lines_of m)) (lines_of m)) → r ≡ memo_of (swept_memo (lines_of m) es)
chain_swept m es good a marked low =
    low ∙ ap (λ (b : List Bool). memo_of (lower_where (mark_of b (lines_of m)) (lines_of m))) marked
    ∙ ap memo_of (lower_swept (lines_of m) es a good.2 (omega (arith, good.1, (in_Slots m good.0).count)))
