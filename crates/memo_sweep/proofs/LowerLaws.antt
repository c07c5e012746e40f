-- Lines lowered by marks: what is left of one line, the loop that moves those that stay over those that go, the slots that these leave, and lines that are not
-- marked.
use mathlib.Core.Path.{◌≡◌, refl, sym, ap, ap₂, ◌∙◌, subst}
use mathlib.Core.Bool.{Bool, true, false, not, cond, ◌&&◌}
use mathlib.Core.List.{List, [], ◌∷◌, ◌++◌, append-nil, map, map-append}
use Rattle.std.specs.Prelude.{Option, None, Some}
use Prim.Native.Nat.{ℕ, zero, suc, ◌+◌, ◌-◌, ◌≤◌, ◌<◌}
use native.Mathlib.Numerals.{add-one}
use native.Mathlib.Omega.{arith}
use lib.Dec.{eqb}
use lib.ListN.{length, length-append, length-map, length-take, length-drop, get_or, set, take, drop, replicate, replicate-append-replicate}
use lib.Seq.{take-suc, take_all, take-append-le, take-suc-set, length-take-le, drop_at, drop-drop, drop-set-lt, get_or-drop, get_or-take}
use borrow.Author.Tests.{not-true, not-false, eqb-true, eqb-false, lt-ltb, le-ltb}
use Rattle.lists.specs.Rows.{Row, Rows, Rising, rank, put_row}
use Rattle.lists.specs.Tests.{both, is_some}
use Rattle.std.proofs.Common.{position, unwrap_or}
use Rattle.lists.proofs.PositionLaws.{position-first}
use Rattle.lists.proofs.Cases.{by_cases, option_cases, none-some, some_injective}
use Rattle.lists.proofs.MapLaws.{map-take}
use Rattle.lists.proofs.TestsLaws.{first_at-some, first_at-none, and_both, both_left, both_right}
use Rattle.lists.proofs.SearchLaws.{rank-Between, Rising_order}
use Rattle.rules.specs.Store.{Line as StoreLine}
use Rattle.desk.specs.declared.Line.{Line}
use Rattle.desk.specs.Held.{Memo, memo_in}
use Rattle.desk.specs.Layout.{line_slots, slotted, no_line, line_of, memo_of}
use Rattle.memo.specs.Memo.{row_of, no_row, lines_of, Plain, Whole}
use Rattle.memo.proofs.MemoLaws.{row_line, Plain-recounted, in_slots, slots_are, Whole_size}
use Rattle.desk.proofs.SlotsLaws.{Slots, Slots_get}
use Rattle.memo_sweep.specs.Lowering.{lower_if, line_left, lower_where, mark_of, Unmarked, MovedUp}

-- ---- lists

-- the rank of the key at i
pub rank_at : {Val : Type 0} (l : Rows Val) (i : ℕ) (d : Row Val) → Rising 0 l → i < length l → rank (get_or l i d).key l ≡ i
rank_at l i d a h =
    rank-Between {l = l} {r = (get_or l i d).key} {d = d} {lo = i} {hi = i} (record {
      rising = a;
      ordered = omega arith;
      inside = omega arith;
      below = λ j k. Rising_order 0 l j i d a k h;
      above = λ j k g. by_cases (eqb j i) (λ e. rw (eqb-true j i e) (omega arith)) (λ e. let o = Rising_order 0 l i j d a (omega (arith, eqb-false j i e)) g in omega arith);
    }) (omega arith)

pub is_some_kept : {A : Type 0} (b : Bool) (x : A) → is_some (cond b (Some x) None) ≡ b
is_some_kept true x = refl
is_some_kept false x = refl

append-put_row : {Val : Type 0} (k : ℕ) (o : Option Val) (l m : Rows Val) → put_row k o (l ++ m) ≡ put_row k o l ++ m
append-put_row k None l m = refl
append-put_row k (Some v) l m = refl

module _ (mark : Row StoreLine → Bool) where
  lower_append : (l m : Rows StoreLine) → lower_where mark (l ++ m) ≡ lower_where mark l ++ lower_where mark m
  unfolding lower_where
  lower_append [] m = refl
  lower_append (x ∷ l) m = ap (put_row x.key (lower_if (mark x) x.val)) (lower_append l m) ∙ append-put_row x.key (lower_if (mark x) x.val) (lower_where mark l) (lower_where mark m)

  lower_one : (x : Row StoreLine) → lower_where mark (x ∷ []) ≡ put_row x.key (lower_if (mark x) x.val) []
  unfolding lower_where
  lower_one x = refl

-- ---- one line

module _ (x : Line) (mark : Bool) where
  pub line_kept : Plain x → not mark ≡ true → Some x ≡ line_left x.radio (lower_if mark (row_of x).val)
  line_kept p t = rw (not-true mark t) (ap Some p)

  module _ (on : not mark ≡ false) where
    pub line_dropped : x.missed ≤ 1 → None ≡ line_left x.radio (lower_if mark (row_of x).val)
    line_dropped h = rw (not-false mark on, le-ltb 1 x.missed h)

    pub line_lowered : Plain x → 1 < x.missed → Some (record x { missed = x.missed - 1 }) ≡ line_left x.radio (lower_if mark (row_of x).val)
    line_lowered p h = rw (not-false mark on, lt-ltb 1 x.missed h) (ap Some (Plain-recounted x (x.missed - 1) p))

-- ---- a whole memo

module _ (m : Memo) (whole : Whole m) where
  pub in_Slots : Slots line_slots no_line line_of (lines_of m) m.n m.lines
  in_Slots = in_slots whole

  module _ {i : ℕ} {x : Line} (read : x ≡ get_or m.lines i no_line) (more : i < m.n) where
    pub row_at : row_of x ≡ get_or (lines_of m) i no_row
    row_at = ap row_of (read ∙ Slots_get in_Slots i no_row more) ∙ row_line (get_or (lines_of m) i no_row)

    line_Plain : Plain x
    line_Plain = read ∙ Slots_get in_Slots i no_row more ∙ ap line_of (sym row_at)

  first_Slots : (i : ℕ) → i ≤ m.n → take i m.lines ≡ map line_of (take i (lines_of m))
  unfolding slotted
  first_Slots i h =
      ap (take i) in_Slots.list ∙ take-append-le i (map line_of (lines_of m)) _ (omega (arith, in_Slots.count, length-map (lines_of m) line_of))
      ∙ sym (map-take line_of i (lines_of m))

  last_Slots : drop m.n m.lines ≡ replicate (line_slots - m.n) no_line
  unfolding slotted
  last_Slots =
      let e : length (map line_of (lines_of m)) ≡ m.n = length-map (lines_of m) line_of ∙ sym in_Slots.count in
      ap (drop m.n) in_Slots.list ∙ drop_at (map line_of (lines_of m)) _ m.n e ∙ ap (λ (k : ℕ). replicate (line_slots - k) no_line) e

-- ---- the lines that stay move up

module _ {rows : Rows StoreLine} {i k : ℕ} {old words : List Line} (c : MovedUp rows i k old words) where
  rest_read : get_or words i no_line ≡ get_or old i no_line
  rest_read =
      let e : i + 0 ≡ i = omega arith in
      ap (λ (j : ℕ). get_or words j no_line) (sym e) ∙ sym (get_or-drop i words 0 no_line)
      ∙ ap (λ (l : List Line). get_or l 0 no_line) c.rest
      ∙ get_or-drop i old 0 no_line ∙ ap (λ (j : ℕ). get_or old j no_line) e

  module _ (low : k ≤ i) (inside : i < line_slots) (size : length old ≡ line_slots) where
    all : length words ≡ line_slots
    all = omega (arith, size, ap length c.rest, length-drop i words, length-drop i old)

    rest_kept : drop (i + 1) words ≡ drop (i + 1) old
    rest_kept = sym (drop-drop 1 i words) ∙ ap (drop 1) c.rest ∙ drop-drop 1 i old

    -- the line at i goes
    up_none : MovedUp (rows ++ []) (i + 1) k old words
    up_none = rw append-nil (record { count = c.count; front = c.front; rest = rest_kept })

    -- it stays, and is written after those that stay
    up_some : (x : Row StoreLine) → MovedUp (rows ++ (x ∷ [])) (i + 1) (k + 1) old (set words k (line_of x))
    up_some x =
        let front : take (k + 1) (set words k (line_of x)) ≡ take k words ++ (line_of x ∷ []) = rw add-one (take-suc-set words k (line_of x) (omega (arith, all))) in
        record {
          count = omega (arith, c.count, length-append rows (x ∷ []));
          front = front ∙ ap (λ (l : List Line). l ++ (line_of x ∷ [])) c.front ∙ sym (map-append line_of rows (x ∷ []));
          rest = drop-set-lt (i + 1) words k (line_of x) (omega arith) ∙ rest_kept;
        }

module _ (m : Memo) (whole : Whole m) (marks : List Bool) {i k : ℕ} {words : List Line} (c : MovedUp (lower_where (mark_of marks (lines_of m)) (take i (lines_of m))) i k m.lines words) where
  module _ (more : i < m.n) where
    pub up_Plain : Plain (get_or words i no_line)
    up_Plain = line_Plain m whole (rest_read c) more

    module _ {o : Option Line} (rising : Rising 0 (lines_of m)) (few : m.n ≤ line_slots) (low : k ≤ i)
        (told : o ≡ line_left (get_or words i no_line).radio (lower_if (get_or marks i false) (row_of (get_or words i no_line)).val)) where
      abbrev here : Row StoreLine
      here = get_or (lines_of m) i no_row

      abbrev left : Option StoreLine
      left = lower_if (mark_of marks (lines_of m) here) here.val

      row : row_of (get_or words i no_line) ≡ here
      row = row_at m whole (rest_read c) more

      inside : i < length (lines_of m)
      inside = omega (arith, (in_Slots m whole).count)

      left_is : o ≡ line_left here.key left
      left_is =
          told ∙ ap₂ line_left (ap (λ (t : Row StoreLine). t.key) row)
          (ap₂ (λ (j : ℕ) (t : Row StoreLine). lower_if (get_or marks j false) t.val) (sym (rank_at (lines_of m) i no_row rising inside)) row)

      more_rows : lower_where (mark_of marks (lines_of m)) (take (i + 1) (lines_of m)) ≡ lower_where (mark_of marks (lines_of m)) (take i (lines_of m)) ++ put_row here.key left []
      more_rows =
          let p : Row StoreLine → Bool = mark_of marks (lines_of m) in
          rw (add-one i, take-suc (lines_of m) i no_row inside) (lower_append p (take i (lines_of m)) (here ∷ []) ∙ rw (lower_one p here))

      pub up_goes : o ≡ None → MovedUp (lower_where (mark_of marks (lines_of m)) (take (i + 1) (lines_of m))) (i + 1) k m.lines words
      up_goes e = option_cases left
          (λ f. rw (more_rows, f) (up_none c low (omega arith) (Whole_size whole few)))
          (λ v f. none-some (sym e ∙ left_is ∙ ap (line_left here.key) f))

      pub up_stays : {y : Line} → o ≡ Some y → MovedUp (lower_where (mark_of marks (lines_of m)) (take (i + 1) (lines_of m))) (i + 1) (k + 1) m.lines (set words k y)
      up_stays {y} e = option_cases left
          (λ f. none-some (sym (sym e ∙ left_is ∙ ap (line_left here.key) f)))
          (λ v f.
          let x : Row StoreLine = record { key = here.key; val = v } in
          let q : y ≡ line_of x = some_injective (sym e ∙ left_is ∙ ap (line_left here.key) f) in
          rw (more_rows, f, q) (up_some c low (omega arith) (Whole_size whole few) x))

  pub up_end : i ≤ m.n → m.n ≤ i → MovedUp (lower_where (mark_of marks (lines_of m)) (lines_of m)) m.n k m.lines words
  up_end g h =
      let e : i ≡ m.n = omega arith in
      let t = take_all i (lines_of m) (omega (arith, (in_Slots m whole).count)) in
      subst (λ (j : ℕ). MovedUp (lower_where (mark_of marks (lines_of m)) (lines_of m)) j k m.lines words) e
      (subst (λ (l : Rows StoreLine). MovedUp (lower_where (mark_of marks (lines_of m)) l) i k m.lines words) t c)

-- ---- the slots that they leave

module _ (m : Memo) (whole : Whole m) {rows : Rows StoreLine} {k : ℕ} {up : List Line} (c : MovedUp rows m.n k m.lines up) (low : k ≤ m.n) (few : m.n ≤ line_slots) where
  pub lower_end : length up ≡ line_slots → {ys : List Line} → ys ≡ replicate (length (take (m.n - k) (drop k up))) no_line → memo_in k (take k up ++ (ys ++ drop (m.n - k) (drop k up))) ≡ memo_of rows
  unfolding slotted
  lower_end size {ys} e =
      let mid : length (take (m.n - k) (drop k up)) ≡ m.n - k = simp (length-take, length-drop) (omega arith) in
      let n : k + (m.n - k) ≡ m.n = omega arith in
      let r : m.n - k + (line_slots - m.n) ≡ line_slots - length (map line_of rows) = omega (arith, length-map rows line_of, c.count) in
      slots_are (record {
        count = c.count;
        list =
            rw (e, mid)
            (ap₂ (λ (a b : List Line). a ++ (replicate (m.n - k) no_line ++ b)) c.front (drop-drop (m.n - k) k up ∙ ap (λ (j : ℕ). drop j up) n ∙ c.rest ∙ last_Slots m whole)
            ∙ ap (λ (l : List Line). map line_of rows ++ l) (replicate-append-replicate (m.n - k) (line_slots - m.n) no_line ∙ ap (λ (j : ℕ). replicate j no_line) r));
      })

-- ---- no mark

pub Unmarked_start : (marks : List Bool) → Unmarked marks 0
Unmarked_start marks k h = absurd (omega (arith, h))

pub Unmarked_turn : (marks : List Bool) (i : ℕ) → Unmarked marks i → get_or marks i false ≡ false → Unmarked marks (i + 1)
Unmarked_turn marks i u e k h = by_cases (eqb k i) (λ t. rw (eqb-true k i t) e) (λ t. u k (omega (arith, h, eqb-false k i t)))

-- whether none of the first i is marked, as far as they are seen
pub record Seen (marks : List Bool) (i : ℕ) (so : Bool) : Type 0 where
  pub only : so ≡ true → Unmarked marks i
  pub all : Unmarked marks i → so ≡ true

pub Seen_start : (marks : List Bool) → Seen marks 0 true
Seen_start marks = record { only = λ e. Unmarked_start marks; all = λ u. refl }

module _ {marks : List Bool} {i : ℕ} {so : Bool} (s : Seen marks i so) where
  pub Seen_turn : Seen marks (i + 1) (so && not (get_or marks i false))
  Seen_turn = record {
    only = λ e.
        let m : Bool = not (get_or marks i false) in
        let t : both so m ≡ true = sym (and_both so m) ∙ e in
        Unmarked_turn marks i (s.only (both_left so m t)) (not-true (get_or marks i false) (both_right so m t));
    all = λ u. rw (s.all (λ k h. u k (omega (arith, h))), u i (omega arith));
  }

  pub Seen_end : {n : ℕ} → i ≡ n → (so ≡ true → Unmarked marks n) × (Unmarked marks n → so ≡ true)
  Seen_end e = rw (← e) (s.only, s.all)

module _ (marks : List Bool) (l : Rows StoreLine) (lines : Rising 0 l) (k : ℕ) (None : Unmarked marks k) (inside : k ≤ length l) where
  keep_each : (i : ℕ) → i ≤ k → lower_where (mark_of marks l) (take i l) ≡ take i l
  unfolding lower_where
  keep_each zero h = refl
  keep_each (suc i) h =
      let z : Row StoreLine = get_or l i no_row in
      let p : Row StoreLine → Bool = mark_of marks l in
      let b : i < length l = omega arith in
      let f : p z ≡ false = ap (λ (j : ℕ). get_or marks j false) (rank_at l i no_row lines b) ∙ None i h in
      rw (take-suc l i no_row b) (lower_append p (take i l) (z ∷ []) ∙ ap₂ (λ (a b : Rows StoreLine). a ++ b) (keep_each i (omega arith)) (lower_one p z ∙ ap (λ (b : Bool). put_row z.key (lower_if b z.val) []) f))

module _ (m : Memo) (marks : List Bool) (whole : Whole m) (lines : Rising 0 (lines_of m)) where
  -- where the first marked line is
  pub up_start : (i : ℕ) → m.n ≤ line_slots → i ≤ m.n → Unmarked marks i → MovedUp (lower_where (mark_of marks (lines_of m)) (take i (lines_of m))) i i m.lines m.lines
  up_start i few h u =
      let n = (in_Slots m whole).count in
      let k = keep_each marks (lines_of m) lines i u (omega arith) i (omega arith) in
      record {
        count = sym (ap length k ∙ length-take-le i (lines_of m) (omega arith));
        front = first_Slots m whole i h ∙ ap (map line_of) (sym k);
        rest = refl;
      }

  pub lower_none : Unmarked marks m.n → m ≡ memo_of (lower_where (mark_of marks (lines_of m)) (lines_of m))
  lower_none so =
      let n : length (lines_of m) ≡ m.n = sym (in_Slots m whole).count in
      let t = take_all m.n (lines_of m) (omega arith) in
      whole ∙ ap memo_of (sym (ap (lower_where (mark_of marks (lines_of m))) (sym t) ∙ keep_each marks (lines_of m) lines m.n so (omega arith) m.n (omega arith) ∙ t))

-- ---- the marks of the lines in use

module _ (marks : List Bool) (n : ℕ) (long : n ≤ length marks) where
  length_used : length (take n marks) ≡ n
  length_used = length-take-le n marks long

  pub used_unmarked : (k : ℕ) → k ≤ n → Unmarked (take n marks) k → Unmarked marks k
  used_unmarked k h u i b = sym (get_or-take n marks i false (omega arith)) ∙ u i b

  pub none_used : Unmarked (take n marks) (length (take n marks)) → Unmarked marks n
  none_used u = used_unmarked n (omega arith) (rw length_used at u)

  pub first_inside : {k : ℕ} → k ≤ length (take n marks) → k ≤ n
  first_inside h = rw length_used at h

-- the place of the first mark, or else the end
pub first_mark : (marks : List Bool) {at : ℕ} → at ≡ unwrap_or (position (λ b. b) marks) (length marks) → (at ≤ length marks) × Unmarked marks at
first_mark marks {at} e = option_cases (position (λ b. b) marks)
    (λ f.
    let z : at ≡ length marks = e ∙ ap (λ (o : Option ℕ). unwrap_or o (length marks)) f in
    (omega arith, λ k h. first_at-none (λ b. b) marks k false (sym (position-first (λ b. b) marks) ∙ f) (omega arith)))
    (λ i f.
    let z : at ≡ i = e ∙ ap (λ (o : Option ℕ). unwrap_or o (length marks)) f in
    let s = first_at-some (λ b. b) marks i false (sym (position-first (λ b. b) marks) ∙ f) in
    (omega (arith, s.0), λ k h. s.2 k (omega arith)))
