-- The memo's array as rows: what stores in it do, and what a line put at its place makes of the rows.
use mathlib.Core.Path.{◌≡◌, refl, sym, ap, ap₂, ◌∙◌}
use mathlib.Core.List.{List, [], ◌∷◌, map}
use Rattle.std.specs.Prelude.{Option, None, Some}
use Rattle.std.specs.List.{copy_within}
use Prim.Native.Nat.{ℕ, ◌+◌, ◌≤◌, ◌<◌}
use native.Mathlib.Omega.{arith}
use lib.ListN.{length, get_or, set, take, length-map}
use Rattle.terms.specs.Terms.{Place}
use Rattle.lists.specs.Rows.{Row, Rows, Rising, find, alter, IsAt, IsGapFor}
use Rattle.lists.specs.Sums.{sum_by}
use Rattle.lists.proofs.AlterLaws.{find_at, alter_at, alter_gap, alter_gap_none}
use Rattle.lists.proofs.Cases.{list_cases}
use Rattle.lists.proofs.ShiftLaws.{open_moved}
use Rattle.lists.proofs.SumsLaws.{sum-nil}
use Rattle.rules.specs.Store.{Store, Line as StoreLine, missed_of}
use Rattle.rules.specs.Flush.{placed, raised}
use Rattle.rules.specs.WellFormed.{WellFormed, stale_in}
use Rattle.rules.proofs.BooksLaws.{memo_total}
use Rattle.rules.proofs.WellLaws.{well_Core}
use Rattle.desk.specs.declared.Line.{Line}
use Rattle.desk.specs.Held.{Memo, memo_in}
use Rattle.desk.specs.Layout.{line_slots, line_with, line_of, no_line, memo_of}
use Rattle.desk.specs.Views.{last_of}
use Rattle.desk.proofs.SlotsLaws.{length-slotted, Slots, Slots_get, Slots-set, Slots_open}
use Rattle.desk.proofs.UniqueLaws.{take_memo}
use Rattle.memo.specs.Memo.{row_of, no_row, lines_of, Plain, Whole, most_missed}

-- ---- lines and rows

row_with : (r m : ℕ) (o : Option Place) → row_of (line_with r m o) ≡ record { key = r; val = record { missed = m; last = o } }
row_with r m None = refl
row_with r m (Some p) = refl

missed_with : (r m : ℕ) (o : Option Place) → (line_with r m o).missed ≡ m
missed_with r m None = refl
missed_with r m (Some p) = refl

pub row_line : (x : Row StoreLine) → row_of (line_of x) ≡ x
row_line x = row_with x.key x.val.missed x.val.last

rows_lines : (l : Rows StoreLine) → map row_of (map line_of l) ≡ l
rows_lines [] = refl
rows_lines (x ∷ xs) = ap₂ ◌∷◌ (row_line x) (rows_lines xs)

-- the rows of a memo that is laid out are those laid out
pub lines_memo : (l : Rows StoreLine) → lines_of (memo_of l) ≡ l
unfolding lines_of
lines_memo l = ap (map row_of) (take_memo l) ∙ rows_lines l

pub count_memo : (l : Rows StoreLine) → (memo_of l).n ≡ length l
unfolding memo_of
count_memo l = refl

-- ---- plain lines

Plain_with : (r m : ℕ) (o : Option Place) {x : Line} → x ≡ line_with r m o → Plain x
Plain_with r m o e = e ∙ sym (ap line_of (ap row_of e ∙ row_with r m o))

-- a line with another count
abbrev recounted : ℕ → ℕ → Line → Line
recounted r c x = record { radio = r; missed = c; placed = x.placed; east = x.east; north = x.north }

recount : (r m c : ℕ) (o : Option Place) {x : Line} → x ≡ line_with r m o → recounted r c x ≡ line_with r c o
recount r m c None e = ap (recounted r c) e
recount r m c (Some p) e = ap (recounted r c) e

-- a plain line with another count
pub Plain-recounted : (x : Line) (c : ℕ) → Plain x → Plain (recounted x.radio c x)
Plain-recounted x c p = Plain_with x.radio c (last_of x) (recount x.radio x.missed c (last_of x) p)

-- ---- a whole memo

abbrev InSlots : Rows StoreLine → ℕ → List Line → Type 0
InSlots = Slots line_slots no_line line_of

-- what a memo's array holds
pub in_slots : {m : Memo} → Whole m → InSlots (lines_of m) m.n m.lines
unfolding memo_of
in_slots w = record { count = ap (λ (x : Memo). x.n) w; list = ap (λ (x : Memo). x.lines) w }

pub slots_are : {l : Rows StoreLine} {n : ℕ} {lines : List Line} → InSlots l n lines → memo_in n lines ≡ memo_of l
unfolding memo_of
slots_are s = let a = s.count in let b = s.list in λ i. record { n = a i; lines = b i }

-- all the slots are there
pub Whole_size : {n : ℕ} {lines : List Line} → Whole (memo_in n lines) → n ≤ line_slots → length lines ≡ line_slots
Whole_size {n} {lines} w h =
    let s = in_slots w in
    let l = lines_of (memo_in n lines) in
    let e = s.count in
    ap length s.list ∙ length-slotted line_slots no_line (map line_of l) (omega (arith, length-map l line_of))

-- ---- where a radio stands

-- the rows of the lines in use
pub used_rising : (n : ℕ) (lines : List Line) → Rising 0 (lines_of (memo_in n lines)) → Rising 0 (map row_of (take n lines))
unfolding lines_of
used_rising n lines a = a

module _ {n : ℕ} {old : List Line} (whole : Whole (memo_in n old)) (rising : Rising 0 (lines_of (memo_in n old))) {r k : ℕ} where
  -- the radio has a line
  module _ (held : IsAt (map row_of (take n old)) r k) where
    at : IsAt (lines_of (memo_in n old)) r k
    unfolding lines_of
    at = held

    pub held_inside : k < n
    held_inside = let e = (in_slots whole).count in let i = at.inside in omega arith

    abbrev val : StoreLine
    val = (get_or (lines_of (memo_in n old)) k no_row).val

    held_missed : (get_or old k no_line).missed ≡ val.missed
    held_missed = ap (λ (x : Line). x.missed) (Slots_get (in_slots whole) k no_row held_inside) ∙ missed_with (get_or (lines_of (memo_in n old)) k no_row).key val.missed val.last

    pub held_room : missed_of (find (lines_of (memo_in n old)) r) < most_missed → (get_or old k no_line).missed < most_missed
    held_room h = omega (arith, held_missed, ap missed_of (find_at (lines_of (memo_in n old)) rising r at no_row))

    -- another line of it in its slot
    held_set : (f : Option StoreLine → Option StoreLine) (v : StoreLine) → f (Some val) ≡ Some v → memo_in n (set old k (line_of (record { key = r; val = v }))) ≡ memo_of (alter f r (lines_of (memo_in n old)))
    held_set f v e = slots_are (Slots-set (in_slots whole) k (record { key = r; val = v }) held_inside) ∙ ap memo_of (sym (alter_at f (lines_of (memo_in n old)) rising r no_row v at e))

    pub place_set : {x : Line} (p : Place) → x ≡ line_with r (get_or old k no_line).missed (Some p) → memo_in n (set old k x) ≡ memo_of (alter (placed (Some p)) r (lines_of (memo_in n old)))
    place_set p e = rw (e, held_missed) (held_set (placed (Some p)) (record { missed = val.missed; last = Some p }) refl)

    pub raise_set : {x : Line} (p : Option Place) → x ≡ line_with r ((get_or old k no_line).missed + 1) p → memo_in n (set old k x) ≡ memo_of (alter (raised p) r (lines_of (memo_in n old)))
    raise_set p e = rw (e, held_missed) (held_set (raised p) (record { missed = val.missed + 1; last = p }) refl)

  -- it has none
  module _ (missing : IsGapFor (map row_of (take n old)) r k) where
    gap : IsGapFor (lines_of (memo_in n old)) r k
    unfolding lines_of
    gap = missing

    pub gap_inside : k ≤ n
    gap_inside = let e = (in_slots whole).count in let i = gap.inside in omega arith

    pub place_open : (p : Place) → memo_in n old ≡ memo_of (alter (placed (Some p)) r (lines_of (memo_in n old)))
    place_open p = whole ∙ ap memo_of (sym (alter_gap_none (placed (Some p)) (lines_of (memo_in n old)) rising r gap refl))

    -- a line more
    pub raise_open : {ys : List Line} {x : Line} (p : Option Place) → n < line_slots → ys ≡ copy_within old k n (k + 1) → x ≡ line_with r 1 p → memo_in (n + 1) (set ys k x) ≡ memo_of (alter (raised p) r (lines_of (memo_in n old)))
    raise_open p h moved e =
        let size = Whole_size whole (omega arith) in
        let v : StoreLine = record { missed = 1; last = p } in
        rw (e, moved)
        (slots_are (Slots_open (in_slots whole) k (record { key = r; val = v }) h (open_moved gap_inside (omega arith)))
        ∙ ap memo_of (sym (alter_gap (raised p) (lines_of (memo_in n old)) rising r v gap refl)))

-- ---- what a caller knows of the memo that it gets

module _ (l : Rows StoreLine) {x : Memo} (said : x ≡ memo_of l) where
  pub lines_are : lines_of x ≡ l
  lines_are = ap lines_of said ∙ lines_memo l

  pub Whole_is : Whole x
  Whole_is = said ∙ ap memo_of (sym lines_are)

  pub count_is : x.n ≡ length l
  count_is = ap (λ (y : Memo). y.n) said ∙ count_memo l

  pub Rising_is : Rising 0 l → Rising 0 (lines_of x)
  Rising_is a = rw lines_are a

-- ---- a well-formed store

-- there is room for a line more
pub well_memo : (s : Store) → WellFormed s → length s.memo < line_slots
well_memo s w =
    let t = memo_total (well_Core s w).books in
    list_cases s.cells
    (λ e. omega (arith, t, ap (sum_by (stale_in s.memo)) e, sum-nil (stale_in s.memo)))
    (λ c cs e. omega (arith, t, w.bounded 0 (omega (arith, ap length e)), w.tallied))
