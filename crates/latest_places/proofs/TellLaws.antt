-- The table in which every radio has a place, and what the loops that lay rows over it keep.
use mathlib.Core.Path.{◌≡◌, refl, sym, ap, ◌∙◌, fun_ext}
use mathlib.Core.Bool.{Bool, true, cond}
use mathlib.Core.List.{List, [], ◌∷◌, ◌++◌, map}
use Rattle.std.specs.Prelude.{Option, None, Some}
use Prim.Native.Nat.{ℕ, suc, ◌+◌, ◌*◌, ◌≤◌, ◌<◌}
use native.Mathlib.Omega.{arith}
use lib.Dec.{eqb, ltb}
use lib.ListN.{length, get_or, set, take}
use lib.Seq.{get_or-set_same, get_or-set_other, take-suc}
use borrow.Author.Tests.{eqb-true, eqb-false, eq-eqb, le-leb}
use Rattle.terms.specs.Terms.{Place, Fix, max_radio}
use Rattle.terms.specs.declared.Place.{Place as HeldPlace}
use Rattle.terms.specs.Values.{place_of as held_of}
use Rattle.lists.specs.Rows.{Rows, UpTo, find}
use Rattle.lists.specs.Tests.{both, either, Each}
use Rattle.lists.proofs.Cases.{by_cases}
use Rattle.lists.proofs.SlotsLaws.{mapped_turn, mapped_end, Each_mapped}
use Rattle.lists.proofs.TestsLaws.{both_intro, either_left, Each-get_or}
use Rattle.entries.specs.declared.Entry.{Entry}
use Rattle.entries.specs.Entries.{row_of}
use Rattle.page.specs.Buffer.{entries_from}
use Rattle.rules.specs.Limits.{full_memory, last_metre}
use Rattle.rules.specs.Grid.{takes_in, Rect, square}
use Rattle.rules.specs.Plain.{place_of, put_at}
use Rattle.rules.specs.Store.{Report as StoreReport}
use Rattle.desk.specs.declared.Line.{Line}
use Rattle.desk.specs.declared.Report.{Report}
use Rattle.desk.specs.declared.Slot.{Slot}
use Rattle.desk.specs.Held.{Memo, Waiting}
use Rattle.desk.specs.Layout.{report_fields, no_line, no_report, no_slot}
use Rattle.desk.specs.Views.{every_report, edges_of}
use Rattle.desk.proofs.ReportsLaws.{length_every}
use Rattle.memo.specs.Memo.{lines_of, row_of as line_row}
use Rattle.memo_index.specs.Index.{table_size}
use Rattle.waiting.specs.Waiting.{reports_of, row_of as report_row}
use Rattle.range_places.specs.Places.{Places, is_sought, seen, row_over, entries_over, over, slot_over, reports_over, touches}
use Rattle.range_places.specs.Told.{over-append}
use Rattle.latest_places.specs.declared.Columns.{Columns}
use Rattle.latest_places.specs.Latest.{anywhere, unjudged, places_by, line_over, lines_over, LinesUpTo}
use Rattle.latest_places.specs.Told.{entries_told}

-- ---- a place in the table

pub told_place : (easts norths : List ℕ) (r : ℕ) (p : HeldPlace) → length easts ≡ table_size → length norths ≡ table_size → r ≤ max_radio
    → places_by (set easts r p.east) (set norths r p.north) ≡ put_at r (Some (held_of p)) (places_by easts norths)
unfolding places_by
told_place easts norths r p e n k = fun_ext (λ q. by_cases (eqb q r)
    (λ t. rw (t, eqb-true q r t, get_or-set_same easts r p.east 0 (omega (arith, e)), get_or-set_same norths r p.north 0 (omega (arith, n))))
    (λ t. rw (t, get_or-set_other easts r q p.east 0 (eqb-false q r t), get_or-set_other norths r q p.north 0 (eqb-false q r t))))

-- ---- a search of the whole square passes over nothing

takes_all : (x : ℕ) → takes_in (record { low = 0; high = last_metre }) x ≡ true
unfolding both either
takes_all x = rw (le-leb 0 x (omega arith)) (by_cases (ltb x last_metre) (λ t. rw t) (λ t. rw (t, eq-eqb last_metre last_metre refl)))

pub sought_all : (f : Fix) → is_sought anywhere f ≡ true
sought_all f = both_intro (both_intro (takes_all f.place.east) (takes_all f.place.north)) (le-leb 0 f.minute (omega arith))

pub seen_all : (o : Option Fix) → seen anywhere o ≡ place_of o
seen_all None = refl
seen_all (Some f) = ap (λ (t : Bool). cond t (Some f.place) None) (sought_all f)

pub touched_all : (rect : Rect) → touches square rect ≡ true
unfolding touches
touched_all rect = both_intro (either_left _ (takes_all rect.easts.low)) (either_left _ (takes_all rect.norths.low))

-- ---- one over the other

module _ {A : Type 0} (step : A → Places → Places) where
  pub over_none : (f : Places) → f ≡ over step [] f
  unfolding over
  over_none f = refl

  over_turn : (l l' : List A) (x : A) (f g h : Places) → l' ≡ l ++ (x ∷ []) → g ≡ over step l f → h ≡ step x g → h ≡ over step l' f
  over_turn l l' x f g h e told next = next ∙ ap (step x) told ∙ sym (over-append step l (x ∷ []) f ∙ unfold over in refl) ∙ ap (λ (m : List A). over step m f) (sym e)

  pub over_next : (xs : List A) (i : ℕ) (d : A) (f g h : Places) → i < length xs → g ≡ over step (take i xs) f → h ≡ step (get_or xs i d) g → h ≡ over step (take (i + 1) xs) f
  over_next xs i d f g h more told next =
      let e : i + 1 ≡ suc i = omega arith in
      over_turn (take i xs) (take (i + 1) xs) (get_or xs i d) f g h (ap (λ (n : ℕ). take n xs) e ∙ take-suc xs i d more) told next

-- ---- entries

pub entry_told : (s t : Columns) (e : Entry) → places_by t.easts t.norths ≡ put_at e.radio (Some (record { east = e.east; north = e.north })) (places_by s.easts s.norths) → entries_told s (row_of e ∷ []) t
unfolding entries_over over find
entry_told s t e h = h ∙ ap (λ (o : Option Place). put_at e.radio o (places_by s.easts s.norths)) (sym (seen_all (Some (row_of e).val)))

-- ---- cells

pub cell_told : (b : List ℕ) (s : Slot) (f g : Places) → g ≡ entries_over unjudged anywhere (entries_from b s.first) f → g ≡ slot_over unjudged b anywhere s f
unfolding slot_over
cell_told b s f g e = rw (touched_all (edges_of s)) e

pub cell_radios : (b : List ℕ) (cells : List Slot) (i : ℕ) → Each (λ s. UpTo max_radio (entries_from b s.first)) cells → i < length cells → UpTo max_radio (entries_from b (get_or cells i no_slot).first)
cell_radios b cells i e more = Each-get_or (λ s. UpTo max_radio (entries_from b s.first)) cells i no_slot e more

-- ---- the memo's lines

pub line_radio : (l : List Line) (i : ℕ) → LinesUpTo max_radio l → i < length l → (get_or l i no_line).radio ≤ max_radio
line_radio l i e more = Each-get_or (λ x. x.radio ≤ max_radio) l i no_line e more

pub lines_radios : (m : Memo) → UpTo max_radio (lines_of m) → LinesUpTo max_radio (take m.n m.lines)
unfolding lines_of
lines_radios m e = radios_each (take m.n m.lines) e
  where
    radios_each : (l : List Line) → Each (λ x. x.key ≤ max_radio) (map line_row l) → Each (λ x. x.radio ≤ max_radio) l
    radios_each [] u = tt
    radios_each (x ∷ l) u = (u.0, radios_each l u.1)

pub lines_start : (f : Places) → f ≡ lines_over [] f
unfolding lines_over
lines_start f = over_none line_over f

pub lines_turn : (l : List Line) (i : ℕ) (f g h : Places) → i < length l → g ≡ lines_over (take i l) f → h ≡ line_over (get_or l i no_line) g → h ≡ lines_over (take (i + 1) l) f
unfolding lines_over
lines_turn l i f g h more told next = over_next line_over l i no_line f g h more told next

-- ---- the waiting reports

module _ (w : Waiting) where
  pub reports_start : (f : Places) → f ≡ reports_over anywhere (take 0 (reports_of w)) f
  unfolding reports_over
  reports_start f = over_none _ f

  pub reports_end : (i : ℕ) (f : Places) → w.n ≤ i → reports_over anywhere (take i (reports_of w)) f ≡ reports_over anywhere (reports_of w) f
  unfolding reports_of reports_over
  reports_end i f k = ap (λ (l : Rows StoreReport). over (row_over anywhere (λ w. w.fix)) l f) (mapped_end (every_report w.words) w.n i k report_row)

  module _ (size : length w.words ≡ report_fields * full_memory) (few : w.n ≤ full_memory) (i : ℕ) (more : i < w.n) {report : Report} (read : report ≡ get_or (every_report w.words) i no_report) where
    amid : w.n ≤ length (every_report w.words)
    amid = let l = length_every w.words full_memory size in omega arith

    pub reports_radio : UpTo max_radio (reports_of w) → report.radio ≤ max_radio
    unfolding reports_of
    reports_radio e = rw read (Each_mapped (every_report w.words) w.n i no_report amid more (λ x. x.key ≤ max_radio) report_row e)

    pub reports_turn : (f g h : Places) → g ≡ reports_over anywhere (take i (reports_of w)) f → h ≡ put_at report.radio (Some (record { east = report.east; north = report.north })) g
        → h ≡ reports_over anywhere (take (i + 1) (reports_of w)) f
    unfolding reports_of reports_over
    reports_turn f g h told next =
        over_turn _ _ _ (report_row report) f g h (rw read (mapped_turn (every_report w.words) w.n i no_report amid more report_row)) told
        (next ∙ ap (λ (o : Option Place). put_at report.radio o g) (sym (seen_all (Some (report_row report).val.fix))))
