-- Radios on, waiting reports and memo lines: the test of each part says just that the part is that of its rows and that the mirror's tests of these hold.
use mathlib.Core.Path.{◌≡◌, refl, sym, ap, ap₂, ◌∙◌}
use mathlib.Core.Bool.{Bool, true, false}
use mathlib.Core.List.{List, [], ◌∷◌, map}
use Rattle.std.specs.Prelude.{Option, None, Some}
use Prim.Native.Nat.{ℕ, ◌-◌, ◌*◌, ◌≤◌, ◌<◌}
use native.Mathlib.Omega.{arith}
use lib.Dec.{eqb, leb, ltb}
use lib.ListN.{length, length-map}
use borrow.Author.Tests.{lt-ltb, ltb-true, leb-true, eqb-true, ne_eqb}
use Rattle.terms.specs.Terms.{Place, max_radio, max_on}
use Rattle.lists.specs.Rows.{Rows}
use Rattle.lists.specs.Tests.{one_if, both, either, all}
use Rattle.lists.specs.Words.{low_half}
use Rattle.lists.proofs.TestsLaws.{both_left, both_right, both_intro, either_cases}
use Rattle.rules.specs.Limits.{full_memory}
use Rattle.rules.specs.Store.{Report as StoreReport, Line as StoreLine}
use Rattle.desk.specs.declared.Report.{Report}
use Rattle.desk.specs.Held.{Memo, On, Waiting}
use Rattle.desk.specs.declared.Line.{Line}
use Rattle.desk.specs.Layout.{report_fields, line_slots, slotted, report_of, no_report, waiting_of, line_with, line_of, no_line, memo_of, on_of}
use Rattle.desk.specs.Views.{every_report, radio_row, radios_of}
use Rattle.desk.proofs.HeldLaws.{lines_laid}
use Rattle.desk.proofs.ReportsLaws.{reports_of_words, waiting_is}
use Rattle.desk.proofs.UniqueLaws.{take_waiting, take_memo}
use Rattle.memo.specs.Memo.{row_of, lines_of}
use Rattle.memo.proofs.MemoLaws.{lines_memo, count_memo}
use Rattle.sound_clauses.specs.Loops.{rises_to, keys}
use Rattle.sound_clauses.specs.Radios.{on_test, memo_test, lasts_test}
use Rattle.sound_clauses.specs.Waiting.{waiting_test, places_test, dated_test}
use Rattle.sound_directory.specs.Sound.{slots_test, number}
use Rattle.sound_directory.proofs.SlotLaws.{slots_used, slots_slotted, slotted_slots}
use Rattle.waiting.specs.Waiting.{row_of as report_row, reports_of}
use Rattle.waiting.proofs.WaitingLaws.{report_row_lem, reports_waiting_of, every_size}
use Rattle.waiting.proofs.OnLaws.{radios_on_of}
use Rattle.sound_rows.specs.Sound.{on_sound, report_weight, report_laid, reports_test, waiting_sound, line_weight, line_marked, missed_test, memo_sound}
use Rattle.sound_rows.proofs.CodeLaws.{keys_radios, heard, kept, noted, lines_rest, lines_ok}

-- there and back
pub map_back : {A B : Type 0} (f : B → A) (g : A → B) (p : A → Bool) (l : List A) → ((x : A) → p x ≡ true → x ≡ f (g x)) → all p l ≡ true → l ≡ map f (map g l)
unfolding all
map_back f g p [] h e = refl
map_back f g p (x ∷ xs) h e = ap₂ ◌∷◌ (h x (both_left (p x) (all p xs) e)) (map_back f g p xs h (both_right (p x) (all p xs) e))

-- ---- who is on

module _ (on : On) where
  pub on_whole : length on.radios ≡ max_on → on_sound on ≡ true → (on ≡ on_of (radios_of on)) × (on_test (radios_of on) ≡ true)
  unfolding on_sound on_of radios_of
  on_whole l t =
      let s = both_left (slots_test number max_on on.n on.radios) (on_test (map radio_row (heard on))) t in
      let n = slots_used number max_on on.n on.radios s max_on l (omega arith) ∙ sym (length-map (heard on) radio_row) in
      let a = slots_slotted number max_on on.n on.radios s max_on l (omega arith) 0 (λ x e. e) ∙ ap (slotted max_on 0) (sym (keys_radios (heard on))) in
      (λ i. record { n = n i; radios = a i }, both_right (slots_test number max_on on.n on.radios) (on_test (map radio_row (heard on))) t)

on_few : (l : Rows (Unit {0})) → on_test l ≡ true → length l ≤ max_on
unfolding on_test
on_few l t = leb-true (length l) max_on (both_left (leb (length l) max_on) (rises_to max_radio 0 (keys l)) t)

on_slots : (l : Rows (Unit {0})) → length l ≤ max_on → slots_test number max_on (on_of l).n (on_of l).radios ≡ true
unfolding on_of
on_slots l h = rw (← length-map l (λ x. x.key)) (slotted_slots number max_on max_on 0 (keys l) refl (rw (length-map l (λ x. x.key)) h))

pub whole_on : (l : Rows (Unit {0})) → on_test l ≡ true → on_sound (on_of l) ≡ true
unfolding on_sound
whole_on l t = both_intro (on_slots l (on_few l t)) (ap on_test (radios_on_of l) ∙ t)

-- ---- waiting reports

report_nothing : (x : Report) → report_weight x ≡ 0 → x ≡ no_report
report_nothing x e =
    let r : x.radio ≡ 0 = omega arith in
    let a : x.east ≡ 0 = omega arith in
    let o : x.north ≡ 0 = omega arith in
    let m : x.new ≡ 0 = omega arith in
    let l : x.low ≡ 0 = omega arith in
    let u : x.high ≡ 0 = omega arith in
    λ i. record { radio = r i; east = a i; north = o i; new = m i; low = l i; high = u i }

report_back : (x : Report) → report_laid x ≡ true → x ≡ report_of (report_row x)
report_back x t =
    sym (report_row_lem x (leb-true x.new 1 (both_left (leb x.new 1) (ltb x.low 65536) t), ltb-true x.low 65536 (both_right (leb x.new 1) (ltb x.low 65536) t)))

mark_le : (b : Bool) → leb (one_if b) 1 ≡ true
mark_le true = refl
mark_le false = refl

module _ (w : Waiting) (size : length w.words ≡ report_fields * full_memory) where
  waiting_laid : slots_test report_weight (full_memory - 1) w.n (every_report w.words) ≡ true → all report_laid (kept w) ≡ true → w ≡ waiting_of (reports_of w)
  unfolding reports_of
  waiting_laid s m =
      let l = every_size w.words size in
      let n = slots_used report_weight (full_memory - 1) w.n (every_report w.words) s full_memory l (omega arith) ∙ sym (length-map (kept w) report_row) in
      let a = slots_slotted report_weight (full_memory - 1) w.n (every_report w.words) s full_memory l (omega arith) no_report report_nothing ∙ ap (slotted full_memory no_report) (map_back report_of report_row report_laid (kept w) report_back m) in
      waiting_is w.words w.n (map report_row (kept w)) size n a

  pub waiting_whole : (highest : ℕ) → waiting_sound highest w ≡ true
      → (w ≡ waiting_of (reports_of w)) × (waiting_test (reports_of w) ≡ true) × (places_test (reports_of w) ≡ true) × (dated_test highest (reports_of w) ≡ true)
  unfolding waiting_sound reports_test
  waiting_whole highest t =
      let s = both_left (slots_test report_weight (full_memory - 1) w.n (every_report w.words)) (reports_test highest w) t in
      let o = both_right (slots_test report_weight (full_memory - 1) w.n (every_report w.words)) (reports_test highest w) t in
      let rest = both (places_test (reports_of w)) (dated_test highest (reports_of w)) in
      let a = both_left (waiting_test (reports_of w)) (both (all report_laid (kept w)) rest) o in
      let b = both_right (waiting_test (reports_of w)) (both (all report_laid (kept w)) rest) o in
      let c = both_right (all report_laid (kept w)) rest b in (
        waiting_laid s (both_left (all report_laid (kept w)) rest b),
        a,
        both_left (places_test (reports_of w)) (dated_test highest (reports_of w)) c,
        both_right (places_test (reports_of w)) (dated_test highest (reports_of w)) c,
      )

waiting_few : (l : Rows StoreReport) → waiting_test l ≡ true → length l < full_memory
unfolding waiting_test
waiting_few l t = ltb-true (length l) full_memory (both_left (ltb (length l) full_memory) (rises_to max_radio 0 (keys l)) t)

waiting_slots : (l : Rows StoreReport) → length l < full_memory → slots_test report_weight (full_memory - 1) (waiting_of l).n (every_report (waiting_of l).words) ≡ true
unfolding waiting_of
waiting_slots l h = rw (reports_of_words, ← length-map l report_of) (slotted_slots report_weight (full_memory - 1) full_memory no_report (map report_of l) refl (rw (length-map l report_of) (omega arith)))

reports_laid : (l : Rows StoreReport) → all report_laid (map report_of l) ≡ true
unfolding all
reports_laid [] = refl
reports_laid (x ∷ xs) = both_intro (both_intro (mark_le x.val.new) (lt-ltb (low_half x.val.fix.minute) 65536 (omega arith))) (reports_laid xs)

pub whole_waiting : (highest : ℕ) (l : Rows StoreReport) → waiting_test l ≡ true → places_test l ≡ true → dated_test highest l ≡ true → waiting_sound highest (waiting_of l) ≡ true
unfolding waiting_sound reports_test
whole_waiting highest l t u v =
    both_intro (waiting_slots l (waiting_few l t))
    (both_intro (ap waiting_test (reports_waiting_of l) ∙ t)
    (both_intro (ap (all report_laid) (take_waiting l) ∙ reports_laid l)
    (both_intro (ap places_test (reports_waiting_of l) ∙ u) (ap (dated_test highest) (reports_waiting_of l) ∙ v))))

-- ---- the memo

line_nothing : (x : Line) → line_weight x ≡ 0 → x ≡ no_line
line_nothing x e =
    let r : x.radio ≡ 0 = omega arith in
    let m : x.missed ≡ 0 = omega arith in
    let p : x.placed ≡ 0 = omega arith in
    let a : x.east ≡ 0 = omega arith in
    let o : x.north ≡ 0 = omega arith in
    λ i. record { radio = r i; missed = m i; placed = p i; east = a i; north = o i }

line_back : (x : Line) → line_marked x ≡ true → x ≡ line_of (row_of x)
line_back x t =
    either_cases (eqb x.placed 1) (both (eqb x.placed 0) (both (eqb x.east 0) (eqb x.north 0))) t
    (λ u. let e = eqb-true x.placed 1 u in
    rw (ne_eqb x.placed 0 (omega arith)) (λ i. record { radio = x.radio; missed = x.missed; placed = e i; east = x.east; north = x.north }))
    (λ u. let v = both_right (eqb x.placed 0) (both (eqb x.east 0) (eqb x.north 0)) u in
    let z = both_left (eqb x.placed 0) (both (eqb x.east 0) (eqb x.north 0)) u in
    let e = eqb-true x.placed 0 z in
    let a = eqb-true x.east 0 (both_left (eqb x.east 0) (eqb x.north 0) v) in
    let o = eqb-true x.north 0 (both_right (eqb x.east 0) (eqb x.north 0) v) in
    rw z (λ i. record { radio = x.radio; missed = x.missed; placed = e i; east = a i; north = o i }))

module _ (m : Memo) where
  memo_laid : length m.lines ≡ line_slots → slots_test line_weight line_slots m.n m.lines ≡ true → all line_marked (noted m) ≡ true → m ≡ memo_of (lines_of m)
  unfolding lines_of memo_of
  memo_laid size s t =
      let l = size in
      let n : m.n ≡ (memo_of (lines_of m)).n = slots_used line_weight line_slots m.n m.lines s line_slots l (omega arith) ∙ sym (length-map (noted m) row_of) in
      let a = slots_slotted line_weight line_slots m.n m.lines s line_slots l (omega arith) no_line line_nothing ∙ ap (slotted line_slots no_line) (map_back line_of row_of line_marked (noted m) line_back t) in
      let w : m.lines ≡ (memo_of (lines_of m)).lines = a ∙ sym (lines_laid (lines_of m)) in
      λ i. record { n = n i; lines = w i }

  pub memo_whole : length m.lines ≡ line_slots → memo_sound m ≡ true → (m ≡ memo_of (lines_of m)) × (memo_test (lines_of m) ≡ true) × (missed_test (lines_of m) ≡ true) × (lasts_test (lines_of m) ≡ true)
  unfolding memo_sound
  memo_whole l t =
      let s = both_left (slots_test line_weight line_slots m.n m.lines) (lines_ok m) t in
      let o = both_right (slots_test line_weight line_slots m.n m.lines) (lines_ok m) t in
      let b = both_right (memo_test (lines_of m)) (lines_rest m) o in
      let d = both_right (all line_marked (noted m)) (both (missed_test (lines_of m)) (lasts_test (lines_of m))) b in (
        memo_laid l s (both_left (all line_marked (noted m)) (both (missed_test (lines_of m)) (lasts_test (lines_of m))) b),
        both_left (memo_test (lines_of m)) (lines_rest m) o,
        both_left (missed_test (lines_of m)) (lasts_test (lines_of m)) d,
        both_right (missed_test (lines_of m)) (lasts_test (lines_of m)) d,
      )

memo_slots : (l : Rows StoreLine) → length l ≤ line_slots → slots_test line_weight line_slots (memo_of l).n ((memo_of l).lines) ≡ true
memo_slots l h =
    ap₂ (slots_test line_weight line_slots) (count_memo l ∙ sym (length-map l line_of)) (lines_laid l)
    ∙ slotted_slots line_weight line_slots line_slots no_line (map line_of l) refl (rw (length-map l line_of) h)

line_marked_lem : (r m : ℕ) (o : Option Place) → line_marked (line_with r m o) ≡ true
unfolding both either
line_marked_lem r m None = refl
line_marked_lem r m (Some p) = refl

lines_marked : (l : Rows StoreLine) → all line_marked (map line_of l) ≡ true
unfolding all
lines_marked [] = refl
lines_marked (x ∷ xs) = both_intro (line_marked_lem x.key x.val.missed x.val.last) (lines_marked xs)

pub whole_memo_sound : (l : Rows StoreLine) → length l ≤ line_slots → memo_test l ≡ true → missed_test l ≡ true → lasts_test l ≡ true → memo_sound (memo_of l) ≡ true
unfolding memo_sound
whole_memo_sound l h t u v =
    both_intro (memo_slots l h)
    (both_intro (ap memo_test (lines_memo l) ∙ t)
    (both_intro (ap (all line_marked) (take_memo l) ∙ lines_marked l) (both_intro (ap missed_test (lines_memo l) ∙ u) (ap lasts_test (lines_memo l) ∙ v))))
