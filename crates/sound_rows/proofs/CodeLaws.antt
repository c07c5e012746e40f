-- Radios on, waiting reports and memo lines: what the code's tests come to.
use mathlib.Core.Path.{◌≡◌, refl, sym, ap, ap₂, ◌∙◌}
use mathlib.Core.Bool.{Bool, true, false, cond}
use mathlib.Core.List.{List, map}
use mathlib.Core.Logic.{◌≢◌}
use Prim.Native.Nat.{ℕ, ◌+◌, ◌-◌, ◌≤◌, ◌<◌}
use native.Mathlib.Omega.{arith}
use lib.Dec.{eqb, ltb}
use lib.ListN.{length, take, drop, length-map}
use borrow.Author.Tests.{lt-ltb, le-ltb, le-leb, eq-eqb, ne_eqb}
use Rattle.terms.specs.Terms.{max_radio, max_on}
use Rattle.lists.specs.Rows.{Row}
use Rattle.lists.specs.Tests.{both, either, all}
use Rattle.lists.proofs.Cases.{by_cases}
use Rattle.lists.proofs.TestsLaws.{both_left_false, both_right_false}
use Rattle.rules.specs.Limits.{last_metre, full_memory}
use Rattle.rules.specs.Store.{Line as StoreLine}
use Rattle.desk.specs.declared.Report.{Report}
use Rattle.desk.specs.Held.{Memo, On, Waiting}
use Rattle.desk.specs.declared.Line.{Line}
use Rattle.desk.specs.Layout.{line_slots}
use Rattle.desk.specs.Views.{every_report, radio_row, radios_of, last_of}
use Rattle.memo.specs.Memo.{row_of, lines_of}
use Rattle.sound_clauses.specs.Loops.{rises_to, keys}
use Rattle.sound_clauses.specs.Grid.{place_test}
use Rattle.sound_clauses.specs.Radios.{on_test, memo_test, last_test, lasts_test}
use Rattle.sound_clauses.proofs.LoopsLaws.{all-both}
use Rattle.sound_directory.specs.Sound.{weighs, slots_test, number, row_sound}
use Rattle.lists.proofs.MapLaws.{map-map, map_same}
use Rattle.lists.proofs.SlotsLaws.{true-both, all-map, few_used}
use Rattle.sound_directory.proofs.LoopLaws.{unused_rest, sum_Clear}
use Rattle.sound_directory.proofs.SlotLaws.{slots_long, slots_unclear, slots_clear, slots_count}
use Rattle.sound_rows.specs.Sound.{on_sound, report_weight, reports_test, waiting_sound, line_weight, is_unused_line, line_marked, missed_test, line_test, lines_test, memo_sound}
use Rattle.sound_rows.proofs.ClimbLaws.{climbs}

-- ---- who is on

pub keys_radios : (l : List ℕ) → keys (map radio_row l) ≡ l
keys_radios l = map-map (λ x. x.key) radio_row l ∙ map_same (λ x. x) (λ x. refl) l

module _ (on : On) where
  abbrev pub heard : List ℕ
  heard = take on.n on.radios

  -- what is tested of the radios in use, where the others are zero
  on_used : on.n ≤ max_on → on_test (radios_of on) ≡ rises_to max_radio 0 heard
  unfolding on_test radios_of
  on_used h =
      true-both (rises_to max_radio 0 (keys (map radio_row heard))) (le-leb (length (map radio_row heard)) max_on (rw (length-map heard radio_row) (few_used on.n max_on on.radios h)))
      ∙ ap (rises_to max_radio 0) (keys_radios heard)

  pub on_row : length on.radios ≡ max_on → {r : Bool} → r ≡ row_sound max_radio (length on.radios) on.n on.radios → r ≡ on_sound on
  unfolding row_sound on_sound
  on_row l e =
      e
      ∙ ap (λ (k : ℕ). row_sound max_radio k on.n on.radios) l
      ∙ by_cases (slots_test number max_on on.n on.radios)
      (λ t. ap (both (slots_test number max_on on.n on.radios)) (sym (on_used (slots_count number max_on on.n on.radios t))))
      (λ t. both_left_false _ t ∙ sym (both_left_false _ t))

-- ---- waiting reports

abbrev pub kept : Waiting → List Report
kept w = take w.n (every_report w.words)

module _ (highest : ℕ) (w : Waiting) where
  pub waiting_long : full_memory - 1 < w.n → false ≡ waiting_sound highest w
  unfolding waiting_sound
  waiting_long h = sym (both_left_false (reports_test highest w) (slots_long report_weight (full_memory - 1) w.n (every_report w.words) h))

  module _ {b : Bool} (said : b ≡ eqb (weighs report_weight w.n (every_report w.words)) 0) where
    pub waiting_unclear : b ≡ false → false ≡ waiting_sound highest w
    unfolding waiting_sound
    waiting_unclear f = sym (both_left_false (reports_test highest w) (slots_unclear report_weight (full_memory - 1) w.n (every_report w.words) said f))

    pub waiting_tested : {r : Bool} → w.n ≤ full_memory - 1 → b ≡ true → r ≡ reports_test highest w → r ≡ waiting_sound highest w
    unfolding waiting_sound
    waiting_tested h f q = q ∙ sym (true-both (reports_test highest w) (slots_clear report_weight (full_memory - 1) w.n (every_report w.words) h said f))

-- ---- the memo

module _ (x : Line) where
  pub line_unmissed : x.missed ≡ 0 → false ≡ line_test x
  line_unmissed e = sym (both_right_false (line_marked x) (both_left_false (last_test (last_of x)) (le-ltb 0 x.missed (omega arith))))

  pub line_placed : x.missed ≢ 0 → x.placed ≡ 1 → x.east ≤ last_metre → x.north ≤ last_metre → true ≡ line_test x
  unfolding both either place_test
  line_placed m e h k =
      rw (lt-ltb 0 x.missed (omega arith), eq-eqb x.placed 1 e, ne_eqb x.placed 0 (omega arith), le-leb x.east last_metre h, le-leb x.north last_metre k)

  pub line_unmarked : x.placed ≢ 1 → x.placed ≢ 0 → false ≡ line_test x
  unfolding both either
  line_unmarked e f = rw (ne_eqb x.placed 1 e, ne_eqb x.placed 0 f)

  pub line_east : x.placed ≡ 0 → x.east ≢ 0 → eqb x.east 0 ≡ line_test x
  unfolding both either
  line_east e f = rw (ne_eqb x.placed 1 (omega arith), eq-eqb x.placed 0 e, ne_eqb x.east 0 f)

  pub line_north : x.missed ≢ 0 → x.placed ≡ 0 → x.east ≡ 0 → eqb x.north 0 ≡ line_test x
  unfolding both either
  line_north m e f = rw (lt-ltb 0 x.missed (omega arith), ne_eqb x.placed 1 (omega arith), eq-eqb x.placed 0 e, eq-eqb x.east 0 f) (same (eqb x.north 0))
    where
      same : (b : Bool) → b ≡ cond b true false
      same true = refl
      same false = refl

-- a line's numbers, its first four and its north: all are zero just if it is as an unused one
pub line_unused : (x : Line) (a : ℕ) → eqb a 0 ≡ eqb (x.radio + x.missed + x.placed + x.east) 0 → both (eqb a 0) (eqb x.north 0) ≡ is_unused_line x
line_unused x a e = ap (λ (y : Bool). both y (eqb x.north 0)) e ∙ sym (sum_Clear (x.radio + x.missed + x.placed + x.east) x.north)

pub lines_climb : (lines : List Line) {r : Bool} → r ≡ climbs (λ x. x.radio) line_test 0 lines → r ≡ lines_test lines
unfolding climbs lines_test
lines_climb lines e = e

module _ (m : Memo) where
  abbrev pub noted : List Line
  noted = take m.n m.lines

  abbrev pub lines_rest : Bool
  lines_rest = both (all line_marked noted) (both (missed_test (lines_of m)) (lasts_test (lines_of m)))

  abbrev pub lines_ok : Bool
  lines_ok = both (memo_test (lines_of m)) lines_rest

  pub memo_long : line_slots < m.n → false ≡ memo_sound m
  unfolding memo_sound
  memo_long h = sym (both_left_false lines_ok (slots_long line_weight line_slots m.n m.lines h))

  memo_used : lines_test noted ≡ lines_ok
  unfolding lines_test memo_test missed_test lasts_test lines_of
  memo_used =
      ap₂ both
      (ap (rises_to max_radio 0) (sym (map-map (λ x. x.key) row_of noted)))
      (all-both line_marked (λ x. both (ltb 0 x.missed) (last_test (last_of x))) noted
      ∙ ap (both (all line_marked noted)) (all-both (λ x. ltb 0 x.missed) (λ x. last_test (last_of x)) noted
      ∙ ap₂ both (sym (all-map (λ (x : Row StoreLine). ltb 0 x.val.missed) row_of noted)) (sym (all-map (λ (x : Row StoreLine). last_test x.val.last) row_of noted))))

  module _ (size : length m.lines ≡ line_slots) (p : Line → Bool) (same : (x : Line) → p x ≡ eqb (line_weight x) 0) {b : Bool} (said : b ≡ all p (take (line_slots - m.n) (drop m.n m.lines))) where
    cleared : b ≡ eqb (weighs line_weight m.n m.lines) 0
    cleared = unused_rest line_weight p same m.n line_slots m.lines size said

    pub memo_unclear : b ≡ false → false ≡ memo_sound m
    unfolding memo_sound
    memo_unclear f = sym (both_left_false lines_ok (slots_unclear line_weight line_slots m.n m.lines cleared f))

    pub memo_lines : {r : Bool} → m.n ≤ line_slots → b ≡ true → r ≡ lines_test (take m.n m.lines) → r ≡ memo_sound m
    unfolding memo_sound
    memo_lines h f q = q ∙ memo_used ∙ sym (true-both lines_ok (slots_clear line_weight line_slots m.n m.lines h cleared f))
