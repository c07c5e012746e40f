-- The test of soundness as far as it looks at radios on, at waiting reports or at memo lines, each by itself (01, "A sound store"). They may be in any
-- condition, with a count beyond their slots or anything in the slots that are not used.
use Rattle.std.specs.Prelude.{Bool, List, ℕ, ◌+◌, ◌-◌, eqb, leb, ltb, get_or, map, take}
use Rattle.terms.specs.Terms.{max_radio, max_on}
use Rattle.lists.specs.Rows.{Rows}
use Rattle.lists.specs.Tests.{both, either, all}
use Rattle.lists.specs.Words.{wide}
use Rattle.rules.specs.Limits.{full_memory}
use Rattle.rules.specs.Store.{Line as StoreLine}
use Rattle.desk.specs.declared.Report.{Report}
use Rattle.desk.specs.Held.{Memo, On, Waiting}
use Rattle.desk.specs.declared.Line.{Line}
use Rattle.desk.specs.Layout.{line_slots}
use Rattle.desk.specs.Views.{every_report, radios_of, last_of}
use Rattle.memo.specs.Memo.{lines_of}
use Rattle.sound_clauses.specs.Loops.{rises_to}
use Rattle.sound_clauses.specs.Radios.{on_test, memo_test, last_test, lasts_test}
use Rattle.sound_clauses.specs.Waiting.{waiting_test, places_test, dated_test}
use Rattle.sound_directory.specs.Sound.{slots_test, number}
use Rattle.waiting.specs.Waiting.{reports_of}

-- ---- who is on

unfoldable pub on_sound : On → Bool
on_sound on = both (slots_test number max_on on.n on.radios) (on_test (radios_of on))

-- ---- waiting reports

abbrev pub report_weight : Report → ℕ
report_weight x = x.radio + x.east + x.north + x.new + x.low + x.high

-- 1 or 0
abbrev pub is_mark : ℕ → Bool
is_mark x = leb x 1

-- as a row lays it out: marked 1 or 0, and the lower half of its minute has 16 bits
abbrev pub report_laid : Report → Bool
report_laid x = both (is_mark x.new) (ltb x.low 65536)

-- the minute of slot i, in the columns of its halves, is not above the highest
abbrev pub is_dated : ℕ → List ℕ → List ℕ → ℕ → Bool
is_dated highest lows highs i = leb (wide (get_or lows i 0) (get_or highs i 0)) highest

-- what is tested of the reports that wait
unfoldable pub reports_test : ℕ → Waiting → Bool
reports_test highest w =
    both (waiting_test (reports_of w))
    (both (all report_laid (take w.n (every_report w.words))) (both (places_test (reports_of w)) (dated_test highest (reports_of w))))

unfoldable pub waiting_sound : ℕ → Waiting → Bool
waiting_sound highest w = both (slots_test report_weight (full_memory - 1) w.n (every_report w.words)) (reports_test highest w)

-- ---- the memo

abbrev pub line_weight : Line → ℕ
line_weight x = x.radio + x.missed + x.placed + x.east + x.north

-- each of its numbers zero
abbrev pub is_unused_line : Line → Bool
is_unused_line x = eqb (line_weight x) 0

-- marked 1, or marked 0 with the place zero
abbrev pub line_marked : Line → Bool
line_marked x = either (eqb x.placed 1) (both (eqb x.placed 0) (both (eqb x.east 0) (eqb x.north 0)))

-- "missed counts of 1 or more"
unfoldable pub missed_test : Rows StoreLine → Bool
missed_test memo = all (λ l. ltb 0 l.val.missed) memo

abbrev pub line_test : Line → Bool
line_test x = both (line_marked x) (both (ltb 0 x.missed) (last_test (last_of x)))

-- the lines' radios rise, and each line is one
unfoldable pub lines_test : List Line → Bool
lines_test lines = both (rises_to max_radio 0 (map (λ x. x.radio) lines)) (all line_test lines)

unfoldable pub memo_sound : Memo → Bool
memo_sound m =
    both (slots_test line_weight line_slots m.n m.lines)
    (both (memo_test (lines_of m)) (both (all line_marked (take m.n m.lines)) (both (missed_test (lines_of m)) (lasts_test (lines_of m)))))
