-- Tests of the radios: who is on, entries against memo and marks (01, "A sound store").
use Rattle.std.specs.Prelude.{Bool, true, not, cond, ℕ, suc, ◌+◌, eqb, leb, ltb, length, Option, None, Some}
use Rattle.terms.specs.Terms.{Place, Fix, max_radio, max_on}
use Rattle.lists.specs.Rows.{Row, Rows}
use Rattle.lists.specs.Sums.{sum_by}
use Rattle.lists.specs.Tests.{both, either, all}
use Rattle.rules.specs.Store.{Report, Line}
use Rattle.rules.specs.Sweep.{stale}
use Rattle.sound_clauses.specs.Loops.{all_to, rises_to, keys, passing}
use Rattle.sound_clauses.specs.Grid.{place_test}

-- ---- counts by radio; es are all entries, of every cell

-- its entries that aren't stale, and those that are
unfoldable pub live_at : Rows Line → ℕ → Rows Fix → ℕ
live_at memo r es = passing (λ e. not (stale memo e)) r es

unfoldable pub stale_at : Rows Line → ℕ → Rows Fix → ℕ
stale_at memo r es = passing (stale memo) r es

-- its waiting reports marked new
unfoldable pub new_at : ℕ → Rows Report → ℕ
new_at r ws = passing (λ w. w.val.new) r ws

-- 1 if it is on
unfoldable pub on_at : ℕ → Rows (Unit {0}) → ℕ
on_at r on = passing (λ _. true) r on

-- ---- tests

-- "at most 512 radios signed on", "A radio number is 1 to 4,095."
unfoldable pub on_test : Rows (Unit {0}) → Bool
on_test on = both (leb (length on) max_on) (rises_to max_radio 0 (keys on))

-- "Each radio on has one entry that isn't stale or a waiting report marked new, and not both. A radio off has neither."
unfoldable pub present_test : Rows Line → Rows Fix → Rows Report → Rows (Unit {0}) → Bool
present_test memo es ws on = all_to (suc max_radio) (λ r. eqb (live_at memo r es + new_at r ws) (on_at r on))

-- "An unmarked waiting report belongs to a radio on."
unfoldable pub unmarked_test : Rows Report → Rows (Unit {0}) → Bool
unmarked_test ws on = all (λ w. either w.val.new (ltb 0 (on_at w.key on))) ws

-- "Memo lines by rising radio"
unfoldable pub memo_test : Rows Line → Bool
memo_test memo = rises_to max_radio 0 (keys memo)

-- "missed counts of 1 or more equal to that radio's stale entries, an entry being judged by the line's place"
unfoldable pub line_test : Rows Line → Rows Fix → Row Line → Bool
line_test memo es l = both (ltb 0 l.val.missed) (eqb (stale_at memo l.key es) l.val.missed)

unfoldable pub lines_test : Rows Line → Rows Fix → Bool
lines_test memo es = all (line_test memo es) memo

-- a line's place is a place, or "none"
abbrev pub last_test : Option Place → Bool
last_test None = true
last_test (Some p) = place_test p

unfoldable pub lasts_test : Rows Line → Bool
lasts_test memo = all (λ l. last_test l.val.last) memo

-- ---- present_test in balance: all entries of a radio, not judged, against its missed count; the same, once the lines have passed

unfoldable pub entries_at : ℕ → Rows Fix → ℕ
entries_at r es = passing (λ _. true) r es

unfoldable pub missed_at : ℕ → Rows Line → ℕ
missed_at r memo = sum_by (λ l. cond (eqb r l.key) l.val.missed 0) memo
