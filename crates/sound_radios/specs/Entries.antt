-- The test of soundness as far as it judges entries: by memo, marks and who is on, and the round's inequality; and unmarked reports, by who is on (01, "A sound
-- store").
use Rattle.std.specs.Prelude.{Bool, true, List, ℕ, length}
use Rattle.terms.specs.Terms.{Fix}
use Rattle.lists.specs.Rows.{Rows}
use Rattle.lists.specs.Sums.{concat}
use Rattle.lists.specs.Tests.{both}
use Rattle.rules.specs.Store.{Report, Line}
use Rattle.sound_clauses.specs.Loops.{passing}
use Rattle.sound_clauses.specs.Radios.{present_test, unmarked_test, lines_test}
use Rattle.sound_clauses.specs.Round.{stale_counts, bound_test}

-- how many rows have the key
abbrev pub keyed : {Val : Type 0} → ℕ → Rows Val → ℕ
keyed = passing (λ _. true)

-- the mirror's tests that look at entries, and that of unmarked reports
unfoldable pub entries_test : Rows Line → Rows Report → Rows (Unit {0}) → ℕ → List (Rows Fix) → Bool
entries_test memo ws on c rows =
    -- "An unmarked waiting report belongs to a radio on."
    both (unmarked_test ws on)
    -- "Each radio on has one entry that isn't stale or a waiting report marked new, and not both. A radio off has neither."
    (both (present_test memo (concat rows) ws on)
    -- "missed counts of 1 or more equal to that radio's stale entries, an entry being judged by the line's place"
    (both (lines_test memo (concat rows))
    -- "the stale entries in cells at place k and later, plus all waiting, are at most 16 × (63 − k) + c + 127"
    (bound_test (stale_counts memo rows) (length ws) c)))
