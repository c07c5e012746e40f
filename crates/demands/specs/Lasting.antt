-- How long an old entry can last (02, Job 8), over desk and page bytes: "in any sequence from a fresh store".
use Rattle.std.specs.Prelude.{Bool, false, cond, List, ◌≡◌, ℕ, ◌+◌, ◌≤◌, eqb}
use Rattle.terms.specs.Terms.{Place, Fix, pages}
use Rattle.lists.specs.Rows.{Row}
use Rattle.lists.specs.Sums.{sum_by, sum_to}
use Rattle.lists.specs.Tests.{one_if, both, either}
use Rattle.page.specs.Page.{entries}
use Rattle.page.specs.Buffer.{page_at}
use Rattle.rules.specs.Grid.{same_place}
use Rattle.rules.specs.Records.{request_of}
use Rattle.rules.specs.Sweep.{is_at}
use Rattle.rules.specs.Plain.{Plain}
use Rattle.rules.specs.Calls.{Call, hands, sets, clears, writes, plain_call}
use Rattle.rules.specs.Lasting.{is_counted, lasting_records}
use Rattle.desk.specs.declared.Desk.{Desk}
use Rattle.desk.specs.Call.{After}
use Rattle.demands.specs.Trace.{Trace, begun, called, desk_cuts}

-- ---- an entry, and "off the pages"

-- an entry of radio r at place p
unfoldable pub is_entry : ℕ → Place → Row Fix → Bool
is_entry r p e = both (eqb r e.key) (same_place p e.val.place)

-- how many of these stand on the 128 pages
unfoldable pub entries_at : List ℕ → ℕ → Place → ℕ
entries_at b r p = sum_to pages (λ q. sum_by (λ e. one_if (is_entry r p e)) (entries (page_at b q)))

-- ---- "after it"

-- "such record": an accepted sign-on, report or sign-off
unfoldable pub is_record : Call → After → Bool
is_record (hands bytes) y = both (eqb y.number 0) (is_counted (request_of bytes))
is_record (sets w rect) y = false
is_record (clears w) y = false
is_record writes y = false

-- how many such records came "after" the one in which an entry of radio r at place p "became stale": none while p is the last place flushed for r, nor at
-- the end of the very record after which it is so no longer. "one added later for that radio, even at the same place, is another entry": to add one is to
-- flush that place for that radio again, and from there the count begins anew. The entry that stood there does not come to life by it: the place lies in the
-- cell that holds it, and a flush sweeps its cell before it enters a report.
unfoldable pub records_since : ℕ → Place → {d : Desk} {b : List ℕ} {x : Plain} → Trace d b x → ℕ
records_since r p begun = 0
records_since r p (called {d} {b} {x} before call buffer y small a) =
    cond (either (is_at (x.flushed r) p) (is_at ((plain_call (desk_cuts d) call x).flushed r) p)) 0
    (records_since r p before + one_if (is_record call y))

-- ---- the claims

-- "off the pages by the end of the" n-th "such record after it"
abbrev pub OffBy : ℕ → Type 0
OffBy n = (d : Desk) (b : List ℕ) (x : Plain) (t : Trace d b x) (r : ℕ) (p : Place) → n ≤ records_since r p t → entries_at b r p ≡ 0

-- "the 1,024th such record"
abbrev pub Lasting : Type 0
Lasting = OffBy lasting_records

-- 1,024 is what is asked. One less holds, too: the record in which an entry becomes stale brings its cell nearer to its sweep as any other does
abbrev pub LastingLess : Type 0
LastingLess = OffBy 1023

-- radio and place tell an entry from all others on the pages
abbrev pub OneEntry : Type 0
OneEntry = (d : Desk) (b : List ℕ) (x : Plain) (t : Trace d b x) (r : ℕ) (p : Place) → entries_at b r p ≤ 1
