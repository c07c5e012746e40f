-- The waiting reports of the desk as rows by rising radio (01, "How a record is carried out", "A sound store").
use Rattle.std.specs.Prelude.{not, map, ◌≡◌, ℕ, ◌≤◌, ◌<◌, eqb, take, Option, None, Some}
use Rattle.terms.specs.Terms.{Fix, fix_at}
use Rattle.lists.specs.Rows.{Row, Rows, Rising}
use Rattle.lists.specs.Words.{wide}
use Rattle.desk.specs.Views.{every_report}
use Rattle.rules.specs.Limits.{full_memory}
use Rattle.rules.specs.Store.{Report as StoreReport}
use Rattle.desk.specs.Layout.{report_of, waiting_of}
use Rattle.desk.specs.declared.Report.{Report}
use Rattle.desk.specs.Held.{Waiting}

abbrev pub fix_of : Report → Fix
fix_of w = fix_at w.east w.north (wide w.low w.high)

-- what it told, with a mark
abbrev pub waits : Report → StoreReport
waits w = record { fix = fix_of w; new = not (eqb w.new 0) }

-- a report as a row lays it out: its mark is 0 or 1, and the lower half of its minute has 16 bits
abbrev pub GoodReport : Report → Type 0
GoodReport w = (w.new ≤ 1) × (w.low < 65536)

-- a report as a row: its radio is the key
abbrev pub row_of : Report → Row StoreReport
row_of w = record { key = w.radio; val = waits w }

-- the rows that the desk holds
unfoldable pub reports_of : Waiting → Rows StoreReport
reports_of w = map row_of (take w.n (every_report w.words))

-- marks are 0 or 1, unused slots zero
abbrev pub WholeWaiting : Waiting → Type 0
WholeWaiting w = w ≡ waiting_of (reports_of w)

-- waiting reports as a step of a call finds them: laid out so, by rising radio, and no more than there are slots
abbrev pub GoodWaiting : Waiting → Type 0
GoodWaiting w = (w.n ≤ full_memory) × WholeWaiting w × Rising 0 (reports_of w)

-- the same, with a slot for one more
abbrev pub RoomyWaiting : Waiting → Type 0
RoomyWaiting w = (w.n < full_memory) × WholeWaiting w × Rising 0 (reports_of w)

-- a radio's report as the desk lays it out, from what is found of it
abbrev pub laid_report : ℕ → Option StoreReport → Option Report
laid_report r None = None
laid_report r (Some w) = Some (report_of (record { key = r; val = w }))
