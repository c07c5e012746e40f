-- What the latest report of each radio on told ("How a record is carried out": "latest place, a waiting report's before a stored one's"; "each waiting report and
-- page entry carries the minute of its report"), beside the radios on.
use Rattle.std.specs.Prelude.{Bool, cond, List, ◌≡◌, ℕ, zero, suc, ◌≤◌, ◌<◌, eqb, length, get_or, Option, None, Some}
use Rattle.terms.specs.Terms.{Fix, max_on}
use Rattle.terms.specs.Values.{fix_of}
use Rattle.terms.specs.declared.Fix.{Fix as HeldFix}
use Rattle.lists.specs.Parts.{tab}
use Rattle.lists.specs.Rows.{Row, Rows}
use Rattle.page.specs.Buffer.{entries_from}
use Rattle.rules.specs.Store.{Report, Line, Store}
use Rattle.rules.specs.Sweep.{stale}
use Rattle.rules.specs.Everyone.{everyone}
use Rattle.desk.specs.declared.Slot.{Slot}
use Rattle.range_places.specs.Places.{over}

-- ---- a fix for each place among those on

-- what stands past the end of a list of them
abbrev pub no_fix : HeldFix
no_fix = record { place = record { east = 0; north = 0 }; minute = 0 }

-- what stands at each place
abbrev pub Fixes : Type 0
Fixes = ℕ → Fix

unfoldable pub fixes_in : List HeldFix → Fixes
fixes_in fixes i = fix_of (get_or fixes i no_fix)

-- ---- all radios on

-- the rows that radios and fixes hold side by side
abbrev pub rows_in : ℕ → List ℕ → List HeldFix → Rows Fix
rows_in n radios fixes = tab n (λ i. record { key = get_or radios i 0; val = fix_of (get_or fixes i no_fix) })

-- "all radios on": beside each stands what its latest report told
pub record FixesOn (s : Store) (n : ℕ) (radios : List ℕ) (fixes : List HeldFix) : Type 0 where
  pub rows : rows_in n radios fixes ≡ everyone s

-- ---- where the radios on stand

-- each number of a table by radio is a place among those on that counts from 1, or 0 for none
pub record Seats (seats : List ℕ) : Type 0 where
  pub place : (q : ℕ) → get_or seats q 0 ≤ max_on

-- and it is the radio's own: radio r stands at i exactly if the radio at i is r
pub record SeatsOf (radios seats : List ℕ) : Type 0 where
  pub places : Seats seats
  pub own : (i : ℕ) → i < length radios → (r : ℕ) → eqb (get_or seats r 0) (suc i) ≡ eqb (get_or radios i 0) r

abbrev pub seated : ℕ → Option ℕ
seated zero = None
seated (suc i) = Some i

-- where a radio stands
abbrev pub seat_in : List ℕ → ℕ → Option ℕ
seat_in seats r = seated (get_or seats r 0)

-- ---- one over the other

-- this stands where the radio does, whatever stood there
abbrev pub retold : List ℕ → ℕ → Fix → Fixes → Fixes
retold seats r v f i = cond (eqb (get_or seats r 0) (suc i)) v (f i)

-- what an entry has; a stale entry is passed over
abbrev pub entry_told : List ℕ → (Row Fix → Bool) → Row Fix → Fixes → Fixes
entry_told seats old e f = cond (old e) f (retold seats e.key e.val f)

unfoldable pub entries_told : List ℕ → (Row Fix → Bool) → Rows Fix → Fixes → Fixes
entries_told seats old = over (entry_told seats old)

-- a cell's entries
unfoldable pub slot_told : List ℕ → (Row Fix → Bool) → List ℕ → Slot → Fixes → Fixes
slot_told seats old b s = entries_told seats old (entries_from b s.first)

abbrev pub report_told : List ℕ → Row Report → Fixes → Fixes
report_told seats x = retold seats x.key x.val.fix

unfoldable pub reports_told : List ℕ → Rows Report → Fixes → Fixes
reports_told seats = over (report_told seats)

-- what the entry of a radio that isn't stale has; over it what a waiting report told: "a waiting report's before a stored one's"
unfoldable pub fixes_of : List ℕ → List ℕ → List Slot → Rows Line → Rows Report → Fixes → Fixes
fixes_of b seats slots memo waiting f = reports_told seats waiting (over (slot_told seats (stale memo) b) slots f)
