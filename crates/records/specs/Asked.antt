-- What a record's bytes ask of a desk, or the number under which they are turned down (01, "Records and pages", "Turned down, in checking order").
use Rattle.std.specs.Prelude.{Bool, true, false, cond, List, ℕ, ◌≤◌, ◌<◌, ◌≡◌, eqb, length, Option, None, Some}
use Rattle.terms.specs.Terms.{Fix, max_radio, max_on}
use Rattle.lists.specs.Rows.{find}
use Rattle.lists.specs.Tests.{is_some}
use Rattle.rules.specs.Records.{Request, sign_on, report, sign_off, range, length_field, kind_field, length_of}
use Rattle.rules.specs.Store.{Store}
use Rattle.rules.specs.Carry.{is_on, on_count}
use Rattle.rules.specs.WellFormed.{InSquare}
use Rattle.desk.specs.Held.{On}
use Rattle.desk.specs.Views.{radios_of, rect_of}
use Rattle.std.specs.Prelude.{Result, Ok, Err}
use Rattle.terms.specs.Values.{fix_of}
use Rattle.terms.specs.Refusals.{number_of}
use Rattle.terms.specs.declared.Refusal.{Refusal}
use Rattle.records.specs.declared.Asked.{Asked}
use Rattle.records.specs.declared.Asked.TheVariants.{SignOn, Report, SignOff, Range}

-- "its length in bytes, its kind"
abbrev pub head_bytes : ℕ
head_bytes = 4

-- where a body ends, before its minute: "radio", "radio, east, north", "west, east, south, north"
abbrev pub radio_end : ℕ
radio_end = 6

abbrev pub place_end : ℕ
place_end = 10

abbrev pub rect_end : ℕ
rect_end = 12

-- the length is the one for its kind, and as many bytes are at hand: no fewer than a radio and what stands before it
pub record Whole (b : List ℕ) : Type 0 where
  pub long : length_of (kind_field b) ≡ Some (length_field b)
  pub there : length_field b ≤ length b
  pub least : radio_end ≤ length b

-- who is on, by the desk
abbrev pub on_in : On → ℕ → Bool
on_in on r = is_some (find (radios_of on) r)

-- a record checked: the number of the first check that fails, 0 for none, and the request where none fails
pub record Checked : Type 0 where
  pub number : ℕ
  pub request : Option Request

-- "An accepted record carries number 0"
abbrev pub asks : Request → Checked
asks q = record { number = 0; request = Some q }

abbrev pub fails : ℕ → Checked
fails n = record { number = n; request = None }

-- the values of each case: "radio, east, north", "radio", "west, east, south, north", and the minute
abbrev pub asked_in : Asked → Request
asked_in (SignOn r f) = sign_on r (fix_of f)
asked_in (Report r f) = report r (fix_of f)
asked_in (SignOff r m) = sign_off r m
asked_in (Range a m) = range (rect_of a) m

-- what is asked, or the number of the check that fails
abbrev pub asked_of : Result Asked Refusal → Checked
asked_of (Ok a) = asks (asked_in a)
asked_of (Err e) = fails (number_of e)

-- under number 0 the request is carried out, under any other the record is turned down
unfoldable pub checked : ℕ → Request → Checked
checked n q = cond (eqb n 0) (asks q) (fails n)

-- what the checks showed of an accepted sign-on, report, sign-off
pub record SignsOn (s : Store) (r : ℕ) (f : Fix) : Type 0 where
  pub first : 1 ≤ r
  pub last : r ≤ max_radio
  pub placed : InSquare f.place
  pub off : is_on s r ≡ false
  pub room : on_count s < max_on
  pub late : s.highest ≤ f.minute

pub record Reports (s : Store) (r : ℕ) (f : Fix) : Type 0 where
  pub first : 1 ≤ r
  pub last : r ≤ max_radio
  pub placed : InSquare f.place
  pub on : is_on s r ≡ true
  pub late : s.highest ≤ f.minute

pub record SignsOff (s : Store) (r minute : ℕ) : Type 0 where
  pub first : 1 ≤ r
  pub last : r ≤ max_radio
  pub on : is_on s r ≡ true
  pub late : s.highest ≤ minute
