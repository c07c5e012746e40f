-- Files read and written (02, Job 6), over desk and page bytes and every list of calls.
use Rattle.std.specs.Prelude.{false, List, [], ◌∷◌, ◌≡◌, ℕ, ◌≤◌, eqb, length, take, Option, Some}
use Rattle.terms.specs.Terms.{Fix}
use Rattle.lists.specs.Tests.{both}
use Rattle.csv_grammar.specs.Csv.{Listed, lines, file_read, max_minute}
use Rattle.csv_grammar.specs.Order.{in_order}
use Rattle.page.specs.Buffer.{buffer_bytes}
use Rattle.rules.specs.Calls.{hands, writes}
use Rattle.rules.specs.Carry.{latest}
use Rattle.rules.specs.Plain.{Plain}
use Rattle.desk.specs.declared.Desk.{Desk}
use Rattle.desk.specs.Call.{After, handed, Answers}
use Rattle.desk.specs.Making.{Found, Made, numbered}
use Rattle.desk.specs.Sound.{Sound}
use Rattle.spreadsheet.specs.Read.{sign_on_of, plain_read}
use Rattle.spreadsheet.specs.Call.{Reads}
use Rattle.demands.specs.Same.{Fed, calls_of}
use Rattle.demands.specs.Trace.{Trace}

-- ---- "a store that one of them makes begins a list, the plain rule starting as that request says"

-- the sign-ons of these lines, each after those before it: the last first, as `calls_of` has them
abbrev pub fed_lines : List Listed → List Fed → List Fed
fed_lines [] before = before
fed_lines (l ∷ ls) before = fed_lines ls (record { call = hands (sign_on_of l.row); buffer = [] } ∷ before)

-- the list of calls that a file which is read stands for: from a fresh store the sign-ons of its lines, as they are taken. So all that is shown of lists of
-- calls is shown of this one, and of each that goes on from it
pub record ReadList (file : List ℕ) (desk : Desk) (pages : List ℕ) : Type 0 where
  pub taken : List Listed
  pub read : file_read file ≡ lines taken
  -- "the plain rule starts fresh with it, fed each of those sign-ons with the cuts that sign-on found"
  pub list : Trace desk pages (plain_read file)
  pub sign_on_calls : calls_of list ≡ fed_lines (in_order taken) []

abbrev pub ReadBegins : Type 0
ReadBegins = (file : List ℕ) (x : Found) (y : Made) → Reads file x y → y.answer.number ≡ 0 → ReadList file y.desk y.pages

-- ---- "A file written by us from a store with no radio at (0,0) and read back gives the same latest places and minutes."

-- what the latest report of each radio told, if it is on
abbrev pub Latest : Type 0
Latest = ℕ → Option Fix

abbrev pub NoneAtOrigin : Latest → Type 0
NoneAtOrigin latest_of = (r : ℕ) (f : Fix) → latest_of r ≡ Some f → both (eqb f.place.east 0) (eqb f.place.north 0) ≡ false

-- the file is accepted, and the plain rule beside the store that is made has the same
pub record CameBack (latest_of : Latest) (file : List ℕ) (z : Made) : Type 0 where
  pub accepted : z.answer ≡ numbered 0
  pub same : (r : ℕ) → (plain_read file).latest r ≡ latest_of r

-- the bytes that an accepted writing counts are the file; they are read into a desk and pages in whatever condition
abbrev pub ComesBack : Desk → List ℕ → Latest → Type 0
ComesBack d b latest_of = (buffer : List ℕ) (y : After) → Answers (handed d b writes buffer) y → y.number ≡ 0
    → (u : Found) (z : Made) → length u.pages ≡ buffer_bytes → Reads (take y.count y.buffer) u z → CameBack latest_of (take y.count y.buffer) z

-- from any sound store, whatever made it. Its highest minute is held in 32 bits
abbrev pub RoundTrip : Type 0
RoundTrip = (d : Desk) (b : List ℕ) (s : Sound d b) → d.parts.highest ≤ max_minute → NoneAtOrigin (latest s.watched.store)
    → ComesBack d b (latest s.watched.store)

-- after any list of calls, by the plain rule
abbrev pub RoundTripOfCalls : Type 0
RoundTripOfCalls = (d : Desk) (b : List ℕ) (x : Plain) → Trace d b x → NoneAtOrigin x.latest → ComesBack d b x.latest
