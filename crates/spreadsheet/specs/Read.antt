-- Spreadsheet in (02, Job 6): "Read such a file .. as a run of sign-ons".
use Rattle.std.specs.Prelude.{cond, List, [], ◌∷◌, ◌++◌, ℕ, eqb, Option, None, Some}
use Rattle.terms.specs.Terms.{Fix, field_bytes, minute_bytes}
use Rattle.lists.specs.Rows.{Row}
use Rattle.lists.specs.Words.{le}
use Rattle.csv_grammar.specs.Csv.{Listed, File, lines, bad, file_read}
use Rattle.csv_grammar.specs.Order.{in_order}
use Rattle.csv_order.specs.Checks.{Stop}
use Rattle.rules.specs.Records.{kind_sign_on}
use Rattle.rules.specs.Plain.{Plain, plain_fresh, plain_step}
use Rattle.rules.specs.Watches.{Watched, fresh_watched}
use Rattle.rules.specs.Calls.{Result, carry_record}

-- the record of a line: "Kind 1 sign-on: radio, east, north", which "ends with a 32-bit minute", its length 14
unfoldable pub sign_on_of : Row Fix → List ℕ
sign_on_of x =
    le field_bytes 14 ++ (le field_bytes kind_sign_on
    ++ (le field_bytes x.key ++ (le field_bytes x.val.place.east ++ (le field_bytes x.val.place.north ++ le minute_bytes x.val.minute))))

-- what a file comes to: a store, or the number of the check that turns it down and the line
pub data Read : Type 0 where
  made : Watched → Read
  stopped : (number line : ℕ) → Read

-- "the first line, so taken, that a sign-on check stops gives that check's number and its line"
abbrev pub signed_then : ℕ → Result → (Watched → Read) → Read
signed_then line o next = cond (eqb o.number 0) (next o.watched) (stopped o.number line)

unfoldable pub sign_ons : List Listed → Watched → Read
sign_ons [] x = made x
sign_ons (l ∷ ls) x = signed_then l.line (carry_record (sign_on_of l.row) x []) (sign_ons ls)

-- the store after these sign-ons, whatever each is answered
unfoldable pub signed_all : List Listed → Watched → Watched
signed_all [] x = x
signed_all (l ∷ ls) x = signed_all ls (carry_record (sign_on_of l.row) x []).watched

-- the line that is stopped, or else the store
abbrev pub verdict : Option Stop → Watched → Read
verdict None x = made x
verdict (Some s) x = stopped s.number s.line

-- 15, "checked over the whole file .. before 12"; "the read starts from a fresh store of its own making"
abbrev pub read_lines : File → Read
read_lines (lines ls) = sign_ons (in_order ls) fresh_watched
read_lines (bad n) = stopped 15 n

unfoldable pub read_file : List ℕ → Read
read_file file = read_lines (file_read file)

-- "the plain rule starts fresh with it, fed each of those sign-ons with the cuts that sign-on found"
unfoldable pub plain_sign_ons : List Listed → Watched → Plain → Plain
plain_sign_ons [] x p = p
plain_sign_ons (l ∷ ls) x p = plain_sign_ons ls (carry_record (sign_on_of l.row) x []).watched (plain_step x.store.cuts (sign_on_of l.row) p)

abbrev pub plain_lines : File → Plain
plain_lines (lines ls) = plain_sign_ons (in_order ls) fresh_watched plain_fresh
plain_lines (bad n) = plain_fresh

unfoldable pub plain_read : List ℕ → Plain
plain_read file = plain_lines (file_read file)
