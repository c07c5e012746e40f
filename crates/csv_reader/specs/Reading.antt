-- A file's header, fields and lines as the code reads them (02, Job 6). In code a place in the file stands for the bytes from there on, which the grammar in `csv`
-- goes by.
use Rattle.std.specs.Prelude.{cond, List, ◌≡◌, ℕ, ◌≤◌, ◌<◌, min, leb, length, drop, Option, None, Some}
use Rattle.terms.specs.Terms.{fix_at, max_radio}
use Rattle.lists.specs.Tests.{both}
use Rattle.csv_grammar.specs.Csv.{Number, Parsed, and_then, quote, comma, max_metre, max_minute, after_byte, after_bytes, after_line, after_name, digits_after, number}
use Rattle.csv_reader.specs.declared.Value.{Value}
use Rattle.csv_reader.specs.declared.Field.{Field}
use Rattle.csv_reader.specs.declared.Field.TheVariants.{Inner, Last}
use Rattle.csv_reader.specs.declared.Line.{Line}

-- ---- where something ends

-- the bytes after what was looked for
abbrev pub bytes_after : List ℕ → Option ℕ → Option (List ℕ)
bytes_after file (Some next) = Some (drop next file)
bytes_after file None = None

abbrev pub EndWithin : ℕ → ℕ → Option ℕ → Type 0
EndWithin at size (Some next) = (at ≤ next) × (next ≤ size)
EndWithin at size None = Unit {0}

-- what was looked for at `at` leaves these bytes: r is where they begin
pub record Ends (file : List ℕ) (at : ℕ) (left : Option (List ℕ)) (r : Option ℕ) : Type 0 where
  pub leaves : bytes_after file r ≡ left
  pub within : EndWithin at (length file) r

-- what comes after a name in quotes
unfoldable pub after_quoted : List ℕ → List ℕ → Option (List ℕ)
after_quoted name l = and_then (after_byte quote l) (λ inner. and_then (after_bytes name inner) (after_byte quote))

-- what comes after a name and the comma behind it
unfoldable pub after_column : List ℕ → List ℕ → Option (List ℕ)
after_column name l = and_then (after_name name l) (after_byte comma)

-- ---- numbers

-- the least number above every field's range
abbrev pub above : ℕ
above = 4294967296

-- a number above every range is held as that one
abbrev pub held : ℕ → ℕ
held v = min v above

abbrev pub held_number : Number → Number
held_number n = record { value = held n.value; rest = n.rest }

unfoldable pub held_option : Option Number → Option Number
held_option None = None
held_option (Some n) = Some (held_number n)

-- a number read, and the bytes after it
abbrev pub number_of : List ℕ → Value → Number
number_of file x = record { value = x.number; rest = drop x.next file }

-- the digits from `from` on
pub record DigitsRead (file : List ℕ) (from : ℕ) (x : Value) : Type 0 where
  pub reads : number_of file x ≡ held_number (digits_after 0 (drop from file))
  pub within : x.next ≤ length file

abbrev pub value_of : List ℕ → Option Value → Option Number
value_of file (Some x) = Some (number_of file x)
value_of file None = None

-- the place behind lies ahead of `at`, in the file
abbrev pub Ahead : (at size next : ℕ) → Type 0
Ahead at size next = (at < next) × (next ≤ size)

abbrev pub ValueWithin : ℕ → ℕ → Option Value → Type 0
ValueWithin at size (Some x) = Ahead at size x.next
ValueWithin at size None = Unit {0}

-- the number read at `at`, and where the bytes after it begin
pub record Valued (file : List ℕ) (at : ℕ) (n : Option Number) (r : Option Value) : Type 0 where
  pub reads : value_of file r ≡ n
  pub within : ValueWithin at (length file) r

-- ---- fields

-- a field of a line: its number and the bytes after it, with a comma or the line's end behind the number
pub data Handed : Type 0 where
  inner : ℕ → List ℕ → Handed
  last : ℕ → List ℕ → Handed
  wrong : Handed

abbrev pub ended : ℕ → Option (List ℕ) → Option (List ℕ) → Handed
ended v (Some rest) line = inner v rest
ended v None (Some rest) = last v rest
ended v None None = wrong

abbrev pub after_number : Option Number → Handed
after_number None = wrong
after_number (Some n) = ended n.value (after_byte comma n.rest) (after_line n.rest)

-- "one field at a time": the one at the front
unfoldable pub field_in : List ℕ → Handed
field_in l = after_number (held_option (number l))

abbrev pub field_of : List ℕ → Option Field → Handed
field_of file (Some (Inner x)) = inner x.number (drop x.next file)
field_of file (Some (Last x)) = last x.number (drop x.next file)
field_of file None = wrong

abbrev pub FieldWithin : ℕ → ℕ → Option Field → Type 0
FieldWithin at size (Some (Inner x)) = Ahead at size x.next
FieldWithin at size (Some (Last x)) = Ahead at size x.next
FieldWithin at size None = Unit {0}

-- f is the field at `at`
pub record HandsOut (file : List ℕ) (at : ℕ) (f : Option Field) : Type 0 where
  pub hands : field_of file f ≡ field_in (drop at file)
  pub within : FieldWithin at (length file) f

-- the place behind a field that was found at `at`; where none was, `at`
abbrev pub place_behind : Option Field → ℕ → ℕ
place_behind (Some (Inner x)) at = x.next
place_behind (Some (Last x)) at = x.next
place_behind None at = at

-- ---- lines

abbrev pub value_in : (least most : ℕ) → Value → Option Value
value_in least most x = cond (both (leb least x.number) (leb x.number most)) (Some x) None

-- a field in range that has a comma behind it
unfoldable pub inner_value : (least most : ℕ) → Option Field → Option Value
inner_value least most (Some (Inner x)) = value_in least most x
inner_value least most (Some (Last x)) = None
inner_value least most None = None

-- a field in range that has the line's end behind it
unfoldable pub last_value : ℕ → Option Field → Option Value
last_value most (Some (Inner x)) = None
last_value most (Some (Last x)) = value_in 0 most x
last_value most None = None

-- the line that four fields make
unfoldable pub line_from : (first second third fourth : Option Field) → Option Line
line_from first second third fourth =
    and_then (inner_value 1 max_radio first) (λ radio.
    and_then (inner_value 0 max_metre second) (λ east.
    and_then (inner_value 0 max_metre third) (λ north.
    and_then (last_value max_minute fourth) (λ minute.
    Some (record { radio = radio.number; east = east.number; north = north.number; minute = minute.number; next = minute.next })))))

-- what a line tells, and the bytes after it
abbrev pub parsed_of : List ℕ → Line → Parsed
parsed_of file x = record { row = record { key = x.radio; val = fix_at x.east x.north x.minute }; rest = drop x.next file }

abbrev pub parsed : List ℕ → Option Line → Option Parsed
parsed file (Some x) = Some (parsed_of file x)
parsed file None = None

abbrev pub LineWithin : ℕ → ℕ → Option Line → Type 0
LineWithin at size (Some x) = Ahead at size x.next
LineWithin at size None = Unit {0}

-- r is what the line at `at` tells, and where the next one begins
pub record Tells (file : List ℕ) (at : ℕ) (told : Option Parsed) (r : Option Line) : Type 0 where
  pub tells : parsed file r ≡ told
  pub within : LineWithin at (length file) r
