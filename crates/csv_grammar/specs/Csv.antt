-- A file of comma-separated lines (02, Job 6; RFC 4180): how it is written, and how it is read.
use Rattle.std.specs.Prelude.{Bool, cond, List, [], ◌∷◌, ◌++◌, ℕ, zero, suc, ◌+◌, ◌-◌, ◌*◌, ◌/◌, ◌%◌, ◌≤◌, eqb, leb, ltb, length, Option, None, Some}
use Rattle.terms.specs.Terms.{Fix, fix_at, max_radio}
use Rattle.lists.specs.Rows.{Row, Rows}
use Rattle.lists.specs.Tests.{both, or_else}

-- ---- bytes

abbrev pub line_feed : ℕ
line_feed = 10

abbrev pub carriage_return : ℕ
carriage_return = 13

abbrev pub quote : ℕ
quote = 34

abbrev pub comma : ℕ
comma = 44

abbrev pub digit_zero : ℕ
digit_zero = 48

-- "radio", "east", "north", "minute"
abbrev pub radio_name : List ℕ
radio_name = 114 ∷ 97 ∷ 100 ∷ 105 ∷ 111 ∷ []

abbrev pub east_name : List ℕ
east_name = 101 ∷ 97 ∷ 115 ∷ 116 ∷ []

abbrev pub north_name : List ℕ
north_name = 110 ∷ 111 ∷ 114 ∷ 116 ∷ 104 ∷ []

abbrev pub minute_name : List ℕ
minute_name = 109 ∷ 105 ∷ 110 ∷ 117 ∷ 116 ∷ 101 ∷ []

-- ---- ranges of the fields

-- "each 0 to 65,535 metres"
abbrev pub max_metre : ℕ
max_metre = 65535

-- "a 32-bit minute"
abbrev pub max_minute : ℕ
max_minute = 4294967295

-- ---- written

-- "no leading zeros": the digits of n, of which there are at most `digits`
unfoldable pub digits_in : ℕ → ℕ → List ℕ
digits_in zero n = []
digits_in (suc digits) n = cond (ltb n 10) ((digit_zero + n) ∷ []) (digits_in digits (n / 10) ++ ((digit_zero + n % 10) ∷ []))

-- the greatest minute has ten
unfoldable pub decimal : ℕ → List ℕ
decimal n = digits_in 10 n

-- four fields, a comma after each but the last, "CRLF after every line"
unfoldable pub line_with : List ℕ → List ℕ → List ℕ → List ℕ → List ℕ
line_with radio east north minute = radio ++ (comma ∷ (east ++ (comma ∷ (north ++ (comma ∷ (minute ++ (carriage_return ∷ line_feed ∷ [])))))))

-- "the header radio,east,north,minute"
unfoldable pub header_line : List ℕ
header_line = line_with radio_name east_name north_name minute_name

unfoldable pub line_of : Row Fix → List ℕ
line_of x = line_with (decimal x.key) (decimal x.val.place.east) (decimal x.val.place.north) (decimal x.val.minute)

unfoldable pub lines_of : Rows Fix → List ℕ
lines_of [] = []
lines_of (x ∷ xs) = line_of x ++ lines_of xs

unfoldable pub file_of : Rows Fix → List ℕ
file_of rows = header_line ++ lines_of rows

-- ---- read: each part of a line is read off the bytes at hand, and leaves those after it

-- the first, then the next on what it left; none if either fails
unfoldable pub and_then : {A B : Type 0} → Option A → (A → Option B) → Option B
and_then None next = None
and_then (Some a) next = next a

-- what comes after this byte
unfoldable pub after_byte : ℕ → List ℕ → Option (List ℕ)
after_byte b [] = None
after_byte b (x ∷ l) = cond (eqb b x) (Some l) None

-- what comes after these bytes
unfoldable pub after_bytes : List ℕ → List ℕ → Option (List ℕ)
after_bytes [] l = Some l
after_bytes (b ∷ bs) l = and_then (after_byte b l) (after_bytes bs)

-- a number, and what comes after it
pub record Number : Type 0 where
  pub value : ℕ
  pub rest : List ℕ

abbrev pub is_digit : ℕ → Bool
is_digit b = both (leb digit_zero b) (leb b (digit_zero + 9))

-- the digits at the front, after those that made v: any number of them, leading zeros too
unfoldable pub digits_after : ℕ → List ℕ → Number
digits_after v [] = record { value = v; rest = [] }
digits_after v (b ∷ l) = cond (is_digit b) (digits_after (v * 10 + (b - digit_zero)) l) (record { value = v; rest = b ∷ l })

-- "plain digits", at least one
unfoldable pub plain_number : List ℕ → Option Number
plain_number [] = None
plain_number (b ∷ l) = cond (is_digit b) (Some (digits_after 0 (b ∷ l))) None

-- the same in quotes
unfoldable pub quoted_number : List ℕ → Option Number
quoted_number l =
    and_then (after_byte quote l) (λ inner.
    and_then (plain_number inner) (λ n.
    and_then (after_byte quote n.rest) (λ rest.
    Some (record { value = n.value; rest = rest }))))

-- "also with quotes in any line"
unfoldable pub number : List ℕ → Option Number
number l = or_else (plain_number l) (quoted_number l)

-- what comes after a name of the header, in quotes or not
unfoldable pub after_name : List ℕ → List ℕ → Option (List ℕ)
after_name name l = or_else (after_bytes name l) (and_then (after_byte quote l) (λ inner. and_then (after_bytes name inner) (after_byte quote)))

-- what comes after the end of a line: CRLF, "or no last CRLF" at the file's end
unfoldable pub after_line : List ℕ → Option (List ℕ)
after_line [] = Some []
after_line (b ∷ l) = after_bytes (carriage_return ∷ line_feed ∷ []) (b ∷ l)

-- a field "in range", and what comes after the comma or the line's end behind it
unfoldable pub field : (least most : ℕ) → (List ℕ → Option (List ℕ)) → List ℕ → Option Number
field least most behind l =
    and_then (number l) (λ n.
    cond (both (leb least n.value) (leb n.value most))
    (and_then (behind n.rest) (λ rest. Some (record { value = n.value; rest = rest })))
    None)

-- a line's radio and what it tells, and what comes after the line
pub record Parsed : Type 0 where
  pub row : Row Fix
  pub rest : List ℕ

-- "four fields of plain digits in range (radio 1 to 4,095)"
unfoldable pub line : List ℕ → Option Parsed
line l =
    and_then (field 1 max_radio (after_byte comma) l) (λ radio.
    and_then (field 0 max_metre (after_byte comma) radio.rest) (λ east.
    and_then (field 0 max_metre (after_byte comma) east.rest) (λ north.
    and_then (field 0 max_minute after_line north.rest) (λ minute.
    Some (record { row = record { key = radio.value; val = fix_at east.value north.value minute.value }; rest = minute.rest })))))

-- what comes after the header
unfoldable pub after_header : List ℕ → Option (List ℕ)
after_header l =
    and_then (after_name radio_name l) (λ l₁.
    and_then (after_byte comma l₁) (λ l₂.
    and_then (after_name east_name l₂) (λ l₃.
    and_then (after_byte comma l₃) (λ l₄.
    and_then (after_name north_name l₄) (λ l₅.
    and_then (after_byte comma l₅) (λ l₆.
    and_then (after_name minute_name l₆) after_line))))))

-- ---- the whole file

-- a line with its number in the file
pub record Listed : Type 0 where
  pub line : ℕ
  pub row : Row Fix

-- the lines, or the number of the first bad one
pub data File : Type 0 where
  lines : List Listed → File
  bad : ℕ → File

abbrev pub also_line : Listed → File → File
also_line x (lines xs) = lines (x ∷ xs)
also_line x (bad n) = bad n

-- the line under number n, then those after it
abbrev pub line_then : ℕ → Option Parsed → (List ℕ → File) → File
line_then n None next = bad n
line_then n (Some p) next = also_line (record { line = n; row = p.row }) (next p.rest)

-- the lines from number n on. Each takes a byte at least, so as many turns as there are bytes are enough
unfoldable pub lines_from : (turns n : ℕ) → List ℕ → File
lines_from zero n l = lines []
lines_from (suc turns) n [] = lines []
lines_from (suc turns) n (b ∷ l) = line_then n (line (b ∷ l)) (lines_from turns (suc n))

abbrev pub header_then : Option (List ℕ) → (List ℕ → File) → File
header_then None next = bad 1
header_then (Some l) next = next l

-- 15: "a line that isn't four fields of plain digits in range (radio 1 to 4,095), or a wrong header, given with the first such line's number, the header
-- being 1"
unfoldable pub file_read : List ℕ → File
file_read file = header_then (after_header file) (λ l. lines_from (length l) 2 l)

-- ---- what a file can tell of a radio

-- "in range (radio 1 to 4,095)"
pub record Fits (x : Row Fix) : Type 0 where
  pub radio_least : 1 ≤ x.key
  pub radio : x.key ≤ max_radio
  pub east : x.val.place.east ≤ max_metre
  pub north : x.val.place.north ≤ max_metre
  pub minute : x.val.minute ≤ max_minute

-- the rows as lines from number n on
unfoldable pub numbered : ℕ → Rows Fix → List Listed
numbered n [] = []
numbered n (x ∷ xs) = record { line = n; row = x } ∷ numbered (suc n) xs
