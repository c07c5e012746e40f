-- Words and numbers of 01 that the rules and the page format share (01, "What the desk holds", "Records and pages").
use Rattle.std.specs.Prelude.{ℕ}

-- "A radio number is 1 to 4,095."
abbrev pub max_radio : ℕ
max_radio = 4095

-- "at most 512 radios signed on"
abbrev pub max_on : ℕ
max_on = 512

-- "One store has 128 pages"
abbrev pub pages : ℕ
pages = 128

-- "up to 32 entries"
abbrev pub page_entries : ℕ
page_entries = 32

-- "next page (65,535 for none)"
abbrev pub no_page : ℕ
no_page = 65535

-- "cell (65,535 if free)"
abbrev pub no_cell : ℕ
no_cell = 65535

-- "All fields are little-endian, 16 bits."
abbrev pub field_bytes : ℕ
field_bytes = 2

-- "a 32-bit minute"
abbrev pub minute_bytes : ℕ
minute_bytes = 4

-- "A place is east and north, each 0 to 65,535 metres."
pub record Place : Type 0 where
  pub east : ℕ
  pub north : ℕ

-- what an entry has of its radio, and what its latest report told: "each waiting report and page entry carries the minute of its report"
pub record Fix : Type 0 where
  pub place : Place
  pub minute : ℕ

abbrev pub fix_at : ℕ → ℕ → ℕ → Fix
fix_at east north minute = record { place = record { east = east; north = north }; minute = minute }
