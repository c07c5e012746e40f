-- Records, and what they are turned down for (01, "Records and pages", "Turned down, in checking order"; 02, Jobs 2 to 4).
use Rattle.std.specs.Prelude.{Bool, false, not, cond, List, ℕ, ◌-◌, eqb, leb, ltb, length, Option, None, Some}
use Rattle.terms.specs.Terms.{Place, Fix, field_bytes, minute_bytes, max_radio, max_on}
use Rattle.lists.specs.Tests.{is_some, both, either}
use Rattle.lists.specs.Words.{word}
use Rattle.rules.specs.Grid.{Rect, is_reversed}

-- "A record is its length in bytes, its kind, its body."
abbrev field : List ℕ → ℕ → ℕ
field b at = word field_bytes b at

unfoldable pub length_field : List ℕ → ℕ
length_field b = field b 0

unfoldable pub kind_field : List ℕ → ℕ
kind_field b = field b 2

-- "Kind 1 sign-on", "Kind 2 report", "Kind 3 sign-off", "Kind 4 range"
abbrev pub kind_sign_on : ℕ
kind_sign_on = 1

abbrev pub kind_report : ℕ
kind_report = 2

abbrev pub kind_sign_off : ℕ
kind_sign_off = 3

abbrev pub kind_range : ℕ
kind_range = 4

-- "the four kinds as four cases with the length stated in each", "and none for any other kind"
unfoldable pub length_of : ℕ → Option ℕ
length_of kind =
    cond (eqb kind kind_sign_on) (Some 14)
    (cond (eqb kind kind_report) (Some 14)
    (cond (eqb kind kind_sign_off) (Some 10)
    (cond (eqb kind kind_range) (Some 16)
    None)))

-- n is the length, where there is one
abbrev pub is_length : Option ℕ → ℕ → Bool
is_length None n = false
is_length (Some m) n = eqb n m

-- "radio, east, north"
unfoldable pub radio_field : List ℕ → ℕ
radio_field b = field b 4

unfoldable pub place_field : List ℕ → Place
place_field b = record { east = field b 6; north = field b 8 }

-- "Every record ends with a 32-bit minute"
unfoldable pub minute_field : List ℕ → ℕ
minute_field b = word minute_bytes b (length_field b - minute_bytes)

unfoldable pub fix_field : List ℕ → Fix
fix_field b = record { place = place_field b; minute = minute_field b }

-- "west, east, south, north"
unfoldable pub rect_field : List ℕ → Rect
rect_field b = record { easts = record { low = field b 4; high = field b 6 }; norths = record { low = field b 8; high = field b 10 } }

-- what is asked, and at which minute
pub data Request : Type 0 where
  sign_on : ℕ → Fix → Request
  report : ℕ → Fix → Request
  sign_off : ℕ → ℕ → Request
  range : Rect → ℕ → Request

unfoldable pub request_of : List ℕ → Request
request_of b =
    cond (eqb (kind_field b) kind_sign_on) (sign_on (radio_field b) (fix_field b))
    (cond (eqb (kind_field b) kind_report) (report (radio_field b) (fix_field b))
    (cond (eqb (kind_field b) kind_sign_off) (sign_off (radio_field b) (minute_field b)) (range (rect_field b) (minute_field b))))

-- ---- the checks on a record's bytes and on who is on

-- 3: "Fewer than 4 bytes are at hand, or the length is below 4 or above what is at hand."
unfoldable pub not_at_hand : List ℕ → Bool
not_at_hand b = either (ltb (length b) 4) (either (ltb (length_field b) 4) (ltb (length b) (length_field b)))

-- 4: "The kind isn't 1 to 4."
unfoldable pub unknown_kind : List ℕ → Bool
unknown_kind b = not (is_some (length_of (kind_field b)))

-- 5: "The length isn't the one for its kind."
unfoldable pub wrong_length : List ℕ → Bool
wrong_length b = not (is_length (length_of (kind_field b)) (length_field b))

-- 6: "A radio is 0 or above 4,095."
unfoldable pub no_radio : List ℕ → Bool
no_radio b = both (ltb (kind_field b) kind_range) (either (eqb (radio_field b) 0) (ltb max_radio (radio_field b)))

-- 12: "place is (0,0) in kind 1 or 2"
unfoldable pub no_fix : List ℕ → Bool
no_fix b = both (ltb (kind_field b) kind_sign_off) (both (eqb (place_field b).east 0) (eqb (place_field b).north 0))

-- 13: "a minute below the store's highest, for all four kinds"
unfoldable pub too_early : ℕ → List ℕ → Bool
too_early highest b = ltb (minute_field b) highest

-- 7: "A range has west above east or south above north."
unfoldable pub reversed : List ℕ → Bool
reversed b = both (eqb (kind_field b) kind_range) (is_reversed (rect_field b))

-- 8: "A sign-on names a radio that is on."
unfoldable pub on_already : (ℕ → Bool) → List ℕ → Bool
on_already is_on b = both (eqb (kind_field b) kind_sign_on) (is_on (radio_field b))

-- 9: "A report or sign-off names a radio that isn't on."
unfoldable pub not_on : (ℕ → Bool) → List ℕ → Bool
not_on is_on b = both (either (eqb (kind_field b) kind_report) (eqb (kind_field b) kind_sign_off)) (not (is_on (radio_field b)))

-- 10: "A sign-on comes while 512 are on."
unfoldable pub no_room : ℕ → List ℕ → Bool
no_room how_many b = both (eqb (kind_field b) kind_sign_on) (leb max_on how_many)

-- the number of the first check that fails, 0 if none does: it serves the desk and the plain rule, each with its highest minute and who is on there
unfoldable pub refusal : ℕ → (ℕ → Bool) → ℕ → List ℕ → ℕ
refusal highest is_on how_many b =
    cond (not_at_hand b) 3
    (cond (unknown_kind b) 4
    (cond (wrong_length b) 5
    (cond (no_radio b) 6
    (cond (no_fix b) 12
    (cond (too_early highest b) 13
    (cond (reversed b) 7
    (cond (on_already is_on b) 8
    (cond (not_on is_on b) 9
    (cond (no_room how_many b) 10 0)))))))))
