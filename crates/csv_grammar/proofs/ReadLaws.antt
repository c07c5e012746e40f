-- Laws of reading a file: what is written is read back, and so is the same with quotes, leading zeros or no last CRLF.
use mathlib.Core.Path.{◌≡◌, refl, ap, ◌∙◌}
use mathlib.Core.Bool.{false}
use mathlib.Core.List.{List, [], ◌∷◌, ◌++◌, append_assoc, append-nil}
use Rattle.std.specs.Prelude.{Option, Some}
use Prim.Native.Nat.{ℕ, zero, suc, ◌≤◌}
use native.Mathlib.Omega.{arith}
use lib.ListN.{length, replicate, length-append}
use borrow.Author.Tests.{le-leb}
use Rattle.terms.specs.Terms.{Fix, max_radio}
use Rattle.lists.specs.Rows.{Row, Rows}
use Rattle.lists.specs.Tests.{Each, both}
use Rattle.lists.proofs.Cases.{none-some}
use Rattle.lists.proofs.TestsLaws.{both_intro}
use Rattle.csv_grammar.specs.Csv.{line_feed, carriage_return, quote, comma, digit_zero, radio_name, east_name, north_name, minute_name, max_metre, max_minute, decimal, line_with, header_line, line_of, lines_of, file_of, and_then, after_byte, after_bytes, is_digit, digits_after, plain_number, quoted_number, number, after_name, after_line, field, Parsed, line, after_header, lines, also_line, lines_from, file_read, Fits, numbered}
use Rattle.csv_grammar.proofs.DecimalLaws.{digits_after-decimal, plain_number-decimal, length-decimal_pos}

-- ---- a field as written is read back

digits_after_end : (v b : ℕ) (l : List ℕ) → is_digit b ≡ false → digits_after v (b ∷ l) ≡ record { value = v; rest = b ∷ l }
unfolding digits_after
digits_after_end v b l e = rw e

number-decimal : (n b : ℕ) (l : List ℕ) → n ≤ max_minute → is_digit b ≡ false → number (decimal n ++ (b ∷ l)) ≡ Some (record { value = n; rest = b ∷ l })
unfolding number
number-decimal n b l h e = rw (plain_number-decimal n (b ∷ l) h, digits_after_end n b l e)

field-decimal : (least most n b : ℕ) (behind : List ℕ → Option (List ℕ)) (l rest : List ℕ) → least ≤ n → n ≤ most → n ≤ max_minute → is_digit b ≡ false →
    behind (b ∷ l) ≡ Some rest → field least most behind (decimal n ++ (b ∷ l)) ≡ Some (record { value = n; rest = rest })
unfolding field and_then
field-decimal least most n b behind l rest low high h e f = rw (number-decimal n b l h e, both_intro (le-leb least n low) (le-leb n most high), f)

comma_ends : is_digit comma ≡ false
unfolding both
comma_ends = refl

line_ends : is_digit carriage_return ≡ false
unfolding both
line_ends = refl

after_byte-comma : (l : List ℕ) → after_byte comma (comma ∷ l) ≡ Some l
unfolding after_byte
after_byte-comma l = refl

after_line_crlf : (l : List ℕ) → after_line (carriage_return ∷ line_feed ∷ l) ≡ Some l
unfolding after_line after_bytes and_then after_byte
after_line_crlf l = refl

-- ---- a line as written is read back

line_with-append : (radio east north minute l : List ℕ) →
    line_with radio east north minute ++ l ≡ radio ++ (comma ∷ (east ++ (comma ∷ (north ++ (comma ∷ (minute ++ (carriage_return ∷ line_feed ∷ l)))))))
unfolding line_with
line_with-append radio east north minute l = simp append_assoc

pub line-line_of : (x : Row Fix) (l : List ℕ) → Fits x → line (line_of x ++ l) ≡ Some (record { row = x; rest = l })
unfolding line line_of and_then
line-line_of x l h =
    let radio = decimal x.key in
    let east = decimal x.val.place.east in
    let north = decimal x.val.place.north in
    let minute = decimal x.val.minute in
    let from_minute = minute ++ (carriage_return ∷ line_feed ∷ l) in
    let from_north = north ++ (comma ∷ from_minute) in
    let from_east = east ++ (comma ∷ from_north) in
    rw (
      line_with-append radio east north minute l,
      field-decimal 1 max_radio x.key comma (after_byte comma) from_east from_east h.radio_least h.radio (omega (arith, h.radio)) comma_ends (after_byte-comma from_east),
      field-decimal 0 max_metre x.val.place.east comma (after_byte comma) from_north from_north (omega arith) h.east (omega (arith, h.east)) comma_ends (after_byte-comma from_north),
      field-decimal 0 max_metre x.val.place.north comma (after_byte comma) from_minute from_minute (omega arith) h.north (omega (arith, h.north)) comma_ends (after_byte-comma from_minute),
      field-decimal 0 max_minute x.val.minute carriage_return after_line (line_feed ∷ l) l (omega arith) h.minute h.minute line_ends (after_line_crlf l),
    )

pub length-line_of_pos : (x : Row Fix) → 1 ≤ length (line_of x)
unfolding line_of line_with
length-line_of_pos x = simp length-append (omega (arith, length-decimal_pos x.key))

-- ---- the file as written is read back

after_header-header_line : (l : List ℕ) → after_header (header_line ++ l) ≡ Some l
unfolding after_header header_line line_with after_name after_bytes after_byte after_line and_then
after_header-header_line l = refl

-- a turn
lines_from-line : (turns n : ℕ) (l : List ℕ) (p : Parsed) → line l ≡ Some p →
    lines_from (suc turns) n l ≡ also_line (record { line = n; row = p.row }) (lines_from turns (suc n) p.rest)
unfolding lines_from line field number plain_number quoted_number and_then after_byte
lines_from-line turns n [] p e = none-some e
lines_from-line turns n (b ∷ l) p e = rw e

lines_from-lines_of : (turns n : ℕ) (rows : Rows Fix) → Each Fits rows → length (lines_of rows) ≤ turns → lines_from turns n (lines_of rows) ≡ lines (numbered n rows)
unfolding lines_of numbered
lines_from-lines_of zero n [] fit h = unfold lines_from in refl
lines_from-lines_of (suc turns) n [] fit h = unfold lines_from in refl
lines_from-lines_of zero n (x ∷ xs) fit h = absurd (omega (arith, length-append (line_of x) (lines_of xs), length-line_of_pos x))
lines_from-lines_of (suc turns) n (x ∷ xs) fit h =
    lines_from-line turns n (line_of x ++ lines_of xs) (record { row = x; rest = lines_of xs }) (line-line_of x (lines_of xs) fit.0)
    ∙ ap (also_line (record { line = n; row = x }))
    (lines_from-lines_of turns (suc n) xs fit.1 (omega (arith, length-append (line_of x) (lines_of xs), length-line_of_pos x)))

pub read_written : (rows : Rows Fix) → Each Fits rows → file_read (file_of rows) ≡ lines (numbered 2 rows)
unfolding file_read file_of
read_written rows fit = rw (after_header-header_line (lines_of rows)) (lines_from-lines_of (length (lines_of rows)) 2 rows fit (omega arith))

-- ---- "also with quotes in any line, leading zeros or no last CRLF"

pub number_quoted : (n : ℕ) (l : List ℕ) → n ≤ max_minute → number (quote ∷ (decimal n ++ (quote ∷ l))) ≡ Some (record { value = n; rest = l })
unfolding number plain_number quoted_number and_then after_byte both
number_quoted n l h = rw (plain_number-decimal n (quote ∷ l) h, digits_after_end n quote l refl)

pub digits_after_zeros : (zeros : ℕ) (l : List ℕ) → digits_after 0 (replicate zeros digit_zero ++ l) ≡ digits_after 0 l
unfolding digits_after both
digits_after_zeros zero l = refl
digits_after_zeros (suc zeros) l = digits_after_zeros zeros l

pub plain_number_zeros : (zeros n : ℕ) (l : List ℕ) → n ≤ max_minute → plain_number (replicate zeros digit_zero ++ (decimal n ++ l)) ≡ Some (digits_after n l)
unfolding plain_number digits_after both
plain_number_zeros zero n l h = plain_number-decimal n l h
plain_number_zeros (suc zeros) n l h = ap Some (digits_after_zeros zeros (decimal n ++ l) ∙ digits_after-decimal n l h)

pub field_last : (n : ℕ) → n ≤ max_minute → field 0 max_minute after_line (decimal n) ≡ Some (record { value = n; rest = [] })
unfolding field number digits_after and_then after_line
field_last n h =
    let e : plain_number (decimal n) ≡ Some (digits_after n []) = rw append-nil at (plain_number-decimal n [] h) in
    rw (e, both_intro (le-leb 0 n (omega arith)) (le-leb n max_minute h))

-- the header with quotes in each field
abbrev pub header_quoted : List ℕ
header_quoted = quote ∷ (radio_name ++ (quote ∷ comma ∷ quote ∷ (east_name ++ (quote ∷ comma ∷ quote ∷ (north_name ++ (quote ∷ comma ∷ quote ∷ (minute_name ++ (quote ∷ carriage_return ∷ line_feed ∷ []))))))))

pub after_header_quoted : (l : List ℕ) → after_header (header_quoted ++ l) ≡ Some l
unfolding after_header after_name after_bytes after_byte after_line and_then
after_header_quoted l = refl
