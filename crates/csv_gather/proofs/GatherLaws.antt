-- The lines of a file, one after the other: those that are gathered, followed by what the file still says of the rest, are the whole.
use mathlib.Core.List.{List, [], ◌∷◌}
use Rattle.std.specs.Prelude.{None, Some}
use mathlib.Core.Path.{◌≡◌, refl, sym, ap, ◌∙◌}
use Prim.Native.Nat.{ℕ, suc, ◌+◌, ◌-◌, ◌≤◌, ◌<◌}
use native.Mathlib.Omega.{arith}
use lib.ListN.{length, take, drop, length-drop, length-take, drop_of_length-le}
use lib.Seq.{take_all}
use Rattle.terms.specs.Terms.{max_radio}
use Rattle.csv_grammar.specs.Csv.{Parsed, Listed, File, lines, bad, also_line, line, lines_from, after_header, file_read}
use Rattle.csv_grammar.specs.Order.{sort_in, sort_all}
use Rattle.csv_grammar.proofs.OrderLaws.{take-sort_all}
use Rattle.csv_grammar.proofs.RangeLaws.{line_read, lines_from_turns, after_header_takes}
use Rattle.csv_reader.specs.declared.Line.{Line}
use Rattle.csv_reader.specs.Reading.{Ends, parsed_of, Tells}
use Rattle.csv_order.specs.Table.{table_lines}
use Rattle.csv_gather.specs.Gather.{least, wrong, gather_among, gather, gather_file}

-- what the file says of the lines from `at` on, the first of them under this number
abbrev pub lines_at : List ℕ → ℕ → ℕ → File
lines_at file at n = lines_from (length (drop at file)) n (drop at file)

-- from `from` on the lines before `at` are gathered, and `line` is the number of the one at `at`
pub record Gathering (file : List ℕ) (from : ℕ) (there : List Listed) (at line : ℕ) : Type 0 where
  pub within : at ≤ length file
  pub later : line < at
  pub few : length there ≤ table_lines
  pub whole : gather_among there (lines_at file at line) ≡ gather (lines_at file from 2)

-- ---- a line more among those that are there

also_among : (there : List Listed) (x : Listed) (f : File) → gather_among there (also_line x f) ≡ gather_among (take table_lines (sort_in x there)) f
unfolding sort_all
also_among there x (lines ls) = ap least (sym (take-sort_all table_lines ls (sort_in x there)))
also_among there x (bad n) = refl

-- the line at the front, then the rest
line_first : (l : List ℕ) (n : ℕ) (p : Parsed) → 0 < length l → line l ≡ Some p → lines_from (length l) n l ≡ also_line (record { line = n; row = p.row }) (lines_from (length p.rest) (suc n) p.rest)
unfolding lines_from
line_first [] n p h e = absurd (omega arith)
line_first (b ∷ l) n p h e = rw e (ap (also_line (record { line = n; row = p.row })) (lines_from_turns (length l) (suc n) p.rest (let r = line_read (b ∷ l) p e in omega (arith, r.takes))))

line-none : (l : List ℕ) (n : ℕ) → 0 < length l → line l ≡ None → lines_from (length l) n l ≡ bad n
unfolding lines_from
line-none [] n h e = absurd (omega arith)
line-none (b ∷ l) n h e = rw e

-- ---- start, turn and end

pub Gathering_start : (file : List ℕ) (from : ℕ) → 3 ≤ from → from ≤ length file → Gathering file from [] from 2
unfolding gather
Gathering_start file from h w = record { within = w; later = omega arith; few = omega arith; whole = refl }

module _ {file : List ℕ} {from : ℕ} {there : List Listed} {at m : ℕ} (g : Gathering file from there at m) (more : at < length file) where
  left : 0 < length (drop at file)
  left = omega (arith, length-drop at file)

  -- a line that fits
  module _ {x : Line} (t : Tells file at (line (drop at file)) (Some x)) where
    tells : line (drop at file) ≡ Some (parsed_of file x)
    tells = sym t.tells

    pub radio_least : 1 ≤ x.radio
    radio_least = (line_read (drop at file) (parsed_of file x) tells).fits.radio_least

    pub radio_most : x.radio ≤ max_radio
    radio_most = (line_read (drop at file) (parsed_of file x) tells).fits.radio

    pub fewer_left : length file - x.next < length file - at
    fewer_left = omega (arith, t.within.0, t.within.1)

    pub Gathering_turn : Gathering file from (take table_lines (sort_in (record { line = m; row = (parsed_of file x).row }) there)) x.next (m + 1)
    Gathering_turn =
        let y : Listed = record { line = m; row = (parsed_of file x).row } in
        let next : m + 1 ≡ suc m = omega arith in
        record {
          within = t.within.1;
          later = omega (arith, g.later, t.within.0);
          few = rw length-take (omega arith);
          whole =
              ap (λ (j : ℕ). gather_among (take table_lines (sort_in y there)) (lines_at file x.next j)) next
              ∙ sym (also_among there y (lines_at file x.next (suc m)))
              ∙ ap (gather_among there) (sym (line_first (drop at file) m (parsed_of file x) left tells)) ∙ g.whole;
        }

  -- one that doesn't
  pub Gathering_bad : Tells file at (line (drop at file)) None → gather (lines_at file from 2) ≡ wrong m
  Gathering_bad t = sym g.whole ∙ ap (gather_among there) (line-none (drop at file) m left (sym t.tells))

-- no line is left
drop_end : (file : List ℕ) (at : ℕ) → length file ≤ at → drop at file ≡ []
drop_end file at h = drop_of_length-le file h

all_there : (there : List Listed) (m : ℕ) → length there ≤ table_lines → gather_among there (lines_from 0 m []) ≡ least there
unfolding lines_from sort_all
all_there there m h = ap least (take_all table_lines there h)

pub Gathering_end : {file : List ℕ} {from : ℕ} {there : List Listed} {at m : ℕ} → Gathering file from there at m → length file ≤ at → gather (lines_at file from 2) ≡ least there
Gathering_end {file} {from} {there} {at} {m} g h = sym g.whole ∙ ap (λ (l : List ℕ). gather_among there (lines_from (length l) m l)) (drop_end file at h) ∙ all_there there m g.few

-- ---- the header

pub no_header : (file : List ℕ) → Ends file 0 (after_header file) None → gather_file file ≡ wrong 1
unfolding gather_file gather file_read
no_header file e = rw (sym e.leaves) refl

module _ (file : List ℕ) {start : ℕ} (e : Ends file 0 (after_header file) (Some start)) where
  behind : after_header file ≡ Some (drop start file)
  behind = sym e.leaves

  pub start_within : start ≤ length file
  start_within = e.within.1

  pub start_late : 3 ≤ start
  start_late = omega (arith, after_header_takes file (drop start file) behind, length-drop start file, start_within)

  pub header_lines : gather_file file ≡ gather (lines_at file start 2)
  unfolding gather_file file_read
  header_lines = rw behind
