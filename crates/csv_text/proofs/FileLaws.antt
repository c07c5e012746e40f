-- The file's lines one after the other: the loops that count and write them.
use mathlib.Core.List.{List, [], ◌∷◌, ◌++◌, append_assoc, append-nil}
use mathlib.Core.Path.{◌≡◌, refl, sym, ap, ◌∙◌}
use Prim.Native.Nat.{ℕ, zero, suc, ◌+◌, ◌-◌, ◌*◌, ◌≤◌, ◌<◌}
use native.Mathlib.Omega.{arith}
use lib.ListN.{length, get_or, length-append}
use Rattle.terms.specs.Terms.{Fix}
use Rattle.lists.specs.Parts.{put, tab}
use Rattle.lists.specs.Rows.{Row, Rows}
use Rattle.lists.proofs.PartsLaws.{tab_suc, put-nil, put_then}
use Rattle.csv_grammar.specs.Csv.{header_line, line_with, line_of, lines_of, file_of}
use Rattle.terms.specs.declared.Fix.{Fix as HeldFix}
use Rattle.csv_text.specs.Text.{no_fix, row_at, rows_in}
use Rattle.csv_text.proofs.LineLaws.{length-line_of-le}

-- ---- the header

abbrev pub header_bytes : ℕ
header_bytes = 25

pub length-header_line : length header_line ≡ header_bytes
unfolding header_line line_with
length-header_line = refl

-- the header comes first, so the whole file has room for it
pub header_room : (l : Rows Fix) (xs : List ℕ) → length (file_of l) ≤ length xs → length header_line ≤ length xs
unfolding file_of
header_room l xs h = omega (arith, length-append header_line (lines_of l))

-- ---- lines

lines_snoc : (l : Rows Fix) (x : Row Fix) → lines_of (l ++ (x ∷ [])) ≡ lines_of l ++ line_of x
unfolding lines_of
lines_snoc [] x = append-nil (line_of x)
lines_snoc (y ∷ l) x = ap (λ (b : List ℕ). line_of y ++ b) (lines_snoc l x) ∙ sym (append_assoc (line_of y) (lines_of l) (line_of x))

module _ (rs : List ℕ) (fs : List HeldFix) where
  lines_zero : lines_of (rows_in 0 rs fs) ≡ []
  unfolding rows_in tab lines_of
  lines_zero = refl

  lines_suc : (i : ℕ) → lines_of (rows_in (i + 1) rs fs) ≡ lines_of (rows_in i rs fs) ++ line_of (row_at rs fs i)
  unfolding rows_in
  lines_suc i = ap lines_of (tab_suc i (row_at rs fs)) ∙ lines_snoc _ _

  length_lines_suc : (i : ℕ) → length (lines_of (rows_in (i + 1) rs fs)) ≡ length (lines_of (rows_in i rs fs)) + length (line_of (row_at rs fs i))
  length_lines_suc i = ap length (lines_suc i) ∙ length-append (lines_of (rows_in i rs fs)) _

  -- the lines of fewer rows take no more bytes
  length_lines_more : (i k : ℕ) → length (lines_of (rows_in i rs fs)) ≤ length (lines_of (rows_in (i + k) rs fs))
  length_lines_more i zero = let z : i + 0 ≡ i = omega arith in rw z (omega arith)
  length_lines_more i (suc k) =
      let z : i + suc k ≡ i + k + 1 = omega arith in
      rw z (omega (arith, length_lines_suc (i + k), length_lines_more i k))

  length-file_of : (i : ℕ) → length (file_of (rows_in i rs fs)) ≡ header_bytes + length (lines_of (rows_in i rs fs))
  unfolding file_of
  length-file_of i = length-append header_line _ ∙ rw length-header_line

-- ---- the loop that counts

-- the file of the first i rows takes `total` bytes
pub record Counted (rs : List ℕ) (fs : List HeldFix) (i total : ℕ) : Type 0 where
  pub few : total ≤ header_bytes + 45 * i
  pub sum : total ≡ length (file_of (rows_in i rs fs))

pub Counted_start : (rs : List ℕ) (fs : List HeldFix) → Counted rs fs 0 header_bytes
Counted_start rs fs = record { few = omega arith; sum = sym (length-file_of rs fs 0 ∙ rw (lines_zero rs fs)) }

pub line_small : (rs : List ℕ) (fs : List HeldFix) (i : ℕ) {r : ℕ} → r ≡ length (line_of (row_at rs fs i)) → r ≤ 45
line_small rs fs i e = omega (arith, length-line_of-le (get_or rs i 0) (get_or fs i no_fix))

pub Counted_turn : {rs : List ℕ} {fs : List HeldFix} {i total : ℕ} {r : ℕ} → Counted rs fs i total → r ≡ length (line_of (row_at rs fs i)) → Counted rs fs (i + 1) (total + r)
Counted_turn {rs} {fs} {i} g e =
    record {
      few = omega (arith, g.few, line_small rs fs i e);
      sum = omega (arith, g.sum, length-file_of rs fs i, length-file_of rs fs (i + 1), length_lines_suc rs fs i);
    }

pub Counted_end : {rs : List ℕ} {fs : List HeldFix} {i n total : ℕ} → Counted rs fs i total → i ≤ n → n ≤ i → total ≡ length (file_of (rows_in n rs fs))
Counted_end {rs} {fs} {i} {n} {total} g a b =
    let e : i ≡ n = omega arith in rw (← e) g.sum

-- ---- the loop that writes

-- behind the header the lines of the first i of n rows stand in ys, up to `at`
pub record Lined (rs : List ℕ) (fs : List HeldFix) (n : ℕ) (xs : List ℕ) (i : ℕ) (ys : List ℕ) (at : ℕ) : Type 0 where
  pub fits : length (file_of (rows_in n rs fs)) ≤ length xs
  pub place : at ≡ header_bytes + length (lines_of (rows_in i rs fs))
  pub list : ys ≡ put xs header_bytes (lines_of (rows_in i rs fs))

pub Lined_start : (rs : List ℕ) (fs : List HeldFix) (n : ℕ) (xs : List ℕ) {at : ℕ} → length (file_of (rows_in n rs fs)) ≤ length xs → at ≡ length header_line → Lined rs fs n xs 0 xs at
Lined_start rs fs n xs h e =
    let z = lines_zero rs fs in
    record { fits = h; place = rw z (omega (arith, length-header_line)); list = rw z (sym (put-nil xs header_bytes)) }

pub Lined_room : {rs : List ℕ} {fs : List HeldFix} {n : ℕ} {xs : List ℕ} {i : ℕ} {ys : List ℕ} {at : ℕ} → Lined rs fs n xs i ys at → i < n
    → at + length (line_of (row_at rs fs i)) ≤ length xs
Lined_room {rs} {fs} {n} {i = i} g h =
    let k : ℕ = n - (i + 1) in
    let e : i + 1 + k ≡ n = omega arith in
    let m : length (lines_of (rows_in (i + 1) rs fs)) ≤ length (lines_of (rows_in n rs fs)) = rw e at (length_lines_more rs fs (i + 1) k) in
    omega (arith, g.fits, g.place, length-file_of rs fs n, length_lines_suc rs fs i)

pub Lined_turn : {rs : List ℕ} {fs : List HeldFix} {n : ℕ} {xs : List ℕ} {i : ℕ} {ys zs : List ℕ} {at b : ℕ} → Lined rs fs n xs i ys at → i < n
    → (zs ≡ put ys at (line_of (row_at rs fs i))) × (b ≡ at + length (line_of (row_at rs fs i))) → Lined rs fs n xs (i + 1) zs b
Lined_turn {rs} {fs} {n} {xs} {i} {at = at} g h e =
    let r = Lined_room g h in
    let p = g.place in
    record {
      fits = g.fits;
      place = omega (arith, length_lines_suc rs fs i);
      list = put_then xs header_bytes _ _ g.list e.0 (omega arith) (omega arith) ∙ ap (put xs header_bytes) (sym (lines_suc rs fs i));
    }

pub Lined_end : {rs : List ℕ} {fs : List HeldFix} {n : ℕ} {xs : List ℕ} {i : ℕ} {ys : List ℕ} {at : ℕ} (xs₀ : List ℕ) → Lined rs fs n xs i ys at → i ≤ n → n ≤ i
    → length (file_of (rows_in n rs fs)) ≤ length xs₀ → xs ≡ put xs₀ 0 header_line → ys ≡ put xs₀ 0 (file_of (rows_in n rs fs))
unfolding file_of
Lined_end {rs} {fs} {n} {xs} {i} xs₀ g a b h e =
    let q : i ≡ n = omega arith in
    put_then xs₀ 0 header_line _ e (rw q at g.list) (omega (arith, length-header_line)) (omega (arith, length-file_of rs fs n))
