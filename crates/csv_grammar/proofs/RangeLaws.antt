-- Laws of what a file can tell: what is read is in range, every line takes a byte, and so turns for as many bytes are enough.
use mathlib.Core.Path.{◌≡◌, refl, ap}
use mathlib.Core.Bool.{Bool, true, false, cond}
use mathlib.Core.List.{List, [], ◌∷◌, map}
use Rattle.std.specs.Prelude.{Option, None, Some}
use Prim.Native.Nat.{ℕ, zero, suc, ◌+◌, ◌-◌, ◌*◌, ◌≤◌, ◌<◌}
use native.Mathlib.Omega.{arith}
use lib.Dec.{eqb, leb}
use lib.ListN.{length}
use borrow.Author.Tests.{leb-true}
use Rattle.lists.specs.Tests.{Each, both}
use Rattle.lists.proofs.Cases.{by_cases, none-some, some_injective, option_cases, or_else_cases}
use Rattle.lists.proofs.TestsLaws.{both_left, both_right}
use Rattle.csv_grammar.specs.Csv.{comma, digit_zero, and_then, after_byte, after_bytes, Number, is_digit, digits_after, plain_number, quoted_number, number, after_name, after_line, field, Parsed, line, after_header, Listed, File, lines, bad, also_line, lines_from, file_read, Fits, numbered}

-- ---- what is read takes bytes

and_then-some {ℓ} : {A B : Type 0} {P : Type ℓ} (o : Option A) (next : A → Option B) (b : B) → and_then o next ≡ Some b → ((a : A) → o ≡ Some a → next a ≡ Some b → P) → P
unfolding and_then
and_then-some None next b e k = none-some e
and_then-some (Some a) next b e k = k a refl e

cond-some {ℓ} : {A : Type 0} {P : Type ℓ} (t : Bool) (o : Option A) (a : A) → cond t o None ≡ Some a → (t ≡ true → o ≡ Some a → P) → P
cond-some true o a e k = k refl e
cond-some false o a e k = none-some e

-- what is left has no more bytes than there were
abbrev NoLonger : (List ℕ → Option (List ℕ)) → Type 0
NoLonger after = (l rest : List ℕ) → after l ≡ Some rest → length rest ≤ length l

after_byte_takes : (b : ℕ) (l rest : List ℕ) → after_byte b l ≡ Some rest → length rest < length l
unfolding after_byte
after_byte_takes b [] rest e = none-some e
after_byte_takes b (x ∷ l) rest e = cond-some (eqb b x) (Some l) rest e (λ t s. let z : l ≡ rest = cc in omega (arith, ap length z))

after_byte-NoLonger : (b : ℕ) → NoLonger (after_byte b)
after_byte-NoLonger b l rest e = omega (arith, after_byte_takes b l rest e)

after_bytes-NoLonger : (bs : List ℕ) → NoLonger (after_bytes bs)
unfolding after_bytes
after_bytes-NoLonger [] l rest e = let z : l ≡ rest = cc in omega (arith, ap length z)
after_bytes-NoLonger (b ∷ bs) l rest e =
    and_then-some (after_byte b l) (after_bytes bs) rest e
    (λ l' e₁ e₂. omega (arith, after_byte_takes b l l' e₁, after_bytes-NoLonger bs l' rest e₂))

after_line-NoLonger : NoLonger after_line
unfolding after_line
after_line-NoLonger [] rest e = let z : [] ≡ rest = cc in omega (arith, ap length z)
after_line-NoLonger (b ∷ l) rest e = after_bytes-NoLonger _ (b ∷ l) rest e

digits_after_NoLonger : (v : ℕ) (l : List ℕ) → length (digits_after v l).rest ≤ length l
unfolding digits_after
digits_after_NoLonger v [] = omega arith
digits_after_NoLonger v (b ∷ l) =
    by_cases (is_digit b)
    (λ t. rw t (omega (arith, digits_after_NoLonger (v * 10 + (b - digit_zero)) l)))
    (λ t. rw t (omega arith))

plain_number_takes : (l : List ℕ) (n : Number) → plain_number l ≡ Some n → length n.rest < length l
unfolding plain_number digits_after
plain_number_takes [] n e = none-some e
plain_number_takes (b ∷ l) n e =
    by_cases (is_digit b)
    (λ t. let e' = rw t at e in let z : digits_after (0 * 10 + (b - digit_zero)) l ≡ n = cc in
    rw (← z) (omega (arith, digits_after_NoLonger (0 * 10 + (b - digit_zero)) l)))
    (λ t. none-some (rw t at e))

quoted_number_takes : (l : List ℕ) (n : Number) → quoted_number l ≡ Some n → length n.rest < length l
unfolding quoted_number
quoted_number_takes l n e =
    and_then-some _ _ n e (λ inner e₁ f₁.
    and_then-some _ _ n f₁ (λ m e₂ f₂.
    and_then-some _ _ n f₂ (λ rest e₃ f₃.
    rw (← some_injective f₃) (omega (arith, after_byte_takes _ l inner e₁, plain_number_takes inner m e₂, after_byte_takes _ m.rest rest e₃)))))

number_takes : (l : List ℕ) (n : Number) → number l ≡ Some n → length n.rest < length l
unfolding number
number_takes l n e = or_else_cases (plain_number l) (quoted_number l) n e (plain_number_takes l n) (quoted_number_takes l n)

-- a field takes a byte, and is in range
record FieldRead (least most : ℕ) (l : List ℕ) (n : Number) : Type 0 where
  low : least ≤ n.value
  high : n.value ≤ most
  takes : length n.rest < length l

field_read : (least most : ℕ) (behind : List ℕ → Option (List ℕ)) (l : List ℕ) (n : Number) → NoLonger behind → field least most behind l ≡ Some n → FieldRead least most l n
unfolding field
field_read least most behind l n short e =
    and_then-some _ _ n e (λ m e₁ f₁.
    cond-some (both (leb least m.value) (leb m.value most)) _ n f₁ (λ t f₂.
    and_then-some _ _ n f₂ (λ rest e₃ f₃.
    rw (← some_injective f₃) (record {
      low = leb-true least m.value (both_left _ _ t);
      high = leb-true m.value most (both_right _ _ t);
      takes = omega (arith, number_takes l m e₁, short m.rest rest e₃);
    }))))

-- a line takes a byte, and fits
pub record LineRead (l : List ℕ) (p : Parsed) : Type 0 where
  pub fits : Fits p.row
  pub takes : length p.rest < length l

pub line_read : (l : List ℕ) (p : Parsed) → line l ≡ Some p → LineRead l p
unfolding line
line_read l p e =
    and_then-some _ _ p e (λ radio e₁ f₁.
    and_then-some _ _ p f₁ (λ east e₂ f₂.
    and_then-some _ _ p f₂ (λ north e₃ f₃.
    and_then-some _ _ p f₃ (λ minute e₄ f₄.
    let a = field_read _ _ _ l radio (after_byte-NoLonger comma) e₁ in
    let b = field_read _ _ _ radio.rest east (after_byte-NoLonger comma) e₂ in
    let c = field_read _ _ _ east.rest north (after_byte-NoLonger comma) e₃ in
    let d = field_read _ _ _ north.rest minute after_line-NoLonger e₄ in
    rw (← some_injective f₄) (record {
      fits = record { radio_least = a.low; radio = a.high; east = omega arith; north = omega arith; minute = d.high };
      takes = omega (arith, a.takes, b.takes, c.takes, d.takes);
    })))))

-- ---- turns: as many as there are bytes are enough, and more do no harm

lines_from_enough : (turns more n : ℕ) (l : List ℕ) → length l ≤ turns → length l ≤ more → lines_from turns n l ≡ lines_from more n l
unfolding lines_from
lines_from_enough zero zero n l h g = refl
lines_from_enough zero (suc more) n [] h g = refl
lines_from_enough zero (suc more) n (b ∷ l) h g = absurd (omega arith)
lines_from_enough (suc turns) zero n [] h g = refl
lines_from_enough (suc turns) zero n (b ∷ l) h g = absurd (omega arith)
lines_from_enough (suc turns) (suc more) n [] h g = refl
lines_from_enough (suc turns) (suc more) n (b ∷ l) h g =
    option_cases (line (b ∷ l))
    (λ e. rw e)
    (λ p e. let r = line_read (b ∷ l) p e in
    rw e (ap (also_line (record { line = n; row = p.row })) (lines_from_enough turns more (suc n) p.rest (omega (arith, r.takes)) (omega (arith, r.takes)))))

pub lines_from_turns : (turns n : ℕ) (l : List ℕ) → length l ≤ turns → lines_from turns n l ≡ lines_from (length l) n l
lines_from_turns turns n l h = lines_from_enough turns (length l) n l h (omega arith)

-- ---- what is read fits, is numbered from 2 on, and has no more lines than bytes

lines_injective : {xs ys : List Listed} → lines xs ≡ lines ys → xs ≡ ys
lines_injective e = cc

bad-lines {ℓ} : {P : Type ℓ} {n : ℕ} {xs : List Listed} → bad n ≡ lines xs → P
bad-lines e = let z : ◌≡◌ {A = ℕ} 0 1 = cc in absurd (omega arith)

also_line-lines {ℓ} : {P : Type ℓ} (x : Listed) (file : File) (xs : List Listed) → also_line x file ≡ lines xs → ((ys : List Listed) → file ≡ lines ys → x ∷ ys ≡ xs → P) → P
also_line-lines x (lines ys) xs e k = k ys refl (lines_injective e)
also_line-lines x (bad n) xs e k = bad-lines e

-- what `lines_from` answers of the bytes l, from number n on
record LinesRead (n : ℕ) (l : List ℕ) (xs : List Listed) : Type 0 where
  fit : Each (λ x. Fits x.row) xs
  numbers : numbered n (map (λ x. x.row) xs) ≡ xs
  few : length xs ≤ length l

no_lines : (n : ℕ) (l : List ℕ) (xs : List Listed) → lines [] ≡ lines xs → LinesRead n l xs
unfolding numbered
no_lines n l xs e = rw (← lines_injective e) (record { fit = tt; numbers = refl; few = omega arith })

lines_from_read : (turns n : ℕ) (l : List ℕ) (xs : List Listed) → lines_from turns n l ≡ lines xs → LinesRead n l xs
unfolding lines_from numbered
lines_from_read zero n l xs e = no_lines n l xs e
lines_from_read (suc turns) n [] xs e = no_lines n [] xs e
lines_from_read (suc turns) n (b ∷ l) xs e =
    option_cases (line (b ∷ l))
    (λ f. bad-lines (rw f at e))
    (λ p f. also_line-lines (record { line = n; row = p.row }) (lines_from turns (suc n) p.rest) xs (rw f at e) (λ ys f₁ z.
    let r = line_read (b ∷ l) p f in
    let rs = lines_from_read turns (suc n) p.rest ys f₁ in
    rw (← z) (record {
      fit = (r.fits, rs.fit);
      numbers = ap (λ (k : List Listed). record { line = n; row = p.row } ∷ k) rs.numbers;
      few = omega (arith, r.takes, rs.few);
    })))

after_name-NoLonger : (name : List ℕ) → NoLonger (after_name name)
unfolding after_name
after_name-NoLonger name l rest e =
    or_else_cases (after_bytes name l) _ rest e (after_bytes-NoLonger name l rest) (λ f.
    and_then-some _ _ rest f (λ inner e₁ f₁.
    and_then-some _ _ rest f₁ (λ l' e₂ e₃.
    omega (arith, after_byte_takes _ l inner e₁, after_bytes-NoLonger _ inner l' e₂, after_byte_takes _ l' rest e₃))))

-- three commas at least
pub after_header_takes : (l rest : List ℕ) → after_header l ≡ Some rest → 3 + length rest ≤ length l
unfolding after_header
after_header_takes l rest e =
    and_then-some _ _ rest e (λ l₁ e₁ f₁.
    and_then-some _ _ rest f₁ (λ l₂ e₂ f₂.
    and_then-some _ _ rest f₂ (λ l₃ e₃ f₃.
    and_then-some _ _ rest f₃ (λ l₄ e₄ f₄.
    and_then-some _ _ rest f₄ (λ l₅ e₅ f₅.
    and_then-some _ _ rest f₅ (λ l₆ e₆ f₆.
    and_then-some _ _ rest f₆ (λ l₇ e₇ e₈.
    omega (
      arith,
      after_name-NoLonger _ l l₁ e₁,
      after_byte_takes _ l₁ l₂ e₂,
      after_name-NoLonger _ l₂ l₃ e₃,
      after_byte_takes _ l₃ l₄ e₄,
      after_name-NoLonger _ l₄ l₅ e₅,
      after_byte_takes _ l₅ l₆ e₆,
      after_name-NoLonger _ l₆ l₇ e₇,
      after_line-NoLonger l₇ rest e₈,
    ))))))))

-- what comes after the header, of a file that is read
file_read-lines {ℓ} : {P : Type ℓ} (file : List ℕ) (xs : List Listed) → file_read file ≡ lines xs → ((l : List ℕ) → length l < length file → LinesRead 2 l xs → P) → P
unfolding file_read
file_read-lines file xs e k =
    option_cases (after_header file)
    (λ f. bad-lines (rw f at e))
    (λ l f. k l (omega (arith, after_header_takes file l f)) (lines_from_read (length l) 2 l xs (rw f at e)))

pub read_Fits : (file : List ℕ) (xs : List Listed) → file_read file ≡ lines xs → Each (λ x. Fits x.row) xs
read_Fits file xs e = file_read-lines file xs e (λ l h r. r.fit)

pub read_numbered : (file : List ℕ) (xs : List Listed) → file_read file ≡ lines xs → numbered 2 (map (λ x. x.row) xs) ≡ xs
read_numbered file xs e = file_read-lines file xs e (λ l h r. r.numbers)

pub read_few : (file : List ℕ) (xs : List Listed) → file_read file ≡ lines xs → length xs < length file
read_few file xs e = file_read-lines file xs e (λ l h r. omega (arith, r.few))
