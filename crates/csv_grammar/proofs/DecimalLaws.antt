-- Laws of numbers in digits: the digits written of a number lead with no zero, and are read as that number.
use mathlib.Core.Path.{◌≡◌, refl, ap, ◌∙◌}
use mathlib.Core.Bool.{true}
use mathlib.Core.List.{List, [], ◌∷◌, ◌++◌, append_assoc}
use Rattle.std.specs.Prelude.{Some}
use Prim.Native.Nat.{ℕ, zero, suc, ◌+◌, ◌*◌, ◌/◌, ◌%◌, ◌≤◌, ◌<◌}
use native.Mathlib.Omega.{arith}
use lib.Dec.{ltb}
use lib.ListN.{length, get_or, length-append}
use borrow.Author.Tests.{le-leb, ltb-true, ltb-false}
use Rattle.lists.proofs.Cases.{by_cases}
use Rattle.lists.proofs.TestsLaws.{both_intro}
use Rattle.csv_grammar.specs.Csv.{digit_zero, max_minute, digits_in, decimal, is_digit, digits_after, plain_number}

-- the least number that d digits cannot hold
abbrev ten_to : ℕ → ℕ
ten_to zero = 1
ten_to (suc d) = 10 * ten_to d

-- ---- "no leading zeros"

head_append : (a b : List ℕ) → digit_zero < get_or a 0 0 → digit_zero < get_or (a ++ b) 0 0
head_append [] b h = absurd (omega arith)
head_append (x ∷ a) b h = h

head_digits_in : (d n : ℕ) → 1 ≤ n → n < ten_to d → digit_zero < get_or (digits_in d n) 0 0
unfolding digits_in
head_digits_in zero n h g = absurd (omega arith)
head_digits_in (suc d) n h g =
    by_cases (ltb n 10)
    (λ t. rw t (omega arith))
    (λ t. rw t (head_append (digits_in d (n / 10)) _ (head_digits_in d (n / 10) (omega (arith, ltb-false n 10 t)) (omega arith))))

pub no_leading_zero : (n : ℕ) → 1 ≤ n → n ≤ max_minute → digit_zero < get_or (decimal n) 0 0
unfolding decimal
no_leading_zero n h g = head_digits_in 10 n h (omega arith)

pub decimal_zero : decimal 0 ≡ digit_zero ∷ []
unfolding decimal digits_in
decimal_zero = refl

-- ---- one digit is read

is_digit_digit : (n : ℕ) → n < 10 → is_digit (digit_zero + n) ≡ true
is_digit_digit n h = both_intro (le-leb digit_zero (digit_zero + n) (omega arith)) (le-leb (digit_zero + n) (digit_zero + 9) (omega arith))

digits_after_digit : (v n : ℕ) (l : List ℕ) → n < 10 → digits_after v ((digit_zero + n) ∷ l) ≡ digits_after (v * 10 + n) l
unfolding digits_after
digits_after_digit v n l h = rw (is_digit_digit n h) (ap (λ (k : ℕ). digits_after k l) (omega arith))

plain_number_digit : (n : ℕ) (l : List ℕ) → n < 10 → plain_number ((digit_zero + n) ∷ l) ≡ Some (digits_after 0 ((digit_zero + n) ∷ l))
unfolding plain_number
plain_number_digit n l h = rw (is_digit_digit n h)

-- ---- the digits of a number are read

-- they are read as the number, whatever follows
digits_after-digits_in : (d n : ℕ) (l : List ℕ) → n < ten_to d → digits_after 0 (digits_in d n ++ l) ≡ digits_after n l
unfolding digits_in
digits_after-digits_in zero n l h = ap (λ (k : ℕ). digits_after k l) (omega arith)
digits_after-digits_in (suc d) n l h =
    by_cases (ltb n 10)
    (λ t. rw t (digits_after_digit 0 n l (ltb-true n 10 t) ∙ ap (λ (k : ℕ). digits_after k l) (omega arith)))
    (λ t. rw (t, append_assoc)
    (digits_after-digits_in d (n / 10) ((digit_zero + n % 10) ∷ l) (omega arith)
    ∙ digits_after_digit (n / 10) (n % 10) l (omega arith)
    ∙ ap (λ (k : ℕ). digits_after k l) (omega arith)))

-- there is one at least
plain_number-digits_in : (d n : ℕ) (l : List ℕ) → plain_number (digits_in (suc d) n ++ l) ≡ Some (digits_after 0 (digits_in (suc d) n ++ l))
unfolding digits_in
plain_number-digits_in zero n l =
    by_cases (ltb n 10)
    (λ t. rw t (plain_number_digit n l (ltb-true n 10 t)))
    (λ t. rw t (plain_number_digit (n % 10) l (omega arith)))
plain_number-digits_in (suc d) n l =
    by_cases (ltb n 10)
    (λ t. rw t (plain_number_digit n l (ltb-true n 10 t)))
    (λ t. rw (t, append_assoc) (plain_number-digits_in d (n / 10) ((digit_zero + n % 10) ∷ l)))

pub digits_after-decimal : (n : ℕ) (l : List ℕ) → n ≤ max_minute → digits_after 0 (decimal n ++ l) ≡ digits_after n l
unfolding decimal
digits_after-decimal n l h = digits_after-digits_in 10 n l (omega arith)

pub plain_number-decimal : (n : ℕ) (l : List ℕ) → n ≤ max_minute → plain_number (decimal n ++ l) ≡ Some (digits_after n l)
unfolding decimal
plain_number-decimal n l h = plain_number-digits_in 9 n l ∙ ap Some (digits_after-decimal n l h)

-- ---- how long

pub length-decimal_pos : (n : ℕ) → 1 ≤ length (decimal n)
unfolding decimal digits_in
length-decimal_pos n =
    by_cases (ltb n 10)
    (λ t. rw t (omega arith))
    (λ t. rw t (omega (arith, length-append (digits_in 9 (n / 10)) ((digit_zero + n % 10) ∷ []))))
