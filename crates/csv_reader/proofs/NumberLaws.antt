-- Digits and numbers, in the words of the code's tests.
use mathlib.Core.Bool.{Bool, true, false}
use mathlib.Core.List.{List, [], ◌∷◌}
use Rattle.std.specs.Prelude.{Option, None, Some}
use mathlib.Core.Path.{◌≡◌, refl, sym, ap, ◌∙◌}
use Prim.Native.Nat.{ℕ, suc, ◌+◌, ◌-◌, ◌*◌, ◌≤◌, ◌<◌}
use native.Mathlib.Numerals.{add-one}
use native.Mathlib.Omega.{arith}
use lib.Dec.{leb}
use lib.ListN.{length, drop, get_or, drop_of_length-le, length-drop}
use lib.Seq.{drop-cons}
use Rattle.std.proofs.lemmas.List.{drop-drop}
use Rattle.lists.specs.Tests.{both, or_else}
use Rattle.lists.proofs.Cases.{by_cases, option_cases}
use Rattle.csv_grammar.specs.Csv.{Number, quote, digit_zero, and_then, after_byte, is_digit, digits_after, plain_number, quoted_number}
use Rattle.csv_reader.specs.Reading.{above, held, held_number, held_option, DigitsRead, Ends, number_of, Valued}
use Rattle.csv_reader.specs.declared.Value.{Value}
use Rattle.csv_reader.proofs.EndLaws.{left_none, left_some, left_behind, left_inside, rest_of, rest_is}
use Rattle.std.specs.Char.{is_ascii_digit}
use Rattle.std.specs.Option.{MatchOption}

-- ---- a digit

ascii_digit : (b : ℕ) → is_ascii_digit b ≡ is_digit b
unfolding both
ascii_digit b = by_cases (leb digit_zero b) (λ t. rw t) (λ t. rw t)

-- ---- a run of digits: to hold the number on the way is to hold it at the end

digits_held : (v : ℕ) (l : List ℕ) → held_number (digits_after (held v) l) ≡ held_number (digits_after v l)
unfolding digits_after
digits_held v [] = ap (λ (n : ℕ). record { value = n; rest = [] }) (omega arith)
digits_held v (b ∷ l) =
    let same : held (held v * 10 + (b - digit_zero)) ≡ held (v * 10 + (b - digit_zero)) = omega arith in
    by_cases (is_digit b)
    (λ t. rw t (sym (digits_held (held v * 10 + (b - digit_zero)) l) ∙ (ap (λ (n : ℕ). held_number (digits_after n l)) same ∙ digits_held (v * 10 + (b - digit_zero)) l)))
    (λ t. rw t (ap (λ (n : ℕ). record { value = n; rest = b ∷ l }) (omega arith)))

-- of the digits from `from` on, i are read, and make v
module _ (file : List ℕ) (from v i : ℕ) (all : held_number (digits_after v (drop i (drop from file))) ≡ held_number (digits_after 0 (drop from file))) (small : v ≤ above) where
  read : (l : List ℕ) → from + i ≤ length file → drop i (drop from file) ≡ l → digits_after v l ≡ record { value = v; rest = l } → DigitsRead file from (record { number = v; next = from + i })
  read l h e d =
      let f : List ℕ → Number = λ (l : List ℕ). record { value = v; rest = l } in
      let k : drop (from + i) file ≡ drop i (drop from file) = sym (drop-drop i from file) in
      let small' : v ≡ held v = omega arith in
      record {
        reads = ap f k ∙ (ap (λ (n : ℕ). record { value = n; rest = drop i (drop from file) }) small' ∙ (ap held_number (sym (ap (digits_after v) e ∙ (d ∙ ap f (sym e)))) ∙ all));
        within = h;
      }

  pub digits_end : from ≤ length file → length (rest_of file from) ≡ i → DigitsRead file from (record { number = v; next = length file })
  unfolding digits_after
  digits_end k h =
      let n : length (drop from file) ≡ i = rw (rest_is file from) at h in
      let e : from + i ≡ length file = omega (arith, length-drop from file) in
      rw (← e) (read [] (omega arith) (drop_of_length-le (drop from file) {i = i} (omega arith)) refl)

  module _ (lent : i < length (rest_of file from)) {r : Bool} (said : r ≡ is_ascii_digit (get_or (rest_of file from) i 0)) where
    h : i < length (drop from file)
    h = rw (rest_is file from) at lent

    test : r ≡ is_digit (get_or (drop from file) i 0)
    test = rw (rest_is file from) at said ∙ ascii_digit (get_or (drop from file) i 0)

    pub digits_stop : r ≡ false → DigitsRead file from (record { number = v; next = from + i })
    unfolding digits_after
    digits_stop e = let k = h in read (get_or (drop from file) i 0 ∷ drop (suc i) (drop from file)) (omega (arith, length-drop from file)) (drop-cons (drop from file) i 0 h) (rw (← test, e))

    pub digits_turn : r ≡ true → {w : ℕ} → w ≡ held (v * 10 + (get_or (rest_of file from) i 0 - digit_zero)) → held_number (digits_after w (drop (i + 1) (drop from file))) ≡ held_number (digits_after 0 (drop from file))
    unfolding digits_after
    digits_turn e g =
        ap (λ (n : ℕ). held_number (digits_after n (drop (i + 1) (drop from file)))) (rw (rest_is file from) at g)
        ∙ (digits_held (v * 10 + (get_or (drop from file) i 0 - digit_zero)) (drop (i + 1) (drop from file)) ∙ rw add-one (rw (drop-cons (drop from file) i 0 h, ← test, e) at all))

-- ---- what a value says

module _ {file : List ℕ} {at : ℕ} {o : Option Number} where
  pub value_none : Valued file at o None → o ≡ None
  value_none e = sym e.reads

  module _ {x : Value} (e : Valued file at o (Some x)) where
    pub value-some : o ≡ Some (number_of file x)
    value-some = sym e.reads

    pub value_ahead : at < x.next
    value_ahead = e.within.0

    pub value_inside : x.next ≤ length file
    value_inside = e.within.1

-- ---- a number of digits alone

digits_shorter : (v : ℕ) (l : List ℕ) → length (digits_after v l).rest ≤ length l
unfolding digits_after
digits_shorter v [] = omega arith
digits_shorter v (b ∷ l) = by_cases (is_digit b) (λ t. rw t (omega (arith, digits_shorter (v * 10 + (b - digit_zero)) l))) (λ t. rw t (omega arith))

pub plain_past : (file : List ℕ) (at : ℕ) → length file ≤ at → Valued file at (held_option (plain_number (drop at file))) None
unfolding plain_number held_option
plain_past file at h = record { reads = rw (drop_of_length-le file {i = at} h); within = tt }

module _ (file : List ℕ) (at : ℕ) (h : at < length file) {b : ℕ} (byte : b ≡ get_or file at 0) {r : Bool} (said : r ≡ is_ascii_digit b) where
  digit : r ≡ is_digit (get_or file at 0)
  digit = rw byte at (said ∙ ascii_digit b)

  pub plain_other : r ≡ false → Valued file at (held_option (plain_number (drop at file))) None
  unfolding plain_number held_option
  plain_other e = record { reads = rw (drop-cons file at 0 h, ← digit, e); within = tt }

  module _ (e : r ≡ true) where
    plain_digits : plain_number (drop at file) ≡ Some (digits_after 0 (drop at file))
    unfolding plain_number
    plain_digits = rw (drop-cons file at 0 h, ← digit, e)

    -- the first digit is passed
    plain_ahead : length (digits_after 0 (drop at file)).rest < length (drop at file)
    unfolding digits_after
    plain_ahead = rw (drop-cons file at 0 h, ← digit, e) (omega (arith, digits_shorter (0 * 10 + (get_or file at 0 - digit_zero)) (drop (suc at) file)))

    pub plain_there : (x : Value) → DigitsRead file at x → Valued file at (held_option (plain_number (drop at file))) (Some x)
    unfolding held_option
    plain_there x k = record {
      reads = rw plain_digits (ap Some k.reads);
      within = (omega (arith, plain_ahead, ap (λ (n : Number). length n.rest) k.reads, length-drop x.next file, length-drop at file), k.within);
    }

-- ---- a number in quotes

held_closed : (o : Option Number)
    → held_option (and_then o (λ n. and_then (after_byte quote n.rest) (λ rest. Some (record { value = n.value; rest = rest }))))
    ≡ and_then (held_option o) (λ n. and_then (after_byte quote n.rest) (λ rest. Some (record { value = n.value; rest = rest })))
unfolding held_option and_then
held_closed None = refl
held_closed (Some n) = option_cases (after_byte quote n.rest) (λ t. rw t) (λ rest t. rw t)

module _ {file : List ℕ} {at : ℕ} where
  pub closed_none : Ends file at (after_byte quote (drop at file)) None → Valued file at (held_option (quoted_number (drop at file))) None
  unfolding quoted_number and_then held_option
  closed_none e = record { reads = rw (left_none e); within = tt }

  module _ {inner : ℕ} (e₁ : Ends file at (after_byte quote (drop at file)) (Some inner)) where
    inside : held_option (quoted_number (drop at file)) ≡ and_then (held_option (plain_number (drop inner file))) (λ n. and_then (after_byte quote n.rest) (λ rest. Some (record { value = n.value; rest = rest })))
    unfolding quoted_number and_then
    inside = rw (left_some e₁) (held_closed (plain_number (drop inner file)))

    pub closed_other : Valued file inner (held_option (plain_number (drop inner file))) None → Valued file at (held_option (quoted_number (drop at file))) None
    unfolding and_then
    closed_other e = record { reads = rw (inside, value_none e); within = tt }

    module _ {x : Value} (e₂ : Valued file inner (held_option (plain_number (drop inner file))) (Some x)) where
      pub closed_open : Ends file x.next (after_byte quote (drop x.next file)) None → Valued file at (held_option (quoted_number (drop at file))) None
      unfolding and_then
      closed_open e = record { reads = rw (inside, value-some e₂, left_none e); within = tt }

      pub closed_there : {next : ℕ} → Ends file x.next (after_byte quote (drop x.next file)) (Some next) → Valued file at (held_option (quoted_number (drop at file))) (Some (record { number = x.number; next = next }))
      unfolding and_then
      closed_there e = record {
        reads = rw (inside, value-some e₂, left_some e);
        within = (omega (arith, left_behind e₁, value_ahead e₂, left_behind e), left_inside e);
      }

-- ---- a number, in quotes or not

held_else : (o p : Option Number) → held_option (or_else o p) ≡ or_else (held_option o) (held_option p)
unfolding held_option
held_else None p = refl
held_else (Some n) p = refl

pub valued_or_else : {file : List ℕ} {at : ℕ} (o p : Option Number) (a : Option Value) {r : Option Value} {P : Type 0}
    → Valued file at (held_option o) a → MatchOption a P (λ x. r ≡ Some x) → (P → Valued file at (held_option p) r) → Valued file at (held_option (or_else o p)) r
valued_or_else o p None e m k = rw (held_else o p, value_none e) (k m)
valued_or_else o p (Some x) e m k = rw (held_else o p, value-some e, m) (record { reads = refl; within = e.within })
