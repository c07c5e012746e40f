-- Laws of a number's digits, and the loop that writes them from the last to the first.
use mathlib.Core.List.{List, [], ◌∷◌, ◌++◌, append_assoc, append-nil}
use mathlib.Core.Path.{◌≡◌, refl, sym, ap, ◌∙◌}
use Prim.Native.Nat.{ℕ, zero, suc, ◌+◌, ◌-◌, ◌*◌, ◌/◌, ◌%◌, ◌^◌, ◌≤◌, ◌<◌}
use native.Mathlib.Nat.{not-suc-le-zero, le_of_suc-le-suc, pow-suc, mul_comm}
use native.Mathlib.Numerals.{add-one}
use native.Mathlib.Omega.{arith}
use lib.Dec.{ltb}
use lib.ListN.{length, set, length-append}
use lib.Seq.{set_split}
use borrow.Author.Tests.{lt-ltb, le-ltb, ltb-true, ltb-false}
use Rattle.lists.specs.Parts.{put}
use Rattle.lists.proofs.Cases.{by_cases}
use Rattle.lists.proofs.PartsLaws.{length-put, take-put-le, drop_into, put_def, put-nil}
use Rattle.csv_grammar.specs.Csv.{digit_zero, max_minute, digits_in, decimal}

-- ---- the digits

tenfold : (k : ℕ) → 10 ^ suc k ≡ 10 * 10 ^ k
tenfold k = pow-suc 10 k ∙ mul_comm (10 ^ k) 10

digits_one : (d n : ℕ) → n < 10 → digits_in (suc d) n ≡ (digit_zero + n) ∷ []
unfolding digits_in
digits_one d n h = rw (lt-ltb n 10 h)

digits_step : (d n : ℕ) → 10 ≤ n → digits_in (suc d) n ≡ digits_in d (n / 10) ++ ((digit_zero + n % 10) ∷ [])
unfolding digits_in
digits_step d n h = rw (le-ltb n 10 h)

-- more turns than there are digits change nothing
digits_more : (d n : ℕ) → n < 10 ^ suc d → digits_in (suc (suc d)) n ≡ digits_in (suc d) n
digits_more zero n h = digits_one 1 n (omega arith) ∙ sym (digits_one 0 n (omega arith))
digits_more (suc d) n h =
    by_cases (ltb n 10)
    (λ t. let b = ltb-true n 10 t in digits_one (suc (suc d)) n b ∙ sym (digits_one (suc d) n b))
    (λ t. let b = ltb-false n 10 t in
    digits_step (suc (suc d)) n b
    ∙ ap (λ (l : List ℕ). l ++ ((digit_zero + n % 10) ∷ [])) (digits_more d (n / 10) (omega (arith, tenfold (suc d))))
    ∙ sym (digits_step (suc d) n b))

pub decimal_one : (n : ℕ) → n < 10 → decimal n ≡ (digit_zero + n) ∷ []
unfolding decimal
decimal_one n h = digits_one 9 n h

-- the last digit stands behind those of a tenth
pub decimal_step : (n : ℕ) → 10 ≤ n → n ≤ max_minute → decimal n ≡ decimal (n / 10) ++ ((digit_zero + n % 10) ∷ [])
unfolding decimal
decimal_step n h m = digits_step 9 n h ∙ ap (λ (l : List ℕ). l ++ ((digit_zero + n % 10) ∷ [])) (sym (digits_more 8 (n / 10) (omega arith)))

-- ---- how many there are

length_digits : (k d n : ℕ) → k ≤ d → 10 ^ suc k ≤ n → n < 10 ^ suc (suc k) → length (digits_in (suc (suc d)) n) ≡ suc (suc k)
length_digits zero d n f a b = rw (digits_step (suc d) n (omega arith), digits_one d (n / 10) (omega arith)) refl
length_digits (suc k) zero n f a b = absurd (not-suc-le-zero f)
length_digits (suc k) (suc d) n f a b =
    rw (digits_step (suc (suc d)) n (omega (arith, tenfold (suc k), tenfold k)), length-append)
    (omega (arith, length_digits k d (n / 10) (le_of_suc-le-suc f) (omega (arith, tenfold (suc k))) (omega (arith, tenfold (suc (suc k))))))

pub width_one : (n : ℕ) → n < 10 → 1 ≡ length (decimal n)
width_one n h = rw (decimal_one n h)

pub width : (k n : ℕ) → k ≤ 8 → 10 ^ suc k ≤ n → n < 10 ^ suc (suc k) → suc (suc k) ≡ length (decimal n)
unfolding decimal
width k n f a b = sym (length_digits k 8 n f a b)

length_digits_le : (d n : ℕ) → length (digits_in d n) ≤ d
unfolding digits_in
length_digits_le zero n = omega arith
length_digits_le (suc d) n =
    by_cases (ltb n 10) (λ t. rw t (omega arith)) (λ t. rw (t, length-append) (omega (arith, length_digits_le d (n / 10))))

pub length-decimal-le : (n : ℕ) → length (decimal n) ≤ 10
unfolding decimal
length-decimal-le n = length_digits_le 10 n

-- ---- the loop

-- a store right before what was put
set_before : (xs : List ℕ) (i v : ℕ) (vs : List ℕ) → i + 1 + length vs ≤ length xs → set (put xs (i + 1) vs) i v ≡ put xs i (v ∷ vs)
set_before xs i v vs h =
    let l : length (put xs (i + 1) vs) ≡ length xs = length-put xs (i + 1) vs h in
    let e : i + suc (length vs) ≡ i + 1 + length vs = omega arith in
    set_split (put xs (i + 1) vs) i v (omega arith)
    ∙ rw (take-put-le xs (i + 1) vs i (omega arith) (omega arith), ← add-one i, drop_into xs (i + 1) vs (omega arith), put_def xs i (v ∷ vs), e)

-- of the digits of n, to stand in xs from `at` on, those from i on stand in ys; those up to i are still to come, and if there are any, they are those of `left`
pub record Going (xs : List ℕ) (at n : ℕ) (ys : List ℕ) (i left : ℕ) : Type 0 where
  pub rest : List ℕ
  pub behind : List ℕ
  pub whole : decimal n ≡ rest ++ behind
  pub place : at + length rest ≡ i
  pub more : at < i → rest ≡ decimal left
  pub fits : at + length (decimal n) ≤ length xs
  pub list : ys ≡ put xs i behind

pub Going_start : (xs : List ℕ) (at n : ℕ) {r : ℕ} → r ≡ length (decimal n) → at + length (decimal n) ≤ length xs → Going xs at n xs (at + r) n
Going_start xs at n e h =
    record {
      rest = decimal n;
      behind = [];
      whole = sym (append-nil (decimal n));
      place = omega arith;
      more = λ _. refl;
      fits = h;
      list = sym (put-nil xs _);
    }

module _ {xs : List ℕ} {at n : ℕ} {ys : List ℕ} {i left : ℕ} (g : Going xs at n ys i left) where
  lengths : length (decimal n) ≡ length g.rest + length g.behind
  lengths = ap length g.whole ∙ length-append g.rest g.behind

  pub Going_within : i ≤ length xs
  Going_within = omega (arith, g.place, g.fits, lengths)

  module _ (h : at < i) (m : left ≤ max_minute) {v : ℕ} (e : v ≡ digit_zero + left % 10) where
    -- what comes before the digit that is written
    ahead : (rest : List ℕ) → g.rest ≡ rest ++ (v ∷ []) → (at < i - 1 → rest ≡ decimal (left / 10)) → Going xs at n (set ys (i - 1) v) (i - 1) (left / 10)
    ahead rest q more =
        let l : length g.rest ≡ length rest + 1 = ap length q ∙ length-append rest (v ∷ []) in
        let p = g.place in
        let k : i - 1 + 1 ≡ i = omega arith in
        record {
          rest = rest;
          behind = v ∷ g.behind;
          whole = g.whole ∙ rw q (append_assoc rest (v ∷ []) g.behind);
          place = omega arith;
          more = more;
          fits = g.fits;
          list = ap (λ (zs : List ℕ). set zs (i - 1) v) (g.list ∙ ap (λ (j : ℕ). put xs j g.behind) (sym k)) ∙ set_before xs (i - 1) v g.behind (omega (arith, lengths, g.fits));
        }

    pub Going_turn : Going xs at n (set ys (i - 1) v) (i - 1) (left / 10)
    Going_turn =
        by_cases (ltb left 10)
        (λ t.
        let s = ltb-true left 10 t in
        let w : digit_zero + left ≡ v = omega arith in
        ahead [] (g.more h ∙ (decimal_one left s ∙ ap (λ (x : ℕ). x ∷ []) w)) (λ k. absurd (omega (arith, g.place, ap length (g.more h ∙ decimal_one left s)))))
        (λ t. ahead (decimal (left / 10)) (g.more h ∙ (decimal_step left (ltb-false left 10 t) m ∙ ap (λ (x : ℕ). decimal (left / 10) ++ (x ∷ [])) (sym e))) (λ _. refl))

pub Going_end : {xs : List ℕ} {at n : ℕ} {ys : List ℕ} {i left : ℕ} → Going xs at n ys i left → i ≤ at → ys ≡ put xs at (decimal n)
Going_end {xs} {at} {n} {ys} {i} g h =
    let z : i ≡ at = omega (arith, g.place) in
    g.list ∙ (ap (λ (j : ℕ). put xs j g.behind) z ∙ ap (put xs at) (sym (g.whole ∙ ap (λ (r : List ℕ). r ++ g.behind) (none g.rest (omega (arith, g.place))))))
  where
    none : (r : List ℕ) → length r ≤ 0 → r ≡ []
    none [] h = refl
    none (x ∷ r) h = absurd (omega arith)
