-- Which line a sign-on check stops first (02, Job 6): "the first line, so taken, that a sign-on check stops gives that check's number and its line."
use Rattle.std.specs.Prelude.{Bool, false, cond, List, [], ◌∷◌, ℕ, suc, eqb, leb, Option, None, Some}
use Rattle.terms.specs.Terms.{max_on}
use Rattle.lists.specs.Tests.{both, either}
use Rattle.csv_grammar.specs.Csv.{Listed}
use Rattle.terms.specs.Refusals.{number_of}
use Rattle.terms.specs.declared.Refusal.{Refusal}
use Rattle.csv_order.specs.declared.Stop.{Stop as Stopped}

-- the number of the check that stops a line, 0 if none does, on who is on and how many are, in the order of a sign-on's checks: 12, the place is (0,0); 8, the
-- radio is on; 10, 512 are on. 13 stops none, for lines are taken by rising minute
unfoldable pub stop_of : (is_on : ℕ → Bool) (how_many : ℕ) → Listed → ℕ
stop_of is_on how_many x =
    cond (both (eqb x.row.val.place.east 0) (eqb x.row.val.place.north 0)) 12
    (cond (is_on x.row.key) 8
    (cond (leb max_on how_many) 10 0))

-- this one too
abbrev pub also_on : ℕ → (ℕ → Bool) → ℕ → Bool
also_on radio is_on q = either (eqb q radio) (is_on q)

-- the number of the check that stops a line, and the line's number in the file
pub record Stop : Type 0 where
  pub number : ℕ
  pub line : ℕ

abbrev pub stop_at : ℕ → Listed → Stop
stop_at number x = record { number = number; line = x.line }

-- each line on who the lines before it turned on
unfoldable pub first_stop : (is_on : ℕ → Bool) (how_many : ℕ) → List Listed → Option Stop
first_stop is_on how_many [] = None
first_stop is_on how_many (x ∷ xs) =
    cond (eqb (stop_of is_on how_many x) 0)
    (first_stop (also_on x.row.key is_on) (suc how_many) xs)
    (Some (stop_at (stop_of is_on how_many x) x))

-- a fresh store has no radio on
unfoldable pub stop_in : List Listed → Option Stop
stop_in xs = first_stop (λ _. false) 0 xs

-- ---- as the code has them

-- 0 where there is no refusal
abbrev pub number_if : Option Refusal → ℕ
number_if None = 0
number_if (Some r) = number_of r

abbrev pub told : Stopped → Stop
told s = record { number = number_of s.refusal; line = s.line }
