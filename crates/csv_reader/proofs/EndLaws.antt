-- Where bytes, lines and names end, in the words of the code's tests.
use mathlib.Core.Bool.{Bool, true, false, cond}
use mathlib.Core.Logic.{◌≢◌}
use mathlib.Core.List.{List, [], ◌∷◌}
use Rattle.std.specs.Prelude.{Option, None, Some}
use Rattle.std.specs.Option.{MatchOption}
use Rattle.std.specs.Cmp.Lexicographic.{pointwise}
use mathlib.Core.Path.{◌≡◌, refl, sym, ap, ◌∙◌}
use Prim.Native.Nat.{ℕ, ◌+◌, ◌-◌, ◌≤◌, ◌<◌}
use native.Mathlib.Numerals.{add-one}
use native.Mathlib.Omega.{arith}
use lib.Dec.{eqb, ltb}
use lib.ListN.{length, take, drop, get_or, drop_of_length-le, length-drop, length-append}
use lib.Seq.{drop-cons, take_all}
use borrow.Author.Tests.{eq-eqb, ne_eqb, ltb-true, ltb-false}
use Rattle.std.proofs.lemmas.List.{drop-drop, get_or_default}
use Rattle.std.proofs.lemmas.Slice.Eq.{starts_is}
use Rattle.std.proofs.lemmas.Bool.Decides.{Decides-eqb}
use Rattle.lists.specs.Tests.{or_else}
use Rattle.lists.proofs.Cases.{by_cases}
use Rattle.csv_grammar.specs.Csv.{and_then, comma, after_byte, after_bytes, after_line, after_name}
use Rattle.csv_reader.specs.Reading.{Ends, EndWithin, after_column}

-- ---- what an end says

module _ {file : List ℕ} {at : ℕ} {o : Option (List ℕ)} where
  pub left_none : Ends file at o None → o ≡ None
  left_none e = sym e.leaves

  module _ {next : ℕ} (e : Ends file at o (Some next)) where
    pub left_some : o ≡ Some (drop next file)
    left_some = sym e.leaves

    pub left_behind : at ≤ next
    left_behind = e.within.0

    pub left_inside : next ≤ length file
    left_inside = e.within.1

-- ---- one after the other

within_from : (at next size : ℕ) (s : Option ℕ) → at ≤ next → EndWithin next size s → EndWithin at size s
within_from at next size (Some end) h w = (omega arith, w.1)
within_from at next size None h w = tt

module _ {file : List ℕ} {at : ℕ} {o : Option (List ℕ)} (f : List ℕ → Option (List ℕ)) where
  pub then_none : Ends file at o None → Ends file at (and_then o f) None
  unfolding and_then
  then_none e = record { leaves = rw (left_none e); within = tt }

  pub then_some : {next : ℕ} {s : Option ℕ} → Ends file at o (Some next) → Ends file next (f (drop next file)) s → Ends file at (and_then o f) s
  unfolding and_then
  then_some {next} {s} e d = record { leaves = rw (left_some e) d.leaves; within = within_from at next (length file) s (left_behind e) d.within }

-- ---- a byte, as `get` gives it

module _ (file : List ℕ) (at : ℕ) where
  pub got_none : false ≡ ltb at (length file) → length file ≤ at
  got_none e = ltb-false at (length file) (sym e)

  module _ (e : true ≡ ltb at (length file)) where
    pub got_inside : at < length file
    got_inside = ltb-true at (length file) (sym e)

    pub got_byte : {x : ℕ} → x ≡ get_or file at x → x ≡ get_or file at 0
    got_byte {x} k = k ∙ get_or_default file at x 0 got_inside

module _ (file : List ℕ) (at b : ℕ) where
  pub byte_past : length file ≤ at → Ends file at (after_byte b (drop at file)) None
  unfolding after_byte
  byte_past h = record { leaves = rw (drop_of_length-le file {i = at} h); within = tt }

  module _ (h : at < length file) where
    pub byte_other : get_or file at 0 ≢ b → Ends file at (after_byte b (drop at file)) None
    unfolding after_byte
    byte_other e = record { leaves = rw (drop-cons file at 0 h, ne_eqb b (get_or file at 0) (λ z. e (sym z))); within = tt }

    pub byte_there : get_or file at 0 ≡ b → Ends file at (after_byte b (drop at file)) (Some (at + 1))
    unfolding after_byte
    byte_there e = record { leaves = rw (drop-cons file at 0 h, eq-eqb b (get_or file at 0) (sym e), add-one); within = (omega arith, omega arith) }

-- ---- bytes

-- the file from `at` on, as it is lent
abbrev pub rest_of : List ℕ → ℕ → List ℕ
rest_of file at = take (length file - at) (drop at file)

pub rest_is : (file : List ℕ) (at : ℕ) → rest_of file at ≡ drop at file
rest_is file at = take_all (length file - at) (drop at file) (omega (arith, length-drop at file))

after_starts : (bytes l : List ℕ) → after_bytes bytes l ≡ cond (pointwise eqb bytes (take (length bytes) l)) (Some (drop (length bytes) l)) None
unfolding after_bytes after_byte and_then
after_starts [] l = refl
after_starts (b ∷ bytes) [] = refl
after_starts (b ∷ bytes) (x ∷ l) = by_cases (eqb b x) (λ t. rw t (after_starts bytes l)) (λ t. rw t)

module _ (file bytes : List ℕ) (at : ℕ) {r : Bool} (lent : r ≡ pointwise eqb bytes (take (length bytes) (rest_of file at))) where
  test : r ≡ pointwise eqb bytes (take (length bytes) (drop at file))
  test = rw (rest_is file at) at lent

  pub bytes_none : r ≡ false → Ends file at (after_bytes bytes (drop at file)) None
  bytes_none e = record { leaves = rw (after_starts bytes (drop at file), ← test, e); within = tt }

  pub bytes_there : at ≤ length file → r ≡ true → Ends file at (after_bytes bytes (drop at file)) (Some (at + length bytes))
  bytes_there h e =
      let s = (starts_is Decides-eqb (drop at file) bytes r test).0 e in
      let n : length (drop at file) ≡ length bytes + length (drop (length bytes) (drop at file)) = ap length s ∙ length-append bytes (drop (length bytes) (drop at file)) in
      record { leaves = rw (after_starts bytes (drop at file), ← test, e, drop-drop); within = (omega arith, omega (arith, n, length-drop at file)) }

-- ---- a line's end

pub line_file : (file : List ℕ) (at : ℕ) → at ≡ length file → Ends file at (after_line (drop at file)) (Some at)
unfolding after_line
line_file file at h = record { leaves = rw (drop_of_length-le file {i = at} (omega arith)); within = (omega arith, omega arith) }

pub line_there : (file : List ℕ) (at : ℕ) {r : Option ℕ} → at < length file → Ends file at (after_bytes (13 ∷ 10 ∷ []) (drop at file)) r → Ends file at (after_line (drop at file)) r
unfolding after_line
line_there file at h e = record { leaves = rw (drop-cons file at 0 h) (rw (drop-cons file at 0 h) at e.leaves); within = e.within }

-- ---- a name, in quotes or not; a name and a comma

pub ends_or_else : {file : List ℕ} {at : ℕ} {o p : Option (List ℕ)} (a : Option ℕ) {r : Option ℕ} {P : Type 0} → Ends file at o a → MatchOption a P (λ x. r ≡ Some x) → (P → Ends file at p r) → Ends file at (or_else o p) r
ends_or_else None e m k = rw (left_none e) (k m)
ends_or_else (Some x) e m k = rw (left_some e, m) (record { leaves = refl; within = e.within })

and_then_lem : (o : Option (List ℕ)) (f g : List ℕ → Option (List ℕ)) → and_then (and_then o f) g ≡ and_then o (λ l. and_then (f l) g)
unfolding and_then
and_then_lem None f g = refl
and_then_lem (Some l) f g = refl

module _ (name : List ℕ) {file : List ℕ} {at : ℕ} (f : List ℕ → Option (List ℕ)) where
  pub column_none : Ends file at (after_column name (drop at file)) None → Ends file at (and_then (after_name name (drop at file)) (λ l. and_then (after_byte comma l) f)) None
  unfolding after_column
  column_none e = rw (and_then_lem (after_name name (drop at file)) (after_byte comma) f) at (then_none f e)

  pub column_some : {next : ℕ} {s : Option ℕ} → Ends file at (after_column name (drop at file)) (Some next) → Ends file next (f (drop next file)) s
      → Ends file at (and_then (after_name name (drop at file)) (λ l. and_then (after_byte comma l) f)) s
  unfolding after_column
  column_some e d = rw (and_then_lem (after_name name (drop at file)) (after_byte comma) f) at (then_some f e d)
