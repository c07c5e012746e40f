-- Fields, in the words of the code's tests, and that a field whose number is held is in range where its own is.
use mathlib.Core.Bool.{Bool, true, false, cond}
use mathlib.Core.List.{List, [], ◌∷◌}
use Rattle.std.specs.Prelude.{Option, None, Some}
use mathlib.Core.Path.{◌≡◌, refl, sym, ap, ◌∙◌}
use Prim.Native.Nat.{ℕ, ◌≤◌, ◌<◌}
use native.Mathlib.Omega.{arith}
use lib.Dec.{eqb, leb}
use lib.ListN.{length, drop}
use borrow.Author.Tests.{le-leb, lt-leb, leb-true, leb-false, eqb-true}
use Rattle.lists.specs.Tests.{both}
use Rattle.lists.proofs.Cases.{by_cases, option_cases, none-some}
use Rattle.lists.proofs.TestsLaws.{both_right, both_right_false}
use Rattle.csv_grammar.specs.Csv.{Number, comma, and_then, after_byte, after_bytes, after_line, number, field}
use Rattle.csv_reader.specs.Reading.{above, held, held_option, Ends, Valued, Handed, inner, last, wrong, field_in, field_of, FieldWithin, HandsOut, place_behind, number_of, value_of, Ahead, ValueWithin, value_in, inner_value, last_value}
use Rattle.csv_reader.specs.declared.Value.{Value}
use Rattle.csv_reader.specs.declared.Field.{Field}
use Rattle.csv_reader.specs.declared.Field.TheVariants.{Inner, Last}
use Rattle.csv_reader.proofs.EndLaws.{left_none, left_some, left_behind, left_inside}
use Rattle.csv_reader.proofs.NumberLaws.{value_none, value-some, value_ahead}

-- ---- a field: its number, then what stands behind it

module _ {file : List ℕ} {at : ℕ} where
  pub field_none : Valued file at (held_option (number (drop at file))) None → HandsOut file at None
  unfolding field_in
  field_none e = record { hands = rw (value_none e); within = tt }

  module _ {x : Value} (e : Valued file at (held_option (number (drop at file))) (Some x)) where
    pub field_inner : {next : ℕ} → Ends file x.next (after_byte comma (drop x.next file)) (Some next) → HandsOut file at (Some (Inner (record { number = x.number; next = next })))
    unfolding field_in
    field_inner c = record { hands = rw (value-some e, left_some c); within = (omega (arith, value_ahead e, left_behind c), left_inside c) }

    module _ (c : Ends file x.next (after_byte comma (drop x.next file)) None) where
      pub field_open : Ends file x.next (after_line (drop x.next file)) None → HandsOut file at None
      unfolding field_in
      field_open l = record { hands = rw (value-some e, left_none c, left_none l); within = tt }

      pub field_last : {next : ℕ} → Ends file x.next (after_line (drop x.next file)) (Some next) → HandsOut file at (Some (Last (record { number = x.number; next = next })))
      unfolding field_in
      field_last l = record { hands = rw (value-some e, left_none c, left_some l); within = (omega (arith, value_ahead e, left_behind l), left_inside l) }

-- ---- a field in range

abbrev in_range : (least most v : ℕ) → Bool
in_range least most v = both (leb least v) (leb v most)

abbrev ranged : (least most : ℕ) → Option Number → Option Number
ranged least most None = None
ranged least most (Some n) = cond (in_range least most n.value) (Some n) None

abbrev inner_of : Handed → Option Number
inner_of (inner v rest) = Some (record { value = v; rest = rest })
inner_of (last v rest) = None
inner_of wrong = None

abbrev last_of : Handed → Option Number
last_of (inner v rest) = None
last_of (last v rest) = Some (record { value = v; rest = rest })
last_of wrong = None

-- a number that is held instead of a greater one is out of range with it
ranged-held : (least most v : ℕ) (rest : List ℕ) → most < above
    → ranged least most (Some (record { value = v; rest = rest })) ≡ ranged least most (Some (record { value = held v; rest = rest }))
ranged-held least most v rest h = by_cases (leb v most)
    (λ t.
    let small : v ≡ held v = omega (arith, leb-true v most t) in
    ap (λ (n : ℕ). ranged least most (Some (record { value = n; rest = rest }))) small)
    (λ t.
    let great : leb (held v) most ≡ false = lt-leb (held v) most (omega (arith, leb-false v most t)) in
    rw (both_right_false (leb least v) t, both_right_false (leb least (held v)) great))

-- where a comma stands, no line ends
comma_inside : (l : List ℕ) {rest : List ℕ} → after_byte comma l ≡ Some rest → after_line l ≡ None
unfolding after_byte after_line after_bytes and_then
comma_inside [] e = none-some e
comma_inside (b ∷ l) e = by_cases (eqb comma b) (λ t. rw (← eqb-true comma b t)) (λ t. none-some (rw t at e))

cond-none : {A : Type 0} (b : Bool) → ◌≡◌ {A = Option A} (cond b None None) None
cond-none true = refl
cond-none false = refl

module _ (least most : ℕ) (h : most < above) (l : List ℕ) where
  field-comma : field least most (after_byte comma) l ≡ ranged least most (inner_of (field_in l))
  unfolding field field_in and_then held_option
  field-comma = option_cases (number l) (λ t. rw t) (λ n t. rw t (
      option_cases (after_byte comma n.rest)
      (λ u. option_cases (after_line n.rest) (λ w. rw (u, w) (cond-none (in_range least most n.value))) (λ rest w. rw (u, w) (cond-none (in_range least most n.value))))
      (λ rest u. rw u (ranged-held least most n.value rest h))))

  field_line : field least most after_line l ≡ ranged least most (last_of (field_in l))
  unfolding field field_in and_then held_option
  field_line = option_cases (number l) (λ t. rw t) (λ n t. rw t (
      option_cases (after_byte comma n.rest)
      (λ u. option_cases (after_line n.rest) (λ w. rw (u, w) (cond-none (in_range least most n.value))) (λ rest w. rw (u, w) (ranged-held least most n.value rest h)))
      (λ rest u. rw (u, comma_inside n.rest u) (cond-none (in_range least most n.value)))))

-- ---- a value in range

module _ (least most : ℕ) (x : Value) where
  pub value_low : x.number < least → None ≡ value_in least most x
  unfolding both
  value_low h = rw (lt-leb least x.number h)

  pub value_high : most < x.number → None ≡ value_in least most x
  value_high h = rw (both_right_false (leb least x.number) (lt-leb x.number most h))

  pub value_there : least ≤ x.number → x.number ≤ most → Some x ≡ value_in least most x
  unfolding both
  value_there h k = rw (le-leb least x.number h, le-leb x.number most k)

  -- a value that there is, is at most the range's end, and it is the one that was looked at
  value_is : {y : Value} → value_in least most x ≡ Some y → (x.number ≤ most) × (x ≡ y)
  value_is {y} e = by_cases (in_range least most x.number)
      (λ t. let k : Some x ≡ Some y = rw t at e in (leb-true x.number most (both_right _ _ t), cc))
      (λ t. none-some (rw t at e))

pub inner_most : (least most : ℕ) (f : Option Field) {y : Value} → inner_value least most f ≡ Some y → y.number ≤ most
unfolding inner_value
inner_most least most (Some (Inner x)) e = let k = value_is least most x e in rw (← k.1) k.0
inner_most least most (Some (Last x)) e = none-some e
inner_most least most None e = none-some e

pub last_most : (most : ℕ) (f : Option Field) {y : Value} → last_value most f ≡ Some y → y.number ≤ most
unfolding last_value
last_most most (Some (Inner x)) e = none-some e
last_most most (Some (Last x)) e = let k = value_is 0 most x e in rw (← k.1) k.0
last_most most None e = none-some e

pub inner_place : (least most : ℕ) (f : Option Field) (at : ℕ) {y : Value} → inner_value least most f ≡ Some y → place_behind f at ≡ y.next
unfolding inner_value
inner_place least most (Some (Inner x)) at e = ap (λ (z : Value). z.next) (value_is least most x e).1
inner_place least most (Some (Last x)) at e = none-some e
inner_place least most None at e = none-some e

-- ---- what a reader hands out, in range

value-ranged : (file : List ℕ) (least most : ℕ) (x : Value) → value_of file (value_in least most x) ≡ ranged least most (Some (number_of file x))
value-ranged file least most x = by_cases (in_range least most x.number) (λ t. rw t) (λ t. rw t)

ranged_within : (at size least most : ℕ) (x : Value) → Ahead at size x.next → ValueWithin at size (value_in least most x)
ranged_within at size least most x h = by_cases (in_range least most x.number) (λ t. rw t h) (λ t. rw t tt)

inner_ranged : (file : List ℕ) (least most : ℕ) (f : Option Field) → value_of file (inner_value least most f) ≡ ranged least most (inner_of (field_of file f))
unfolding inner_value
inner_ranged file least most (Some (Inner x)) = value-ranged file least most x
inner_ranged file least most (Some (Last x)) = refl
inner_ranged file least most None = refl

inner_within : (at size least most : ℕ) (f : Option Field) → FieldWithin at size f → ValueWithin at size (inner_value least most f)
unfolding inner_value
inner_within at size least most (Some (Inner x)) h = ranged_within at size least most x h
inner_within at size least most (Some (Last x)) h = tt
inner_within at size least most None h = tt

last_ranged : (file : List ℕ) (most : ℕ) (f : Option Field) → value_of file (last_value most f) ≡ ranged 0 most (last_of (field_of file f))
unfolding last_value
last_ranged file most (Some (Inner x)) = refl
last_ranged file most (Some (Last x)) = value-ranged file 0 most x
last_ranged file most None = refl

last_within : (at size most : ℕ) (f : Option Field) → FieldWithin at size f → ValueWithin at size (last_value most f)
unfolding last_value
last_within at size most (Some (Inner x)) h = tt
last_within at size most (Some (Last x)) h = ranged_within at size 0 most x h
last_within at size most None h = tt

module _ {file : List ℕ} {at : ℕ} {f : Option Field} (e : HandsOut file at f) where
  pub inner_Valued : (least most : ℕ) → most < above → Valued file at (field least most (after_byte comma) (drop at file)) (inner_value least most f)
  inner_Valued least most h = record {
    reads = inner_ranged file least most f ∙ (ap (λ (x : Handed). ranged least most (inner_of x)) e.hands ∙ sym (field-comma least most h (drop at file)));
    within = inner_within at (length file) least most f e.within;
  }

  pub last_Valued : (most : ℕ) → most < above → Valued file at (field 0 most after_line (drop at file)) (last_value most f)
  last_Valued most h = record {
    reads = last_ranged file most f ∙ (ap (λ (x : Handed). ranged 0 most (last_of x)) e.hands ∙ sym (field_line 0 most h (drop at file)));
    within = last_within at (length file) most f e.within;
  }
