-- Lines: four fields, one after the other.
use mathlib.Core.List.{List}
use Rattle.std.specs.Prelude.{Option, None, Some}
use Prim.Native.Nat.{ℕ}
use native.Mathlib.Omega.{arith}
use lib.ListN.{drop}
use Rattle.terms.specs.Terms.{max_radio}
use Rattle.csv_grammar.specs.Csv.{comma, max_metre, max_minute, and_then, after_byte, after_line, field, line}
use Rattle.csv_reader.specs.Reading.{Valued, HandsOut, place_behind, inner_value, last_value, line_from, Tells}
use Rattle.csv_reader.specs.declared.Value.{Value}
use Rattle.csv_reader.specs.declared.Field.{Field}
use Rattle.lists.proofs.Cases.{option_cases}
use Rattle.csv_reader.proofs.NumberLaws.{value_none, value-some, value_ahead, value_inside}
use Rattle.csv_reader.proofs.FieldLaws.{inner_place, inner_Valued, last_Valued}

module _ {file : List ℕ} {at : ℕ} where
  line_none : Valued file at (field 1 max_radio (after_byte comma) (drop at file)) None → Tells file at (line (drop at file)) None
  unfolding line and_then
  line_none e = record { tells = rw (value_none e); within = tt }

  module _ {radio : Value} (e₁ : Valued file at (field 1 max_radio (after_byte comma) (drop at file)) (Some radio)) where
    line_none₂ : Valued file radio.next (field 0 max_metre (after_byte comma) (drop radio.next file)) None → Tells file at (line (drop at file)) None
    unfolding line and_then
    line_none₂ e = record { tells = rw (value-some e₁, value_none e); within = tt }

    module _ {east : Value} (e₂ : Valued file radio.next (field 0 max_metre (after_byte comma) (drop radio.next file)) (Some east)) where
      line_none₃ : Valued file east.next (field 0 max_metre (after_byte comma) (drop east.next file)) None → Tells file at (line (drop at file)) None
      unfolding line and_then
      line_none₃ e = record { tells = rw (value-some e₁, value-some e₂, value_none e); within = tt }

      module _ {north : Value} (e₃ : Valued file east.next (field 0 max_metre (after_byte comma) (drop east.next file)) (Some north)) where
        line_none₄ : Valued file north.next (field 0 max_minute after_line (drop north.next file)) None → Tells file at (line (drop at file)) None
        unfolding line and_then
        line_none₄ e = record { tells = rw (value-some e₁, value-some e₂, value-some e₃, value_none e); within = tt }

        line_row : {minute : Value} → Valued file north.next (field 0 max_minute after_line (drop north.next file)) (Some minute)
            → Tells file at (line (drop at file)) (Some (record { radio = radio.number; east = east.number; north = north.number; minute = minute.number; next = minute.next }))
        unfolding line and_then
        line_row e = record {
          tells = rw (value-some e₁, value-some e₂, value-some e₃, value-some e);
          within = (omega (arith, value_ahead e₁, value_ahead e₂, value_ahead e₃, value_ahead e), value_inside e);
        }

-- ---- four fields that a reader hands out, moved on behind each

module _ {file : List ℕ} {at : ℕ} {f₁ f₂ f₃ f₄ : Option Field} (h₁ : HandsOut file at f₁) (h₂ : HandsOut file (place_behind f₁ at) f₂)
    (h₃ : HandsOut file (place_behind f₂ (place_behind f₁ at)) f₃) (h₄ : HandsOut file (place_behind f₃ (place_behind f₂ (place_behind f₁ at))) f₄) where
  pub line_handed : Tells file at (line (drop at file)) (line_from f₁ f₂ f₃ f₄)
  unfolding line_from and_then
  line_handed =
      let v₁ = inner_Valued h₁ 1 max_radio (omega arith) in
      option_cases (inner_value 1 max_radio f₁) (λ k. rw k (line_none (rw k at v₁))) (λ radio k₁.
      let w₁ = rw k₁ at v₁ in
      let v₂ = inner_Valued (rw (inner_place 1 max_radio f₁ at k₁) at h₂) 0 max_metre (omega arith) in
      option_cases (inner_value 0 max_metre f₂) (λ k. rw (k₁, k) (line_none₂ w₁ (rw k at v₂))) (λ east k₂.
      let w₂ = rw k₂ at v₂ in
      let v₃ = inner_Valued (rw (inner_place 0 max_metre f₂ (place_behind f₁ at) k₂) at h₃) 0 max_metre (omega arith) in
      option_cases (inner_value 0 max_metre f₃) (λ k. rw (k₁, k₂, k) (line_none₃ w₁ w₂ (rw k at v₃))) (λ north k₃.
      let w₃ = rw k₃ at v₃ in
      let v₄ = last_Valued (rw (inner_place 0 max_metre f₃ (place_behind f₂ (place_behind f₁ at)) k₃) at h₄) max_minute (omega arith) in
      option_cases (last_value max_minute f₄) (λ k. rw (k₁, k₂, k₃, k) (line_none₄ w₁ w₂ w₃ (rw k at v₄))) (λ minute k₄.
      rw (k₁, k₂, k₃, k₄) (line_row w₁ w₂ w₃ (rw k₄ at v₄))))))
