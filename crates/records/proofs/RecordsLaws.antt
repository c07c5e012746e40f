-- Each check on a record's bytes, read off its fields one test at a time, and the first that fails.
use mathlib.Core.Bool.{Bool, true, false, not}
use mathlib.Core.List.{List}
use mathlib.Core.Logic.{◌≢◌, ◌⊎◌, inl, inr}
use Rattle.std.specs.Prelude.{Option, None, Some}
use mathlib.Core.Path.{◌≡◌, refl, sym, ap, ap₂, ◌∙◌, subst}
use Prim.Native.Nat.{ℕ, ◌+◌, ◌≤◌, ◌<◌}
use native.Mathlib.Omega.{arith}
use lib.Dec.{eqb, leb, ltb}
use lib.ListN.{length}
use borrow.Author.Tests.{lt-ltb, le-ltb, ltb-false, eq-eqb, ne_eqb, eqb-true, eqb-false}
use Rattle.terms.specs.Terms.{minute_bytes, max_radio, max_on}
use Rattle.lists.specs.Tests.{both, either}
use Rattle.lists.proofs.Cases.{by_cases, none-some, some_injective, false-true}
use Rattle.lists.proofs.TestsLaws.{both_second, either_left, either_right, either-false, not-false}
use Rattle.rules.specs.Records.{Request, sign_on, report, sign_off, range, length_field, kind_field, length_of, is_length, radio_field, place_field, minute_field, fix_field, rect_field, request_of, kind_sign_on, kind_report, kind_sign_off, kind_range, not_at_hand, unknown_kind, wrong_length, no_radio, no_fix, too_early, reversed, on_already, not_on, no_room, refusal}
use Rattle.rules.specs.Lengths.{InTable, sign_on_row, report_row, sign_off_row, range_row, no_row}
use Rattle.rules.specs.Grid.{Rect, is_reversed}
use Rattle.rules.proofs.LengthsLaws.{every_kind, in_table}
use Rattle.rules.proofs.RecordLaws.{passed}
use Rattle.desk.specs.Held.{On}
use Rattle.desk.specs.Views.{radios_of}
use Rattle.waiting.specs.On.{WholeOn}
use Rattle.waiting.proofs.OnLaws.{count_on_laid}
use Rattle.terms.specs.declared.Refusal.{Refusal}
use Rattle.terms.specs.declared.Refusal.TheVariants.{UnknownKind}
use Rattle.terms.specs.Refusals.{number_of}
use Rattle.terms.specs.declared.Place.{Place as HeldPlace}
use Rattle.terms.specs.Terms.{Fix}
use Rattle.terms.specs.Values.{place_of}
use Rattle.desk.specs.declared.Rectangle.{Rectangle}
use Rattle.desk.specs.Views.{rect_of}
use Rattle.records.specs.Kinds.{kind_number}
use Rattle.records.specs.declared.Kind.{Kind}
use Rattle.records.specs.declared.Kind.TheVariants.{SignOn, Report, SignOff, Range}
use Rattle.records.specs.Asked.{head_bytes, radio_end, place_end, rect_end, Whole, asks, fails, checked}

-- ---- lengths

-- a kind that has a length is one of the four, and its body has room before the minute
record Roomy (kind n : ℕ) : Type 0 where
  named : kind_sign_on ≤ kind
  known : kind ≤ kind_range
  radio : radio_end + minute_bytes ≤ n
  place : kind < kind_sign_off → place_end + minute_bytes ≤ n
  rect : kind ≡ kind_range → rect_end + minute_bytes ≤ n

row_Roomy : {kind : ℕ} {o : Option ℕ} (n : ℕ) → InTable kind o → o ≡ Some n → Roomy kind n
row_Roomy n sign_on_row e = let z = some_injective e in record { named = omega arith; known = omega arith; radio = omega arith; place = λ h. omega arith; rect = λ h. omega arith }
row_Roomy n report_row e = let z = some_injective e in record { named = omega arith; known = omega arith; radio = omega arith; place = λ h. omega arith; rect = λ h. omega arith }
row_Roomy n sign_off_row e = let z = some_injective e in record { named = omega arith; known = omega arith; radio = omega arith; place = λ h. omega arith; rect = λ h. omega arith }
row_Roomy n range_row e = let z = some_injective e in record { named = omega arith; known = omega arith; radio = omega arith; place = λ h. omega arith; rect = λ h. omega arith }
row_Roomy n (no_row kind g h i j) e = none-some e

roomy : (b : List ℕ) → Whole b → Roomy (kind_field b) (length_field b)
roomy b w = row_Roomy (length_field b) (every_kind (kind_field b)) w.long

is_length_lem : (o : Option ℕ) (n : ℕ) → is_length o n ≡ true → o ≡ Some n
is_length_lem None n e = false-true e
is_length_lem (Some m) n e = ap Some (sym (eqb-true n m e))

-- the length of each kind
pub sign_on_long : length_of kind_sign_on ≡ Some 14
sign_on_long = in_table sign_on_row

pub report_long : length_of kind_report ≡ Some 14
report_long = in_table report_row

pub sign_off_long : length_of kind_sign_off ≡ Some 10
sign_off_long = in_table sign_off_row

pub range_long : length_of kind_range ≡ Some 16
range_long = in_table range_row

pub other_long : (kind : ℕ) → kind ≢ 1 → kind ≢ 2 → kind ≢ 3 → kind ≢ 4 → length_of kind ≡ None
other_long kind g h i j = in_table (no_row kind g h i j)

-- ---- 3

module _ (b : List ℕ) where
  pub few_bytes : length b < head_bytes → true ≡ not_at_hand b
  unfolding not_at_hand
  few_bytes h = sym (either_left _ (lt-ltb (length b) 4 h))

  module _ {n : ℕ} (stated : n ≡ length_field b) where
    pub stated_below : n < head_bytes → ltb n 4 ≡ not_at_hand b
    unfolding not_at_hand
    stated_below h = lt-ltb n 4 h ∙ sym (either_right _ (either_left _ (lt-ltb (length_field b) 4 (omega (arith, stated)))))

    pub stated_above : head_bytes ≤ length b → head_bytes ≤ n → ltb (length b) n ≡ not_at_hand b
    unfolding not_at_hand either
    stated_above g h = rw (le-ltb (length b) 4 g, le-ltb (length_field b) 4 (omega (arith, stated))) (ap (ltb (length b)) stated)

-- ---- a record of its kind's length, by its kind

one_of_two : {k : Kind} (x y : Kind) (P : ℕ → Type 0) → (k ≡ x) ⊎ (k ≡ y) → P (kind_number x) → P (kind_number y) → P (kind_number k)
one_of_two x y P (inl e) p q = subst P (ap kind_number (sym e)) p
one_of_two x y P (inr e) p q = subst P (ap kind_number (sym e)) q

one_of_three : {k : Kind} (x y z : Kind) (P : ℕ → Type 0) → (k ≡ x) ⊎ ((k ≡ y) ⊎ (k ≡ z)) → P (kind_number x) → P (kind_number y) → P (kind_number z) → P (kind_number k)
one_of_three x y z P (inl e) p q r = subst P (ap kind_number (sym e)) p
one_of_three x y z P (inr e) p q r = one_of_two y z P e q r

module _ (b : List ℕ) (k : Kind) (kind : kind_field b ≡ kind_number k) where
  -- 6

  module _ {r : ℕ} (radio : r ≡ radio_field b) (named : (k ≡ SignOn) ⊎ ((k ≡ Report) ⊎ (k ≡ SignOff))) where
    with_radio : ltb (kind_field b) kind_range ≡ true
    with_radio = rw kind (one_of_three SignOn Report SignOff (λ n. ltb n kind_range ≡ true) named refl refl refl)

    pub radio_zero : r ≡ 0 → eqb r 0 ≡ no_radio b
    unfolding no_radio both either
    radio_zero e = rw (with_radio, sym radio, e) refl

    pub radio_above : r ≢ 0 → ltb max_radio r ≡ no_radio b
    unfolding no_radio both either
    radio_above n = rw (with_radio, sym radio, ne_eqb r 0 n) refl

  pub radio_range : k ≡ Range → false ≡ no_radio b
  unfolding no_radio both
  radio_range e = rw (kind, e) refl

  -- 12

  pub fix_other : (k ≡ SignOff) ⊎ (k ≡ Range) → false ≡ no_fix b
  unfolding no_fix both
  fix_other e = rw kind (one_of_two SignOff Range (λ n. false ≡ both (ltb n kind_sign_off) (both (eqb (place_field b).east 0) (eqb (place_field b).north 0))) e refl refl)

  module _ (p : HeldPlace) (place : place_of p ≡ place_field b) (placed : (k ≡ SignOn) ⊎ (k ≡ Report)) where
    with_place : ltb (kind_field b) kind_sign_off ≡ true
    with_place = rw kind (one_of_two SignOn Report (λ n. ltb n kind_sign_off ≡ true) placed refl refl)

    pub fix_east : p.east ≡ 0 → eqb p.north 0 ≡ no_fix b
    unfolding no_fix both
    fix_east e = rw (with_place, sym place, e) refl

    pub fix_west : p.east ≢ 0 → eqb p.east 0 ≡ no_fix b
    unfolding no_fix both
    fix_west n = rw (with_place, sym place, ne_eqb p.east 0 n) refl

  -- 7

  pub rect_other : (k ≡ SignOn) ⊎ ((k ≡ Report) ⊎ (k ≡ SignOff)) → false ≡ reversed b
  unfolding reversed both
  rect_other e = rw kind (one_of_three SignOn Report SignOff (λ n. false ≡ both (eqb n kind_range) (is_reversed (rect_field b))) e refl refl refl)

  module _ (area : Rectangle) (rect : rect_of area ≡ rect_field b) (ranged : k ≡ Range) where
    pub rect_east : area.east < area.west → ltb area.east area.west ≡ reversed b
    unfolding reversed both either
    rect_east l = rw (kind, ranged, sym rect, lt-ltb area.east area.west l) refl

    pub rect_north : area.west ≤ area.east → ltb area.north area.south ≡ reversed b
    unfolding reversed both either
    rect_north l = rw (kind, ranged, sym rect, le-ltb area.east area.west l) refl

  module _ (on : ℕ → Bool) where
    -- 8

    pub already_other : (k ≡ Report) ⊎ ((k ≡ SignOff) ⊎ (k ≡ Range)) → false ≡ on_already on b
    unfolding on_already both
    already_other e = rw kind (one_of_three Report SignOff Range (λ n. false ≡ both (eqb n kind_sign_on) (on (radio_field b))) e refl refl refl)

    pub already_on : {r : ℕ} {t : Bool} → k ≡ SignOn → r ≡ radio_field b → t ≡ on r → t ≡ on_already on b
    unfolding on_already both
    already_on h radio e = rw (kind, h) (e ∙ ap on radio)

    -- 9

    pub not_on_named : {r : ℕ} (t : Bool) → (k ≡ Report) ⊎ (k ≡ SignOff) → r ≡ radio_field b → t ≡ on r → not t ≡ not_on on b
    unfolding not_on both either
    not_on_named t h radio e =
        rw kind (one_of_two Report SignOff (λ n. not t ≡ both (either (eqb n kind_report) (eqb n kind_sign_off)) (not (on (radio_field b)))) h (ap not (e ∙ ap on radio)) (ap not (e ∙ ap on radio)))

    pub not_on_other : (k ≡ SignOn) ⊎ (k ≡ Range) → false ≡ not_on on b
    unfolding not_on both either
    not_on_other h = rw kind (one_of_two SignOn Range (λ n. false ≡ both (either (eqb n kind_report) (eqb n kind_sign_off)) (not (on (radio_field b)))) h refl refl)

  -- 10

  pub room_other : (many : ℕ) → (k ≡ Report) ⊎ ((k ≡ SignOff) ⊎ (k ≡ Range)) → false ≡ no_room many b
  unfolding no_room both
  room_other many e = rw kind (one_of_three Report SignOff Range (λ n. false ≡ both (eqb n kind_sign_on) (leb max_on many)) e refl refl refl)

  pub room_full : (many : ℕ) → k ≡ SignOn → leb max_on many ≡ no_room many b
  unfolding no_room both
  room_full many e = rw (kind, e) refl

  -- what is asked

  module _ (w : Whole b) where
    pub place_there : k ≡ SignOn → place_end ≤ length b
    place_there e = omega (arith, (roomy b w).place (rw (kind, e) (omega arith)), w.there)

    pub place_reported : k ≡ Report → place_end ≤ length b
    place_reported e = omega (arith, (roomy b w).place (rw (kind, e) (omega arith)), w.there)

    pub place_told : (k ≡ SignOn) ⊎ (k ≡ Report) → place_end ≤ length b
    place_told (inl e) = place_there e
    place_told (inr e) = place_reported e

    pub rect_there : k ≡ Range → rect_end ≤ length b
    rect_there e = omega (arith, (roomy b w).rect (kind ∙ ap kind_number e), w.there)

  pub asked_on : {r : ℕ} {f : Fix} → k ≡ SignOn → r ≡ radio_field b → f ≡ fix_field b → sign_on r f ≡ request_of b
  unfolding request_of
  asked_on h radio fix = rw (kind, h) (ap₂ sign_on radio fix)

  pub asked_report : {r : ℕ} {f : Fix} → k ≡ Report → r ≡ radio_field b → f ≡ fix_field b → report r f ≡ request_of b
  unfolding request_of
  asked_report h radio fix = rw (kind, h) (ap₂ report radio fix)

  pub asked_off : {r m : ℕ} → k ≡ SignOff → r ≡ radio_field b → m ≡ minute_field b → sign_off r m ≡ request_of b
  unfolding request_of
  asked_off h radio minute = rw (kind, h) (ap₂ sign_off radio minute)

  pub asked_range : {a : Rect} {m : ℕ} → k ≡ Range → a ≡ rect_field b → m ≡ minute_field b → range a m ≡ request_of b
  unfolding request_of
  asked_range h rect minute = rw (kind, h) (ap₂ range rect minute)

-- ---- the minute

module _ (b : List ℕ) (w : Whole b) where
  pub minute_inside : {n : ℕ} → n ≡ length_field b → minute_bytes ≤ n
  minute_inside stated = omega (arith, stated, (roomy b w).radio)

  pub early_told : (highest : ℕ) {m : ℕ} → m ≡ minute_field b → ltb m highest ≡ too_early highest b
  unfolding too_early
  early_told highest e = ap (λ (x : ℕ). ltb x highest) e

-- ---- what is at hand once the first checks pass

module _ (b : List ℕ) (p₃ : not_at_hand b ≡ false) where
  at_hand : (head_bytes ≤ length b) × (length_field b ≤ length b)
  unfolding not_at_hand
  at_hand =
      let u = either-false _ _ p₃ in
      let v = either-false _ _ u.1 in
      (ltb-false (length b) 4 u.0, ltb-false (length b) (length_field b) v.1)

  whole : length_of (kind_field b) ≡ Some (length_field b) → Whole b
  whole long = record { long = long; there = at_hand.1; least = omega (arith, (row_Roomy (length_field b) (every_kind (kind_field b)) long).radio, at_hand) }

module _ (b : List ℕ) where
  length_right : wrong_length b ≡ false → length_of (kind_field b) ≡ Some (length_field b)
  unfolding wrong_length
  length_right long = is_length_lem (length_of (kind_field b)) (length_field b) (not-false _ long)

-- ---- every check passed

-- each edge of a range is in its order
abbrev pub Ordered : Request → Type 0
Ordered (sign_on r f) = Unit {0}
Ordered (report r f) = Unit {0}
Ordered (sign_off r minute) = Unit {0}
Ordered (range rect minute) = (rect.easts.low ≤ rect.easts.high) × (rect.norths.low ≤ rect.norths.high)

module _ (highest : ℕ) (on : ℕ → Bool) (many : ℕ) (b : List ℕ) (zero : refusal highest on many b ≡ 0) where
  passed_Whole : Whole b
  passed_Whole = let p = passed highest on many b zero in whole b p.at_hand (length_right b p.long)

  -- "west above east or south above north" is no range's edges
  pub ordered : Ordered (request_of b)
  unfolding request_of reversed
  ordered =
      by_cases (eqb (kind_field b) kind_sign_on)
      (λ t. rw t tt)
      (λ t. by_cases (eqb (kind_field b) kind_report)
      (λ u. rw (t, u) tt)
      (λ u. by_cases (eqb (kind_field b) kind_sign_off)
      (λ v. rw (t, u, v) tt)
      (λ v. let l = eqb-false (kind_field b) kind_sign_on t in
      let m = eqb-false (kind_field b) kind_report u in
      let n = eqb-false (kind_field b) kind_sign_off v in
      let w = roomy b passed_Whole in
      let e = either-false _ _ (both_second _ _ (eq-eqb (kind_field b) kind_range (omega (arith, l, m, n, w.named, w.known))) (passed highest on many b zero).edges) in
      rw (t, u, v) (ltb-false (rect_field b).easts.high (rect_field b).easts.low e.0, ltb-false (rect_field b).norths.high (rect_field b).norths.low e.1))))

pub head_there : (b : List ℕ) {t : Bool} → t ≡ not_at_hand b → t ≡ false → head_bytes ≤ length b
head_there b e p = (at_hand b (sym e ∙ p)).0

-- ---- the first check that fails

module _ (highest : ℕ) (on : ℕ → Bool) (many : ℕ) (b : List ℕ) (q : Request) {t₃ : Bool} (e₃ : t₃ ≡ not_at_hand b) where
  pub told_3 : t₃ ≡ true → fails 3 ≡ checked (refusal highest on many b) q
  unfolding refusal checked
  told_3 f = rw (sym e₃ ∙ f) refl

  module _ (p₃ : t₃ ≡ false) {number : ℕ} (kind : number ≡ kind_field b) where
    pub told_4 : {e : Refusal} → (e ≡ UnknownKind) × (length_of number ≡ None) → fails (number_of e) ≡ checked (refusal highest on many b) q
    unfolding refusal checked unknown_kind
    told_4 f = rw (f.0, sym e₃ ∙ p₃, sym kind, f.1) refl

    module _ (k : Kind) (named : kind_number k ≡ number) {n : ℕ} (long : length_of (kind_number k) ≡ Some n) {stated : ℕ} (length : stated ≡ length_field b) where
      given : length_of (kind_field b) ≡ Some n
      given = ap length_of (sym (named ∙ kind)) ∙ long

      pub told_5 : stated ≢ n → fails 5 ≡ checked (refusal highest on many b) q
      unfolding refusal checked unknown_kind wrong_length
      told_5 f = rw (sym e₃ ∙ p₃, given, sym length, ne_eqb stated n f) refl

-- the lengths stated and of the kind are one
pub laid : (b : List ℕ) {t : Bool} → t ≡ not_at_hand b → t ≡ false → {number : ℕ} → number ≡ kind_field b → (k : Kind) → kind_number k ≡ number
    → {n : ℕ} → length_of (kind_number k) ≡ Some n → {stated : ℕ} → stated ≡ length_field b → stated ≡ n → Whole b
laid b e p kind k named long length same = whole b (sym e ∙ p) (ap length_of (sym (named ∙ kind)) ∙ long ∙ ap Some (sym same ∙ length))

pub count_on : (o : On) → WholeOn o → o.n ≡ length (radios_of o)
count_on o w = count_on_laid o (radios_of o) w

-- a record of its kind's length passes checks 3 to 5
module _ (highest : ℕ) (on : ℕ → Bool) (many : ℕ) (b : List ℕ) (q : Request) (w : Whole b) where
  passed_3 : not_at_hand b ≡ false
  unfolding not_at_hand either
  passed_3 = rw (le-ltb (length b) 4 (omega (arith, w.least)), le-ltb (length_field b) 4 (omega (arith, (roomy b w).radio)), le-ltb (length b) (length_field b) w.there) refl

  passed_4 : unknown_kind b ≡ false
  unfolding unknown_kind
  passed_4 = rw w.long refl

  passed_5 : wrong_length b ≡ false
  unfolding wrong_length
  passed_5 = rw (w.long, eq-eqb (length_field b) (length_field b) refl) refl

  module _ {t₆ : Bool} (e₆ : t₆ ≡ no_radio b) where
    pub told_6 : t₆ ≡ true → fails 6 ≡ checked (refusal highest on many b) q
    unfolding refusal checked
    told_6 f = rw (passed_3, passed_4, passed_5, sym e₆ ∙ f) refl

    module _ (p₆ : t₆ ≡ false) {t₁₂ : Bool} (e₁₂ : t₁₂ ≡ no_fix b) where
      pub told_12 : t₁₂ ≡ true → fails 12 ≡ checked (refusal highest on many b) q
      unfolding refusal checked
      told_12 f = rw (passed_3, passed_4, passed_5, sym e₆ ∙ p₆, sym e₁₂ ∙ f) refl

      module _ (p₁₂ : t₁₂ ≡ false) {t₁₃ : Bool} (e₁₃ : t₁₃ ≡ too_early highest b) where
        pub told_13 : t₁₃ ≡ true → fails 13 ≡ checked (refusal highest on many b) q
        unfolding refusal checked
        told_13 f = rw (passed_3, passed_4, passed_5, sym e₆ ∙ p₆, sym e₁₂ ∙ p₁₂, sym e₁₃ ∙ f) refl

        module _ (p₁₃ : t₁₃ ≡ false) {t₇ : Bool} (e₇ : t₇ ≡ reversed b) where
          pub told_7 : t₇ ≡ true → fails 7 ≡ checked (refusal highest on many b) q
          unfolding refusal checked
          told_7 f = rw (passed_3, passed_4, passed_5, sym e₆ ∙ p₆, sym e₁₂ ∙ p₁₂, sym e₁₃ ∙ p₁₃, sym e₇ ∙ f) refl

          module _ (p₇ : t₇ ≡ false) {t₈ : Bool} (e₈ : t₈ ≡ on_already on b) where
            pub told_8 : t₈ ≡ true → fails 8 ≡ checked (refusal highest on many b) q
            unfolding refusal checked
            told_8 f = rw (passed_3, passed_4, passed_5, sym e₆ ∙ p₆, sym e₁₂ ∙ p₁₂, sym e₁₃ ∙ p₁₃, sym e₇ ∙ p₇, sym e₈ ∙ f) refl

            module _ (p₈ : t₈ ≡ false) {t₉ : Bool} (e₉ : t₉ ≡ not_on on b) where
              pub told_9 : t₉ ≡ true → fails 9 ≡ checked (refusal highest on many b) q
              unfolding refusal checked
              told_9 f = rw (passed_3, passed_4, passed_5, sym e₆ ∙ p₆, sym e₁₂ ∙ p₁₂, sym e₁₃ ∙ p₁₃, sym e₇ ∙ p₇, sym e₈ ∙ p₈, sym e₉ ∙ f) refl

              module _ (p₉ : t₉ ≡ false) {m : ℕ} (count : m ≡ many) {t₁₀ : Bool} (e₁₀ : t₁₀ ≡ no_room m b) where
                pub told_10 : t₁₀ ≡ true → fails 10 ≡ checked (refusal highest on many b) q
                unfolding refusal checked
                told_10 f = rw (passed_3, passed_4, passed_5, sym e₆ ∙ p₆, sym e₁₂ ∙ p₁₂, sym e₁₃ ∙ p₁₃, sym e₇ ∙ p₇, sym e₈ ∙ p₈, sym e₉ ∙ p₉, sym count, sym e₁₀ ∙ f) refl

                pub told_none : {p : Request} → t₁₀ ≡ false → p ≡ q → asks p ≡ checked (refusal highest on many b) q
                unfolding refusal checked
                told_none f e = rw (passed_3, passed_4, passed_5, sym e₆ ∙ p₆, sym e₁₂ ∙ p₁₂, sym e₁₃ ∙ p₁₃, sym e₇ ∙ p₇, sym e₈ ∙ p₈, sym e₉ ∙ p₉, sym count, sym e₁₀ ∙ f) (ap asks e)
