-- The record of a line (02, Job 6): its fields are the line's, and which checks it can fail.
use mathlib.Core.Bool.{Bool, false}
use mathlib.Core.List.{List, [], ◌∷◌}
use mathlib.Core.Path.{◌≡◌, refl}
use Prim.Native.Nat.{ℕ, zero, suc, ◌+◌, ◌*◌, ◌/◌, ◌%◌, ◌<◌, ◌≤◌}
use native.Mathlib.Omega.{arith}
use lib.Dec.{eqb, leb}
use lib.ListN.{length}
use borrow.Author.Tests.{le-ltb, ne_eqb}
use Rattle.terms.specs.Terms.{Fix, max_radio, max_on}
use Rattle.lists.specs.Rows.{Row}
use Rattle.lists.specs.Tests.{both, either, Each}
use Rattle.lists.specs.Words.{le, word, Bytes}
use Rattle.csv_grammar.specs.Csv.{Fits}
use Rattle.rules.specs.Records.{length_field, kind_field, radio_field, place_field, minute_field, fix_field, sign_on, request_of, length_of, not_at_hand, unknown_kind, wrong_length, no_radio, no_fix, too_early, reversed, on_already, not_on, no_room, refusal}
use Rattle.spreadsheet.specs.Read.{sign_on_of}
use Rattle.csv_order.specs.Checks.{stop_of}

module _ (x : Row Fix) where
  -- ---- its fields
  pub length-sign_on_of : length (sign_on_of x) ≡ 14
  unfolding sign_on_of le
  length-sign_on_of = refl

  pub sign_on_length : length_field (sign_on_of x) ≡ 14
  unfolding sign_on_of le length_field word
  sign_on_length = refl

  pub sign_on_kind : kind_field (sign_on_of x) ≡ 1
  unfolding sign_on_of le kind_field word
  sign_on_kind = refl

  pub sign_on_radio : radio_field (sign_on_of x) ≡ x.key
  unfolding sign_on_of le radio_field word
  sign_on_radio = omega arith

  pub sign_on_place : place_field (sign_on_of x) ≡ x.val.place
  unfolding sign_on_of le place_field word
  sign_on_place =
      let e : x.val.place.east % 256 + 256 * (x.val.place.east / 256 + 256 * 0) ≡ x.val.place.east = omega arith in
      let n : x.val.place.north % 256 + 256 * (x.val.place.north / 256 + 256 * 0) ≡ x.val.place.north = omega arith in
      λ i. record { east = e i; north = n i }

  pub sign_on_minute : minute_field (sign_on_of x) ≡ x.val.minute
  unfolding sign_on_of le minute_field length_field word
  sign_on_minute = omega arith

  pub sign_on_fix : fix_field (sign_on_of x) ≡ x.val
  unfolding fix_field
  sign_on_fix = λ i. record { place = sign_on_place i; minute = sign_on_minute i }

  pub sign_on_request : request_of (sign_on_of x) ≡ sign_on x.key x.val
  unfolding request_of
  sign_on_request = rw (sign_on_kind, sign_on_radio, sign_on_fix)

  -- ---- its checks
  module _ (fits : Fits x) (highest : ℕ) (on : ℕ → Bool) (how_many line : ℕ) where
    at_hand : not_at_hand (sign_on_of x) ≡ false
    unfolding sign_on_of le length_field word not_at_hand either
    at_hand = refl

    known : unknown_kind (sign_on_of x) ≡ false
    unfolding sign_on_of le kind_field word unknown_kind length_of
    known = refl

    long : wrong_length (sign_on_of x) ≡ false
    unfolding sign_on_of le kind_field length_field word wrong_length length_of
    long = refl

    radio : no_radio (sign_on_of x) ≡ false
    unfolding no_radio both either
    radio = rw (sign_on_kind, sign_on_radio, ne_eqb x.key 0 (omega (arith, fits.radio_least)), le-ltb max_radio x.key fits.radio)

    no_fix_lem : no_fix (sign_on_of x) ≡ both (eqb x.val.place.east 0) (eqb x.val.place.north 0)
    unfolding no_fix both
    no_fix_lem = rw (sign_on_kind, sign_on_place)

    upright : reversed (sign_on_of x) ≡ false
    unfolding reversed both
    upright = rw sign_on_kind

    on_already_lem : on_already on (sign_on_of x) ≡ on x.key
    unfolding on_already both
    on_already_lem = rw (sign_on_kind, sign_on_radio)

    not_off : not_on on (sign_on_of x) ≡ false
    unfolding not_on both either
    not_off = rw sign_on_kind

    room : no_room how_many (sign_on_of x) ≡ leb max_on how_many
    unfolding no_room both
    room = rw sign_on_kind

    late : highest ≤ x.val.minute → too_early highest (sign_on_of x) ≡ false
    unfolding too_early
    late h = rw sign_on_minute (le-ltb x.val.minute highest h)

    -- 12, 8 and 10 alone can stop it
    pub refusal_sign_on : highest ≤ x.val.minute → refusal highest on how_many (sign_on_of x) ≡ stop_of on how_many (record { line = line; row = x })
    unfolding refusal stop_of
    refusal_sign_on h = rw (at_hand, known, long, radio, no_fix_lem, late h, upright, on_already_lem, not_off, room) refl

-- ---- its bytes

Bytes-Each : (l : List ℕ) → Each (λ b. b < 256) l → Bytes l
Bytes-Each [] h i = omega arith
Bytes-Each (b ∷ l) h zero = h.0
Bytes-Each (b ∷ l) h (suc i) = Bytes-Each l h.1 i

pub sign_on_Bytes : (x : Row Fix) → Fits x → Bytes (sign_on_of x)
unfolding sign_on_of le
sign_on_Bytes x f = Bytes-Each (sign_on_of x) (
  omega arith,
  (
    omega arith,
    (
      omega arith,
      (
        omega arith,
        (
          omega arith,
          (
            omega (arith, f.radio),
            (
              omega arith,
              (
                omega (arith, f.east),
                (omega arith, (omega (arith, f.north), (omega arith, (omega arith, (omega arith, (omega (arith, f.minute), tt)))))),
              ),
            ),
          ),
        ),
      ),
    ),
  ),
)
