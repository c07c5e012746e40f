-- What a record that passes the checks asks, and what its own effect does to who is on and to what waits.
use mathlib.Core.Bool.{Bool, true, false, cond}
use mathlib.Core.List.{List}
use Rattle.std.specs.Prelude.{Option, None, Some}
use mathlib.Core.Path.{◌≡◌, refl, ◌∙◌}
use Prim.Native.Nat.{ℕ, ◌≤◌, ◌<◌}
use native.Mathlib.Omega.{arith}
use lib.Dec.{eqb}
use lib.ListN.{length}
use borrow.Author.Tests.{lt-ltb, ltb-false, leb-false, eqb-true, eqb-false, not-false}
use Rattle.terms.specs.Terms.{Fix, max_radio, max_on}
use Rattle.lists.specs.Rows.{Rows, find, alter, insert}
use Rattle.lists.specs.Tests.{is_some}
use Rattle.lists.specs.Words.{Bytes}
use Rattle.lists.proofs.Cases.{by_cases}
use Rattle.lists.proofs.RowsLaws.{Rising-alter, length-alter, length-alter-le, UpTo-alter, find-alter_cases}
use Rattle.lists.proofs.TestsLaws.{either_left, either_right, either-false, both_second}
use Rattle.lists.proofs.WordsLaws.{word_small}
use Rattle.rules.specs.Grid.{Rect}
use Rattle.rules.specs.Store.{Report}
use Rattle.rules.specs.Records.{Request, sign_on, report, sign_off, range, request_of, kind_field, radio_field, place_field, minute_field, fix_field, rect_field, kind_sign_on, kind_report, kind_sign_off, kind_range, not_at_hand, unknown_kind, wrong_length, no_radio, no_fix, too_early, reversed, on_already, not_on, no_room, refusal}
use Rattle.rules.specs.WellFormed.{InSquare}
use Rattle.rules.specs.Parts.{Signed, Waits}

-- ---- the checks passed

-- what an accepted record asks, with what the checks showed of it
pub data Accepted (highest : ℕ) (on : ℕ → Bool) (how_many : ℕ) : Request → Type 0 where
  on_passed : (r : ℕ) (f : Fix) → 1 ≤ r → r ≤ max_radio → InSquare f.place → on r ≡ false → how_many < max_on → highest ≤ f.minute → Accepted highest on how_many (sign_on r f)
  report_passed : (r : ℕ) (f : Fix) → 1 ≤ r → r ≤ max_radio → InSquare f.place → on r ≡ true → highest ≤ f.minute → Accepted highest on how_many (report r f)
  off_passed : (r minute : ℕ) → 1 ≤ r → r ≤ max_radio → on r ≡ true → highest ≤ minute → Accepted highest on how_many (sign_off r minute)
  range_passed : (rect : Rect) (minute : ℕ) → Accepted highest on how_many (range rect minute)

-- the first of the checks passed, and so did the rest
first_passed : (t : Bool) {n m : ℕ} → 0 < n → cond t n m ≡ 0 → (t ≡ false) × (m ≡ 0)
first_passed true h e = absurd (omega arith)
first_passed false h e = (refl, e)

place_small : (b : List ℕ) → Bytes b → InSquare (fix_field b).place
unfolding place_field fix_field
place_small b small = (let h = word_small b 6 small in omega arith, let h = word_small b 8 small in omega arith)

-- a record that is carried out fails none of them
pub record Passed (highest : ℕ) (on : ℕ → Bool) (how_many : ℕ) (b : List ℕ) : Type 0 where
  pub at_hand : not_at_hand b ≡ false
  pub kind : unknown_kind b ≡ false
  pub long : wrong_length b ≡ false
  pub radio : no_radio b ≡ false
  pub fix : no_fix b ≡ false
  pub late : too_early highest b ≡ false
  pub edges : reversed b ≡ false
  pub was_off : on_already on b ≡ false
  pub was_on : not_on on b ≡ false
  pub room : no_room how_many b ≡ false

pub passed : (highest : ℕ) (on : ℕ → Bool) (how_many : ℕ) (b : List ℕ) → refusal highest on how_many b ≡ 0 → Passed highest on how_many b
unfolding refusal
passed highest on how_many b zero =
    let t₃ = first_passed (not_at_hand b) (omega arith) zero in
    let t₄ = first_passed (unknown_kind b) (omega arith) t₃.1 in
    let t₅ = first_passed (wrong_length b) (omega arith) t₄.1 in
    let t₆ = first_passed (no_radio b) (omega arith) t₅.1 in
    let t₁₂ = first_passed (no_fix b) (omega arith) t₆.1 in
    let t₁₃ = first_passed (too_early highest b) (omega arith) t₁₂.1 in
    let t₇ = first_passed (reversed b) (omega arith) t₁₃.1 in
    let t₈ = first_passed (on_already on b) (omega arith) t₇.1 in
    let t₉ = first_passed (not_on on b) (omega arith) t₈.1 in
    let t₁₀ = first_passed (no_room how_many b) (omega arith) t₉.1 in
    record {
      at_hand = t₃.0;
      kind = t₄.0;
      long = t₅.0;
      radio = t₆.0;
      fix = t₁₂.0;
      late = t₁₃.0;
      edges = t₇.0;
      was_off = t₈.0;
      was_on = t₉.0;
      room = t₁₀.0;
    }

module _ (highest : ℕ) (on : ℕ → Bool) (how_many : ℕ) (b : List ℕ) (small : Bytes b) where
  radio_small : kind_field b < kind_range → no_radio b ≡ false → (1 ≤ radio_field b) × (radio_field b ≤ max_radio)
  unfolding no_radio
  radio_small h e =
      let t = either-false _ _ (both_second _ _ (lt-ltb (kind_field b) kind_range h) e) in
      (let u = eqb-false (radio_field b) 0 t.0 in omega (arith, u), ltb-false max_radio (radio_field b) t.1)

  pub accepted : refusal highest on how_many b ≡ 0 → Accepted highest on how_many (request_of b)
  unfolding request_of fix_field on_already not_on no_room too_early
  accepted e =
      let t = passed highest on how_many b e in
      let late = ltb-false (minute_field b) highest t.late in
      by_cases (eqb (kind_field b) kind_sign_on)
      (λ k. let z = eqb-true (kind_field b) kind_sign_on k in
      let r = radio_small (omega arith) t.radio in
      rw k (on_passed (radio_field b) (fix_field b) r.0 r.1 (place_small b small) (both_second _ _ k t.was_off) (leb-false max_on how_many (both_second _ _ k t.room)) late))
      (λ k. by_cases (eqb (kind_field b) kind_report)
      (λ l. let z = eqb-true (kind_field b) kind_report l in
      let r = radio_small (omega arith) t.radio in
      rw (k, l) (report_passed (radio_field b) (fix_field b) r.0 r.1 (place_small b small) (not-false _ (both_second _ _ (either_left _ l) t.was_on)) late))
      (λ l. by_cases (eqb (kind_field b) kind_sign_off)
      (λ m. let z = eqb-true (kind_field b) kind_sign_off m in
      let r = radio_small (omega arith) t.radio in
      rw (k, l, m) (off_passed (radio_field b) (minute_field b) r.0 r.1 (not-false _ (both_second _ _ (either_right _ m) t.was_on)) late))
      (λ m. rw (k, l, m) (range_passed (rect_field b) (minute_field b)))))

-- ---- who is on

pub signed_on_lem : (r : ℕ) (on : Rows (Unit {0})) → 1 ≤ r → r ≤ max_radio → length on < max_on → Signed on → Signed (insert r tt on)
signed_on_lem r on h k few s = record {
  few_on = let t = length-alter-le (λ _. Some tt) 0 r on h s.rising_on in omega arith;
  radios_on = UpTo-alter (λ _. Some tt) max_radio r on k s.radios_on;
  rising_on = Rising-alter (λ _. Some tt) 0 r on h s.rising_on;
}

pub signed_off_lem : (r : ℕ) (on : Rows (Unit {0})) → 1 ≤ r → r ≤ max_radio → Signed on → Signed (alter (λ _. None) r on)
signed_off_lem r on h k s = record {
  few_on = let t = length-alter (λ _. None) 0 r on h s.rising_on in let f = s.few_on in omega arith;
  radios_on = UpTo-alter (λ _. None) max_radio r on k s.radios_on;
  rising_on = Rising-alter (λ _. None) 0 r on h s.rising_on;
}

-- ---- what waits: one report put, or taken

module _ (waiting : Rows Report) (on : Rows (Unit {0})) (s : Waits waiting on) (r : ℕ) (h : 1 ≤ r) (k : r ≤ max_radio) (f : Option Report → Option Report) where
  -- the new report's place is in the square, and it is marked or its radio on; every other radio is on as before
  pub Waits-alter : (on' : Rows (Unit {0})) → ((w : Report) → f (find waiting r) ≡ Some w → InSquare w.fix.place)
      → ((w : Report) → f (find waiting r) ≡ Some w → w.new ≡ false → is_some (find on' r) ≡ true)
      → ((q : ℕ) → (q ≡ r → ⊥) → is_some (find on' q) ≡ is_some (find on q))
      → Waits (alter f r waiting) on'
  Waits-alter on' placed marked kept = record {
    waiting_rises = Rising-alter f 0 r waiting h s.waiting_rises;
    waiting_radios = UpTo-alter f max_radio r waiting k s.waiting_radios;
    waiting_placed = λ q w e. find-alter_cases f 0 r q w waiting h s.waiting_rises e (λ z g. placed w g) (λ z g. s.waiting_placed q w g);
    unmarked = λ q w e u. find-alter_cases f 0 r q w waiting h s.waiting_rises e (λ z g. rw z (marked w g u)) (λ z g. kept q z ∙ s.unmarked q w g u);
  }
