-- What a call makes of the members of the watches (02, Job 5): they follow from the latest places, so all is in what becomes of these.
use mathlib.Core.Bool.{Bool, true, false, not, cond}
use mathlib.Core.List.{List, [], ◌∷◌}
use Rattle.std.specs.Prelude.{Option, None, Some}
use mathlib.Core.Path.{◌≡◌, refl, sym, ap, ◌∙◌, fun_ext}
use Prim.Native.Nat.{ℕ, zero, suc}
use native.Mathlib.Omega.{arith}
use lib.Dec.{eqb}
use lib.ListN.{set, length-set}
use borrow.Author.Tests.{eq-eqb}
use Rattle.terms.specs.Terms.{Place, Fix}
use Rattle.lists.specs.Rows.{find}
use Rattle.lists.specs.Tests.{one_if, both, is_some, or_else, Each}
use Rattle.lists.specs.Words.{Bytes}
use Rattle.lists.proofs.BitsLaws.{bits_same, bits_none}
use Rattle.lists.proofs.Cases.{by_cases, option_cases, none-some, some_injective}
use Rattle.rules.specs.Store.{Report, Store}
use Rattle.rules.specs.Records.{Request, sign_on, report, sign_off, range, request_of, refusal, kind_field, kind_sign_on, kind_report, kind_sign_off, radio_field}
use Rattle.rules.specs.Carry.{is_on, on_count, was_new, fix_of, stored_in, latest, carry}
use Rattle.rules.specs.Plain.{put_at, place_of}
use Rattle.rules.specs.WellFormed.{WellFormed}
use Rattle.rules.specs.Watches.{max_watches, Watch, watch_at, is_member, latest_place, gained, NotReversed, RightWatches}
use Rattle.rules.proofs.LiveLaws.{stored_none, stored_live}
use Rattle.rules.proofs.LatestLaws.{latest_by, step_latest}

-- ---- the radios with a latest place are those that are on

pub latest_on : (s : Store) → WellFormed s → (r : ℕ) → is_some (latest s r) ≡ is_on s r
unfolding latest
latest_on s w r = option_cases (find s.waiting r) unwaited waited
  where
    unwaited : find s.waiting r ≡ None → is_some (or_else (fix_of (find s.waiting r)) (stored_in s.memo r s.cells)) ≡ is_on s r
    unwaited e =
        let unmarked = ap one_if (ap was_new e) in
        rw e (option_cases (stored_in s.memo r s.cells)
        (λ u. rw u (by_cases (is_on s r) (λ t. absurd (omega (arith, w.present r, ap one_if t, unmarked, stored_live s.memo r s.cells u))) sym))
        (λ f u. rw u (by_cases (is_on s r) sym (λ t. none-some (sym (stored_none s.memo r s.cells (omega (arith, w.present r, ap one_if t, unmarked))) ∙ u)))))

    waited : (x : Report) → find s.waiting r ≡ Some x → is_some (or_else (fix_of (find s.waiting r)) (stored_in s.memo r s.cells)) ≡ is_on s r
    waited x e =
        rw e (by_cases x.new
        (λ n. by_cases (is_on s r) sym (λ t. absurd (omega (arith, w.present r, ap one_if t, ap one_if (ap was_new e ∙ n)))))
        (λ n. sym (w.unmarked r x e n)))

-- ---- the latest places after a record

-- the radio that a request names
abbrev pub named : Request → Option ℕ
named (sign_on r f) = Some r
named (report r f) = Some r
named (sign_off r minute) = Some r
named (range rect minute) = None

pub names_radio : (b : List ℕ) (r : ℕ) → named (request_of b) ≡ Some r → radio_field b ≡ r
unfolding request_of
names_radio b r e =
    by_cases (eqb (kind_field b) kind_sign_on) (λ t. some_injective (rw t at e)) (λ t. let e₁ = rw t at e in
    by_cases (eqb (kind_field b) kind_report) (λ u. some_injective (rw u at e₁)) (λ u. let e₂ = rw u at e₁ in
    by_cases (eqb (kind_field b) kind_sign_off) (λ v. some_injective (rw v at e₂)) (λ v. none-some (rw v at e₂))))

-- the place that it gives the radio
abbrev pub given : Request → Option Place
given (sign_on r f) = Some f.place
given (report r f) = Some f.place
given (sign_off r minute) = None
given (range rect minute) = None

placed_cond : (b : Bool) (x y : Option Fix) → place_of (cond b x y) ≡ cond b (place_of x) (place_of y)
placed_cond true x y = refl
placed_cond false x y = refl

latest_given : (q : Request) (r : ℕ) → named q ≡ Some r → (before : ℕ → Option Fix) (p : ℕ) → place_of (latest_by q before p) ≡ put_at r (given q) (λ x. place_of (before x)) p
unfolding latest_by
latest_given (sign_on k f) r e before p = placed_cond (eqb p k) (Some f) (before p) ∙ ap (λ (x : ℕ). cond (eqb p x) (Some f.place) (place_of (before p))) (some_injective e)
latest_given (report k f) r e before p = placed_cond (eqb p k) (Some f) (before p) ∙ ap (λ (x : ℕ). cond (eqb p x) (Some f.place) (place_of (before p))) (some_injective e)
latest_given (sign_off k minute) r e before p = placed_cond (eqb p k) None (before p) ∙ ap (λ (x : ℕ). cond (eqb p x) None (place_of (before p))) (some_injective e)
latest_given (range rect minute) r e before p = none-some e

module _ (s : Store) (bytes buffer : List ℕ) (small : Bytes bytes) (w : WellFormed s) where
  -- an accepted sign-on, report or sign-off gives its own radio its place, or takes it
  pub record_moves : refusal s.highest (is_on s) (on_count s) bytes ≡ 0 → (r : ℕ) → named (request_of bytes) ≡ Some r
      → latest_place (carry s bytes buffer).store ≡ put_at r (given (request_of bytes)) (latest_place s)
  record_moves e r n = fun_ext (λ p.
      ap place_of (step_latest s bytes buffer small w p ∙ ap (λ (t : Bool). cond t (latest_by (request_of bytes) (latest s) p) (latest s p)) (eq-eqb (refusal s.highest (is_on s) (on_count s) bytes) 0 e))
      ∙ latest_given (request_of bytes) r n (latest s) p)

-- ---- no watch gains or loses a radio that stays where it is

never_both : (b : Bool) → both (not b) b ≡ false
unfolding both
never_both true = refl
never_both false = refl

pub none_gained : (l : List Watch) (p : Option Place) → gained l p p ≡ 0
unfolding gained
none_gained l p = bits_same max_watches _ (λ w. false) (λ w h. never_both (is_member (watch_at l w) p)) ∙ bits_none max_watches

-- ---- a watch that is set or cleared

NotReversed-set : (l : List Watch) (w : ℕ) (x : Watch) → NotReversed x → Each NotReversed l → Each NotReversed (set l w x)
NotReversed-set [] w x h e = tt
NotReversed-set (y ∷ l) zero x h e = (h, e.1)
NotReversed-set (y ∷ l) (suc w) x h e = (e.0, NotReversed-set l w x h e.1)

pub right_set : (l : List Watch) (w : ℕ) (x : Watch) → NotReversed x → RightWatches l → RightWatches (set l w x)
right_set l w x h r = record { sixteen = length-set l w x ∙ r.sixteen; none_reversed = NotReversed-set l w x h r.none_reversed }
