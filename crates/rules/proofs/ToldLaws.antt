-- Each call is answered as the plain rule says, and never under number 2.
use mathlib.Core.Bool.{Bool, true, false, cond}
use mathlib.Core.List.{List}
use mathlib.Core.Path.{◌≡◌, refl}
use Prim.Native.Nat.{ℕ, ◌*◌}
use native.Mathlib.Omega.{arith}
use lib.Dec.{eqb, ltb}
use lib.ListN.{length}
use borrow.Author.Tests.{eq-eqb, eqb-false}
use Rattle.lists.specs.Tests.{either}
use Rattle.lists.proofs.Cases.{by_cases}
use Rattle.lists.proofs.TestsLaws.{either_cases}
use Rattle.rules.specs.Grid.{Rect}
use Rattle.rules.specs.Records.{Request, sign_on, report, sign_off, range, request_of, refusal, kind_field, kind_sign_on, kind_report, not_at_hand, unknown_kind, wrong_length, no_radio, no_fix, too_early, reversed, on_already, not_on, no_room}
use Rattle.rules.specs.Store.{Store}
use Rattle.rules.specs.Carry.{carry, carried_out, answered, found, list_bytes}
use Rattle.rules.specs.Plain.{Plain, plain_on, plain_on_count, plain_refusal, plain_found}
use Rattle.rules.specs.Told.{told_list, told_done, told}
use Rattle.rules.specs.Parts.{Signed}
use Rattle.rules.proofs.LinkLaws.{Link, refusal_same, found_same}

-- ---- the desk's answer is the plain rule's

told_list_lem : (s : Store) (x : Plain) (buffer : List ℕ) (rect : Rect) (minute : ℕ) → found s rect minute ≡ plain_found x rect minute
    → ((answered (found s rect minute) s buffer).number ≡ (told_list (plain_found x rect minute) buffer).number) × ((answered (found s rect minute) s buffer).count ≡ (told_list (plain_found x rect minute) buffer).count)
    × ((answered (found s rect minute) s buffer).buffer ≡ (told_list (plain_found x rect minute) buffer).buffer)
unfolding answered told_list
told_list_lem s x buffer rect minute e =
    rw e (by_cases (ltb (length buffer) (list_bytes * length (plain_found x rect minute))) (λ t. rw t (refl, refl, refl)) (λ t. rw t (refl, refl, refl)))

told_done_lem : (q : Request) (s : Store) (x : Plain) (buffer : List ℕ) → Signed s.on → Link s x
    → ((carried_out q s buffer).number ≡ (told_done q x buffer).number) × ((carried_out q s buffer).count ≡ (told_done q x buffer).count)
    × ((carried_out q s buffer).buffer ≡ (told_done q x buffer).buffer)
unfolding carried_out told_done
told_done_lem (sign_on r p) s x buffer g k = (refl, refl, refl)
told_done_lem (report r p) s x buffer g k = (refl, refl, refl)
told_done_lem (sign_off r minute) s x buffer g k = (refl, refl, refl)
told_done_lem (range rect minute) s x buffer g k = told_list_lem s x buffer rect minute (found_same s x k g rect minute)

pub told_same : (s : Store) (x : Plain) (bytes buffer : List ℕ) → Signed s.on → Link s x
    → ((carry s bytes buffer).number ≡ (told x bytes buffer).number) × ((carry s bytes buffer).count ≡ (told x bytes buffer).count)
    × ((carry s bytes buffer).buffer ≡ (told x bytes buffer).buffer)
unfolding carry told
told_same s x bytes buffer g k =
    rw (refusal_same s x k g bytes) (by_cases (eqb (plain_refusal x bytes) 0)
    (λ t. rw t (told_done_lem (request_of bytes) s x buffer g k))
    (λ t. rw t (refl, refl, refl)))

-- ---- numbers that the plain rule tells

first_not_2 : (t : Bool) (n : ℕ) {m : ℕ} → eqb n 2 ≡ false → (m ≡ 2 → ⊥) → cond t n m ≡ 2 → ⊥
first_not_2 true n h rest e = eqb-false n 2 h e
first_not_2 false n h rest e = rest e

plain_not_2 : (x : Plain) (bytes : List ℕ) → plain_refusal x bytes ≡ 2 → ⊥
unfolding plain_refusal refusal
plain_not_2 x bytes =
    first_not_2 (not_at_hand bytes) 3 refl
    (first_not_2 (unknown_kind bytes) 4 refl
    (first_not_2 (wrong_length bytes) 5 refl
    (first_not_2 (no_radio bytes) 6 refl
    (first_not_2 (no_fix bytes) 12 refl
    (first_not_2 (too_early x.highest bytes) 13 refl
    (first_not_2 (reversed bytes) 7 refl
    (first_not_2 (on_already (plain_on x) bytes) 8 refl
    (first_not_2 (not_on (plain_on x) bytes) 9 refl
    (first_not_2 (no_room (plain_on_count x) bytes) 10 refl (λ e. omega (arith, e)))))))))))

done_not_2 : (q : Request) (x : Plain) (buffer : List ℕ) → (told_done q x buffer).number ≡ 2 → ⊥
unfolding told_done told_list
done_not_2 (sign_on r p) x buffer = λ e. omega arith
done_not_2 (report r p) x buffer = λ e. omega arith
done_not_2 (sign_off r minute) x buffer = λ e. omega arith
done_not_2 (range rect minute) x buffer =
    by_cases (ltb (length buffer) (list_bytes * length (plain_found x rect minute))) (λ t. rw t (λ e. omega arith)) (λ t. rw t (λ e. omega arith))

pub told_not_2 : (x : Plain) (bytes buffer : List ℕ) → (told x bytes buffer).number ≡ 2 → ⊥
unfolding told
told_not_2 x bytes buffer =
    by_cases (eqb (plain_refusal x bytes) 0)
    (λ t. rw t (λ e. done_not_2 (request_of bytes) x buffer e))
    (λ t. rw t (λ e. plain_not_2 x bytes e))

-- a sign-on or report that the plain rule carries out is told 0
pub told_zero : (x : Plain) (bytes buffer : List ℕ) → either (eqb (kind_field bytes) kind_sign_on) (eqb (kind_field bytes) kind_report) ≡ true → plain_refusal x bytes ≡ 0
    → (told x bytes buffer).number ≡ 0
unfolding told request_of told_done
told_zero x bytes buffer q e =
    rw (eq-eqb (plain_refusal x bytes) 0 e) (either_cases (eqb (kind_field bytes) kind_sign_on) (eqb (kind_field bytes) kind_report) q
    (λ t. rw t)
    (λ t. by_cases (eqb (kind_field bytes) kind_sign_on) (λ u. rw u) (λ u. rw (u, t))))
