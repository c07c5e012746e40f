-- What a record's answer counts are radios on, so that 16 bits hold it.
use mathlib.Core.Bool.{Bool, true, false}
use mathlib.Core.List.{List, [], ◌∷◌}
use Rattle.std.specs.Prelude.{Option, None, Some}
use mathlib.Core.Path.{◌≡◌, ap}
use Prim.Native.Nat.{ℕ, suc, ◌*◌, ◌≤◌}
use native.Mathlib.Omega.{arith}
use lib.Dec.{eqb, ltb}
use lib.ListN.{length}
use Rattle.terms.specs.Terms.{Place, Fix, max_on}
use Rattle.lists.specs.Rows.{Row, Rows}
use Rattle.lists.specs.Sums.{keep}
use Rattle.lists.proofs.Cases.{by_cases}
use Rattle.rules.specs.Grid.{Rect}
use Rattle.rules.specs.Store.{Store}
use Rattle.rules.specs.Records.{Request, sign_on, report, sign_off, range, request_of, refusal}
use Rattle.rules.specs.Carry.{is_on, on_count, listed, list_if, list_of, found, list_bytes, answered, carried_out, carry}
use Rattle.rules.specs.Calls.{hands, carry_record, carry_call}
use Rattle.desk.specs.declared.Desk.{Desk}
use Rattle.desk.specs.Call.{After, handed, turned_down, laid_out, Answers, wrong_size, unsound, carried}

-- ---- a range's list

keep_few : (b : Bool) (x : Row Place) (l : Rows Place) → length (keep b x l) ≤ suc (length l)
keep_few true x l = omega arith
keep_few false x l = omega arith

row_few : (rect : Rect) (minute r : ℕ) (o : Option Fix) (l : Rows Place) → length (list_if rect minute r o l) ≤ suc (length l)
row_few rect minute r None l = omega arith
row_few rect minute r (Some f) l = keep_few (listed rect minute f) (record { key = r; val = f.place }) l

-- it names radios on, each once
list_few : (rect : Rect) (minute : ℕ) (latest_of : ℕ → Option Fix) (l : Rows (Unit {0})) → length (list_of rect minute latest_of l) ≤ length l
unfolding list_of
list_few rect minute latest_of [] = omega arith
list_few rect minute latest_of (x ∷ xs) =
    omega (arith, row_few rect minute x.key (latest_of x.key) (list_of rect minute latest_of xs), list_few rect minute latest_of xs)

pub found_few : (s : Store) (rect : Rect) (minute : ℕ) → length (found s rect minute) ≤ length s.on
unfolding found
found_few s rect minute = list_few rect minute _ s.on

-- ---- a record

answered-count : (l : Rows Place) (s : Store) (buffer : List ℕ) → (answered l s buffer).count ≡ length l
unfolding answered
answered-count l s buffer = by_cases (ltb (length buffer) (list_bytes * length l)) (λ t. rw t) (λ t. rw t)

module _ (s : Store) (buffer : List ℕ) (few : length s.on ≤ max_on) where
  done_count : (q : Request) → (carried_out q s buffer).count ≤ max_on
  unfolding carried_out
  done_count (sign_on r f) = omega arith
  done_count (report r f) = omega arith
  done_count (sign_off r minute) = omega arith
  done_count (range rect minute) = omega (arith, answered-count (found s rect minute) s buffer, found_few s rect minute)

  carry-count : (bytes : List ℕ) → (carry s bytes buffer).count ≤ max_on
  unfolding carry
  carry-count bytes = by_cases (eqb (refusal s.highest (is_on s) (on_count s) bytes) 0) (λ t. rw t (done_count (request_of bytes))) (λ t. rw t (omega arith))

-- "number 11 carries n", an accepted range n, and every other answer to a record 0
pub record_count : {d : Desk} {b bytes buffer : List ℕ} {y : After} → Answers (handed d b (hands bytes) buffer) y → y.count ≤ max_on
unfolding turned_down laid_out carry_call carry_record
record_count (wrong_size _ e) = omega (arith, ap (λ (z : After). z.count) e)
record_count (unsound _ _ e) = omega (arith, ap (λ (z : After). z.count) e)
record_count {bytes = bytes} {buffer = buffer} (carried s e) =
    omega (arith, ap (λ (z : After). z.count) e, carry-count s.watched.store buffer s.well.few_on bytes)
