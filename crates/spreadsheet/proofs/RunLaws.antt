-- A run of sign-ons (02, Job 6): beside it goes the plain rule, which says of each line whether a check stops it and which radios are on after it.
use mathlib.Core.Bool.{Bool, false}
use mathlib.Core.List.{List, [], ◌∷◌}
use Rattle.std.specs.Prelude.{Option, None, Some}
use mathlib.Core.Path.{◌≡◌, refl, sym, ap, ap₂, ◌∙◌, subst, fun_ext}
use Prim.Native.Nat.{ℕ, zero, suc, ◌+◌, ◌<◌, ◌≤◌}
use native.Mathlib.Nat.{not-suc-le-zero}
use native.Mathlib.Omega.{arith}
use lib.Dec.{eqb, leb}
use lib.ListN.{length, take}
use lib.Seq.{take-nil}
use borrow.Author.Tests.{eqb-true, eqb-false, eq-eqb, ne_eqb, leb-false}
use Rattle.terms.specs.Terms.{Place, Fix, max_radio, max_on}
use Rattle.lists.specs.Sums.{sum_to}
use Rattle.lists.specs.Tests.{one_if, both, either, is_some, Each}
use Rattle.lists.proofs.Cases.{by_cases, option_cases, none-some}
use Rattle.lists.proofs.SumsLaws.{sum_to_but, sum_to_zero}
use Rattle.csv_grammar.specs.Csv.{Listed, Fits}
use Rattle.csv_grammar.specs.Order.{MinutesRise}
use Rattle.rules.specs.Grid.{Cuts}
use Rattle.rules.specs.Records.{refusal}
use Rattle.rules.specs.Store.{Store}
use Rattle.rules.specs.Carry.{is_on, on_count, carried_out, carry}
use Rattle.rules.specs.Plain.{Plain, plain_fresh, put_at, plain_on, plain_on_count, plain_due, plain_at, plain_place, plain_after, plain_done, plain_refusal, plain_step}
use Rattle.rules.specs.WellFormed.{WellFormed}
use Rattle.rules.specs.Watches.{Watched, fresh_watched}
use Rattle.rules.specs.Calls.{carry_record}
use Rattle.rules.proofs.LinkLaws.{Link, fresh-Link, refusal_same}
use Rattle.rules.proofs.PlainLaws.{step_Link}
use Rattle.rules.proofs.StepLaws.{step_well}
use Rattle.rules.proofs.WellLaws.{well_Core}
use Rattle.desk.proofs.FreshLaws.{fresh_well}
use Rattle.csv_order.specs.Checks.{stop_of, also_on, first_stop}
use Rattle.spreadsheet.specs.Read.{sign_on_of, Read, made, stopped, sign_ons, signed_all, verdict, plain_sign_ons}
use Rattle.spreadsheet.proofs.SignOnLaws.{sign_on_request, refusal_sign_on, sign_on_Bytes}

-- ---- what a sign-on makes of the plain rule

after_highest : (cuts : Cuts) (p : Place) (x : Plain) → (plain_after cuts p x).highest ≡ x.highest
unfolding plain_after
after_highest cuts p x = option_cases (plain_due cuts x p) (λ e. rw e) (λ m e. rw e)

pub after_latest : (cuts : Cuts) (p : Place) (x : Plain) → (plain_after cuts p x).latest ≡ x.latest
unfolding plain_after
after_latest cuts p x = option_cases (plain_due cuts x p) (λ e. rw e) (λ m e. rw e)

-- a line whose place is not (0,0) and whose radio is off, while fewer than 512 are on
pub record Free (on : ℕ → Bool) (how_many : ℕ) (l : Listed) : Type 0 where
  pub off : on l.row.key ≡ false
  pub room : how_many < max_on

pub stop_Free : (on : ℕ → Bool) (how_many : ℕ) (l : Listed) → stop_of on how_many l ≡ 0 → Free on how_many l
unfolding stop_of
stop_Free on how_many l e =
    by_cases (both (eqb l.row.val.place.east 0) (eqb l.row.val.place.north 0)) (λ t. absurd (omega (arith, rw t at e))) (λ t. let e₁ = rw t at e in
    by_cases (on l.row.key) (λ u. absurd (omega (arith, rw u at e₁))) (λ u. let e₂ = rw u at e₁ in
    by_cases (leb max_on how_many) (λ v. absurd (omega (arith, rw v at e₂))) (λ v. record { off = u; room = leb-false max_on how_many v })))

-- who is on beside a store: the plain rule says it, as the checks of the lines go by it
pub record Beside (s : Store) (x : Plain) (on : ℕ → Bool) (how_many : ℕ) : Type 0 where
  pub well : WellFormed s
  pub link : Link s x
  pub same_on : plain_on x ≡ on
  pub same_count : plain_on_count x ≡ how_many

module _ (s : Store) (x : Plain) (on : ℕ → Bool) (how_many : ℕ) (k : Beside s x on how_many) (l : Listed) (fits : Fits l.row) (late : x.highest ≤ l.row.val.minute) where
  abbrev bytes : List ℕ
  bytes = sign_on_of l.row

  plain_stop : plain_refusal x bytes ≡ stop_of on how_many l
  unfolding plain_refusal
  plain_stop = refusal_sign_on l.row fits x.highest (plain_on x) (plain_on_count x) l.line late ∙ ap₂ (λ (f : ℕ → Bool) (n : ℕ). stop_of f n l) k.same_on k.same_count

  desk_stop : refusal s.highest (is_on s) (on_count s) bytes ≡ stop_of on how_many l
  desk_stop = refusal_same s x k.link (well_Core s k.well).signed bytes ∙ plain_stop

  -- the number that the sign-on is answered with
  pub number_stop : (carry s bytes []).number ≡ stop_of on how_many l
  unfolding carry
  number_stop =
      rw desk_stop (by_cases (eqb (stop_of on how_many l) 0)
      (λ t. rw (t, sign_on_request l.row) (unfold carried_out in sym (eqb-true (stop_of on how_many l) 0 t)))
      (λ t. rw t))

  abbrev then : Plain
  then = plain_step s.cuts bytes x

  -- where none stops it, the plain rule has one radio more
  module _ (passed : stop_of on how_many l ≡ 0) where
    then_is : then ≡ plain_after s.cuts l.row.val.place (plain_place l.row.key l.row.val (plain_at l.row.val.minute x))
    unfolding plain_step plain_done
    then_is = rw (plain_stop, passed, sign_on_request l.row)

    pub then-highest : then.highest ≡ l.row.val.minute
    unfolding plain_place
    then-highest = ap (λ (z : Plain). z.highest) then_is ∙ after_highest s.cuts l.row.val.place (plain_place l.row.key l.row.val (plain_at l.row.val.minute x))

    pub then-latest : then.latest ≡ put_at l.row.key (Some l.row.val) x.latest
    unfolding plain_place
    then-latest = ap (λ (z : Plain). z.latest) then_is ∙ after_latest s.cuts l.row.val.place (plain_place l.row.key l.row.val (plain_at l.row.val.minute x))

    then-on : plain_on then ≡ also_on l.row.key on
    unfolding plain_on either
    then-on = fun_ext λ q. ap (λ (f : ℕ → Option Fix). is_some (f q)) then-latest ∙ by_cases (eqb q l.row.key) (λ t. rw t) (λ t. rw t (ap (λ (f : ℕ → Bool). f q) k.same_on))

    own_on : one_if (also_on l.row.key on l.row.key) ≡ 1
    unfolding either
    own_on = rw (eq-eqb l.row.key l.row.key refl)

    then_count : plain_on_count then ≡ suc how_many
    unfolding plain_on_count
    then_count = omega (
      arith,
      k.same_count,
      ap (λ (f : ℕ → Bool). sum_to (suc max_radio) (λ r. one_if (f r))) then-on,
      ap (λ (f : ℕ → Bool). sum_to (suc max_radio) (λ r. one_if (f r))) k.same_on,
      sum_to_but (suc max_radio) (λ r. one_if (also_on l.row.key on r)) (λ r. one_if (on r)) l.row.key (omega (arith, fits.radio)) (λ r _ d. unfold either in rw (ne_eqb r l.row.key d)),
      ap one_if (stop_Free on how_many l passed).off,
      own_on,
    )

    pub then-Beside : Beside (carry s bytes []).store then (also_on l.row.key on) (suc how_many)
    then-Beside = record {
      well = step_well s bytes [] (sign_on_Bytes l.row fits) k.well;
      link = step_Link s x bytes [] (sign_on_Bytes l.row fits) k.well k.link;
      same_on = then-on;
      same_count = then_count;
    }

-- ---- the whole run

-- the record of a line changes the store as it is carried out, and no watch
record_store : (bytes : List ℕ) (w : Watched) → (carry_record bytes w []).watched.store ≡ (carry w.store bytes []).store
unfolding carry_record
record_store bytes w = refl

record_number : (bytes : List ℕ) (w : Watched) → (carry_record bytes w []).number ≡ (carry w.store bytes []).number
unfolding carry_record
record_number bytes w = refl

module _ (w : Watched) (x : Plain) (on : ℕ → Bool) (how_many : ℕ) (k : Beside w.store x on how_many) (l : Listed) (fits : Fits l.row) (late : x.highest ≤ l.row.val.minute) where
  pub signed_number : (carry_record (sign_on_of l.row) w []).number ≡ stop_of on how_many l
  signed_number = record_number (sign_on_of l.row) w ∙ number_stop w.store x on how_many k l fits late

  pub signed_Beside : stop_of on how_many l ≡ 0 → Beside (carry_record (sign_on_of l.row) w []).watched.store (plain_step w.store.cuts (sign_on_of l.row) x) (also_on l.row.key on) (suc how_many)
  signed_Beside e = subst (λ (s : Store). Beside s (plain_step w.store.cuts (sign_on_of l.row) x) (also_on l.row.key on) (suc how_many)) (sym (record_store (sign_on_of l.row) w)) (then-Beside w.store x on how_many k l fits late e)

  pub signed_later : stop_of on how_many l ≡ 0 → (ls : List Listed) → MinutesRise l.row.val.minute ls → MinutesRise (plain_step w.store.cuts (sign_on_of l.row) x).highest ls
  signed_later e ls rise = subst (λ (m : ℕ). MinutesRise m ls) (sym (then-highest w.store x on how_many k l fits late e)) rise

-- it ends as the checks of the lines say
pub sign_ons-verdict : (ls : List Listed) (w : Watched) (x : Plain) (on : ℕ → Bool) (how_many : ℕ) → Beside w.store x on how_many → Each (λ l. Fits l.row) ls → MinutesRise x.highest ls
    → sign_ons ls w ≡ verdict (first_stop on how_many ls) (signed_all ls w)
unfolding sign_ons first_stop signed_all
sign_ons-verdict [] w x on how_many k fit rise = refl
sign_ons-verdict (l ∷ ls) w x on how_many k fit rise =
    rw (signed_number w x on how_many k l fit.0 rise.0) (by_cases (eqb (stop_of on how_many l) 0)
    (λ t. let e = eqb-true (stop_of on how_many l) 0 t in
    rw t (sign_ons-verdict ls (carry_record (sign_on_of l.row) w []).watched (plain_step w.store.cuts (sign_on_of l.row) x) (also_on l.row.key on) (suc how_many)
    (signed_Beside w x on how_many k l fit.0 rise.0 e) fit.1 (signed_later w x on how_many k l fit.0 rise.0 e ls rise.1)))
    (λ t. rw t))

-- ---- of 513 lines one is stopped, so those after them are never looked at

pub first_stop-take : (ls : List Listed) (on : ℕ → Bool) (how_many more : ℕ) → 0 < more → how_many + more ≡ suc max_on → first_stop on how_many (take more ls) ≡ first_stop on how_many ls
unfolding first_stop
first_stop-take [] on how_many more h e = ap (first_stop on how_many) (take-nil more)
first_stop-take (l ∷ ls) on how_many zero h e = absurd (not-suc-le-zero h)
first_stop-take (l ∷ ls) on how_many (suc more) h e =
    by_cases (eqb (stop_of on how_many l) 0)
    (λ t. let f = stop_Free on how_many l (eqb-true (stop_of on how_many l) 0 t) in
    rw t (first_stop-take ls (also_on l.row.key on) (suc how_many) more (omega (arith, f.room)) (omega arith)))
    (λ t. rw t)

-- lines that none stops are no more than there is room for
pub first_stop_few : (ls : List Listed) (on : ℕ → Bool) (how_many : ℕ) → how_many ≤ max_on → first_stop on how_many ls ≡ None → how_many + length ls ≤ max_on
unfolding first_stop
first_stop_few [] on how_many h e = omega arith
first_stop_few (l ∷ ls) on how_many h e =
    by_cases (eqb (stop_of on how_many l) 0)
    (λ t. let f = stop_Free on how_many l (eqb-true (stop_of on how_many l) 0 t) in
    let more = first_stop_few ls (also_on l.row.key on) (suc how_many) (omega (arith, f.room)) (rw t at e) in omega arith)
    (λ t. none-some (sym (rw t at e)))

-- ---- a run that ends with a store

pub read_cases {ℓ} : {P : Type ℓ} (r : Read) → ((v : Watched) → r ≡ made v → P) → ((number line : ℕ) → r ≡ stopped number line → P) → P
read_cases (made v) f g = f v refl
read_cases (stopped number line) f g = g number line refl

pub made_all : (ls : List Listed) (w v : Watched) → sign_ons ls w ≡ made v → signed_all ls w ≡ v
unfolding sign_ons signed_all
made_all [] w v e = cc
made_all (l ∷ ls) w v e =
    by_cases (eqb (carry_record (sign_on_of l.row) w []).number 0)
    (λ t. made_all ls (carry_record (sign_on_of l.row) w []).watched v (rw t at e))
    (λ t. let z : ◌≡◌ {A = Read} (stopped (carry_record (sign_on_of l.row) w []).number l.line) (made v) = rw t at e in cc)

-- a line is stopped under no number but those of the checks, and 0 is none
pub stopped_not_0 : (ls : List Listed) (w : Watched) (number line : ℕ) → sign_ons ls w ≡ stopped number line → number ≡ 0 → ⊥
unfolding sign_ons
stopped_not_0 [] w number line e = λ z. let c : ◌≡◌ {A = ℕ} 0 1 = cc in omega arith
stopped_not_0 (l ∷ ls) w number line e =
    by_cases (eqb (carry_record (sign_on_of l.row) w []).number 0)
    (λ t. stopped_not_0 ls (carry_record (sign_on_of l.row) w []).watched number line (rw t at e))
    (λ t z. let c : (carry_record (sign_on_of l.row) w []).number ≡ number = read_number (rw t at e) in eqb-false (carry_record (sign_on_of l.row) w []).number 0 t (c ∙ z))
  where
    read_number : {n m k j : ℕ} → stopped n k ≡ stopped m j → n ≡ m
    read_number q = cc

-- ---- the latest places after a run

-- each line gives its radio what it tells
unfoldable pub latest_all : List Listed → (ℕ → Option Fix) → ℕ → Option Fix
latest_all [] f = f
latest_all (l ∷ ls) f = latest_all ls (put_at l.row.key (Some l.row.val) f)

pub run_latest : (ls : List Listed) (w : Watched) (x : Plain) (on : ℕ → Bool) (how_many : ℕ) → Beside w.store x on how_many → Each (λ l. Fits l.row) ls → MinutesRise x.highest ls
    → first_stop on how_many ls ≡ None → (plain_sign_ons ls w x).latest ≡ latest_all ls x.latest
unfolding first_stop plain_sign_ons latest_all
run_latest [] w x on how_many k fit rise none_stopped = refl
run_latest (l ∷ ls) w x on how_many k fit rise none_stopped =
    by_cases (eqb (stop_of on how_many l) 0)
    (λ t. let e = eqb-true (stop_of on how_many l) 0 t in
    run_latest ls (carry_record (sign_on_of l.row) w []).watched (plain_step w.store.cuts (sign_on_of l.row) x) (also_on l.row.key on) (suc how_many)
    (signed_Beside w x on how_many k l fit.0 rise.0 e) fit.1 (signed_later w x on how_many k l fit.0 rise.0 e ls rise.1) (rw t at none_stopped)
    ∙ ap (latest_all ls) (then-latest w.store x on how_many k l fit.0 rise.0 e))
    (λ t. none-some (sym (rw t at none_stopped)))

-- ---- from a fresh store

pub fresh_Beside : Beside fresh_watched.store plain_fresh (λ _. false) 0
unfolding fresh_watched plain_fresh plain_on plain_on_count
fresh_Beside = record { well = fresh_well; link = fresh-Link; same_on = refl; same_count = sum_to_zero (suc max_radio) (λ _. 0) (λ i h. refl) }
