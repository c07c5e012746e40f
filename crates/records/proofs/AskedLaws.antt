-- What the answer of `asked_by` says of the store whose radios on the desk holds: the outcome of the rules, and what the checks showed of an accepted request.
use mathlib.Core.Bool.{false}
use mathlib.Core.List.{List}
use mathlib.Core.Path.{◌≡◌, sym, ap, ◌∙◌, subst, ap₂}
use Prim.Native.Nat.{ℕ, ◌≤◌}
use native.Mathlib.Omega.{arith}
use lib.Dec.{eqb}
use lib.ListN.{length}
use borrow.Author.Tests.{eq-eqb, eqb-true}
use Rattle.terms.specs.Terms.{Fix, max_on}
use Rattle.lists.specs.Rows.{Rows, Rising, find}
use Rattle.lists.specs.Tests.{is_some}
use Rattle.lists.specs.Words.{Bytes}
use Rattle.lists.proofs.Cases.{by_cases, none-some, some_injective}
use Rattle.rules.specs.Records.{Request, sign_on, report, sign_off, range, request_of, refusal}
use Rattle.rules.specs.Store.{Store}
use Rattle.rules.specs.Carry.{is_on, on_count, carried_out, carry}
use Rattle.rules.specs.WellFormed.{WellFormed}
use Rattle.rules.proofs.RecordLaws.{Accepted, on_passed, report_passed, off_passed, range_passed, accepted}
use Rattle.desk.specs.Held.{On}
use Rattle.desk.specs.Layout.{on_of}
use Rattle.desk.specs.Views.{radios_of}
use Rattle.waiting.proofs.OnLaws.{radios_laid, count_on_laid}
use Rattle.records.specs.Asked.{on_in, Checked, asks, fails, checked, SignsOn, Reports, SignsOff}
use Rattle.records.proofs.RecordsLaws.{Ordered, ordered}

-- ---- what the answer says

module _ (k : ℕ) (q : Request) {c : Checked} (told : c ≡ checked k q) where
  -- an accepted request's number is 0, and it is the one asked
  means_asks : (p : Request) → c ≡ asks p → (k ≡ 0) × (q ≡ p)
  unfolding checked
  means_asks p is =
      by_cases (eqb k 0)
      (λ t. let e = rw t at told in (eqb-true k 0 t, some_injective (ap (λ (x : Checked). x.request) (sym e ∙ is))))
      (λ t. let e = rw t at told in none-some (ap (λ (x : Checked). x.request) (sym e ∙ is)))

  -- the number turned down under is not 0
  means_fails : {n : ℕ} → c ≡ fails n → (k ≡ n) × (eqb k 0 ≡ false)
  unfolding checked
  means_fails is =
      by_cases (eqb k 0)
      (λ t. let e = rw t at told in none-some (ap (λ (x : Checked). x.request) (sym is ∙ e)))
      (λ t. let e = rw t at told in (ap (λ (x : Checked). x.number) (sym e ∙ is), t))

-- ---- who is on

module _ (s : Store) (on : On) (laid : on ≡ on_of s.on) where
  -- the checks on the desk are those on the store
  pub refusal_laid : {highest : ℕ} → highest ≡ s.highest → (b : List ℕ) → refusal highest (on_in on) (length (radios_of on)) b ≡ refusal s.highest (is_on s) (on_count s) b
  unfolding is_on on_count
  refusal_laid late b = ap₂ (λ (h : ℕ) (l : Rows (Unit {0})). refusal h (λ r. is_some (find l r)) (length l) b) late (radios_laid laid)

  module _ (well : WellFormed s) where
    pub on_few : on.n ≤ max_on
    on_few = omega (arith, count_on_laid on s.on laid, well.few_on)

    pub on_rises : Rising 0 (radios_of on)
    on_rises = subst (Rising 0) (sym (radios_laid laid)) well.rising_on

-- ---- the outcome

abbrev Showed : Store → Request → Type 0
Showed s (sign_on r f) = SignsOn s r f
Showed s (report r f) = Reports s r f
Showed s (sign_off r minute) = SignsOff s r minute
Showed s (range rect minute) = (rect.easts.low ≤ rect.easts.high) × (rect.norths.low ≤ rect.norths.high)

showed : (s : Store) (q : Request) → Accepted s.highest (is_on s) (on_count s) q → Ordered q → Showed s q
showed s q (on_passed r p f l i off room late) o = record { first = f; last = l; placed = i; off = off; room = room; late = late }
showed s q (report_passed r p f l i on late) o = record { first = f; last = l; placed = i; on = on; late = late }
showed s q (off_passed r minute f l on late) o = record { first = f; last = l; on = on; late = late }
showed s q (range_passed rect minute) o = o

module _ (s : Store) (on : On) (b : List ℕ) {highest : ℕ} {c : Checked} (laid : on ≡ on_of s.on) (late : highest ≡ s.highest) (told : c ≡ checked (refusal highest (on_in on) (length (radios_of on)) b) (request_of b)) where
  -- turned down
  module _ {n : ℕ} (is : c ≡ fails n) where
    refused_number : (refusal s.highest (is_on s) (on_count s) b ≡ n) × (eqb (refusal s.highest (is_on s) (on_count s) b) 0 ≡ false)
    refused_number = rw (refusal_laid s on laid late b) at (means_fails _ (request_of b) told is)

    pub refused_carry : (buffer : List ℕ) → carry s b buffer ≡ record { number = n; count = 0; buffer = buffer; store = s }
    unfolding carry
    refused_carry buffer = let e = refused_number in rw (e.1, e.0)

  -- carried out
  module _ (q : Request) (is : c ≡ asks q) where
    pub taken : (refusal s.highest (is_on s) (on_count s) b ≡ 0) × (request_of b ≡ q)
    taken = rw (refusal_laid s on laid late b) at (means_asks _ (request_of b) told q is)

    pub taken_carry : (buffer : List ℕ) → carry s b buffer ≡ carried_out q s buffer
    unfolding carry
    taken_carry buffer = let e = taken in rw (eq-eqb (refusal s.highest (is_on s) (on_count s) b) 0 e.0, e.1)

    taken_Showed : Bytes b → Showed s q
    taken_Showed small =
        let e = taken in
        subst (Showed s) e.1 (showed s (request_of b) (accepted s.highest (is_on s) (on_count s) b small e.0) (ordered s.highest (is_on s) (on_count s) b e.0))

  -- what an accepted request says
  module _ (small : Bytes b) where
    pub asks_on : (r : ℕ) (f : Fix) → c ≡ asks (sign_on r f) → SignsOn s r f
    asks_on r f is = taken_Showed (sign_on r f) is small

    pub asks-report : (r : ℕ) (f : Fix) → c ≡ asks (report r f) → Reports s r f
    asks-report r f is = taken_Showed (report r f) is small

    pub asks_off : (r minute : ℕ) → c ≡ asks (sign_off r minute) → SignsOff s r minute
    asks_off r minute is = taken_Showed (sign_off r minute) is small
