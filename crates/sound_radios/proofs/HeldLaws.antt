-- What a table by radio holds of each radio once rows are added or written: a sum, or what is found.
use mathlib.Core.Path.{◌≡◌, refl, sym, ap, ◌∙◌, subst}
use mathlib.Core.Bool.{cond}
use mathlib.Core.List.{List, [], ◌∷◌}
use Rattle.std.specs.Prelude.{Option, None, Some}
use Prim.Native.Nat.{ℕ, ◌+◌, ◌%◌, ◌<◌}
use native.Mathlib.Omega.{arith}
use lib.Dec.{eqb}
use lib.ListN.{length, get_or, set, length-set}
use lib.Seq.{get_or-set_same, get_or-set_other}
use borrow.Author.Tests.{eqb-true, eqb-false}
use Rattle.lists.specs.Rows.{Row, Rows, Rising, find}
use Rattle.lists.specs.Sums.{sum_by}
use Rattle.lists.specs.Tests.{Each}
use Rattle.lists.proofs.Cases.{by_cases}
use Rattle.lists.proofs.RowsLaws.{find_below}
use Rattle.lists.proofs.SumsLaws.{sum-nil, sum-cons}
use Rattle.sound_balance.specs.Tables.{field_end, added, written}
use Rattle.sound_balance.proofs.TableLaws.{added_one, added-nil, added-cons}

-- ---- sums that go round

-- what radio q's number and c come to: n
abbrev pub Comes : List ℕ → ℕ → ℕ → ℕ → Type 0
Comes t q c n = (get_or t q 0 < field_end) × ((get_or t q 0 + c) % field_end ≡ n % field_end)

round : (a m c n : ℕ) → (a < field_end) × ((a + c) % field_end ≡ n % field_end) → ((a + m) % field_end < field_end) × (((a + m) % field_end + c) % field_end ≡ (n + m) % field_end)
round a m c n k = (omega arith, omega (arith, k.1))

module _ {Val : Type 0} where
  -- ---- rows that are added

  length-added_one : (w : Row Val → ℕ) (t : List ℕ) (x : Row Val) → length (added_one w t x) ≡ length t
  length-added_one w t x = length-set t x.key ((get_or t x.key 0 + w x) % field_end)

  pub length-added : (w : Row Val → ℕ) (t : List ℕ) (l : Rows Val) → length (added w t l) ≡ length t
  unfolding added
  length-added w t [] = refl
  length-added w t (x ∷ l) = length-added w (added_one w t x) l ∙ length-added_one w t x

  -- what a row adds to the number of radio q
  abbrev pub share : (Row Val → ℕ) → ℕ → Row Val → ℕ
  share w q x = cond (eqb q x.key) (w x) 0

  added_one_lem : (w : Row Val → ℕ) (t : List ℕ) (x : Row Val) (q c n : ℕ) → x.key < length t → Comes t q c n → Comes (added_one w t x) q c (n + share w q x)
  added_one_lem w t x q c n h k =
      by_cases (eqb q x.key)
      (λ e.
      let z = eqb-true q x.key e in
      rw (e, z, get_or-set_same t x.key ((get_or t x.key 0 + w x) % field_end) 0 h) (round (get_or t x.key 0) (w x) c n (subst (λ (j : ℕ). Comes t j c n) z k)))
      (λ e.
      let z : n + 0 ≡ n = omega arith in
      rw (e, get_or-set_other t x.key q ((get_or t x.key 0 + w x) % field_end) 0 (eqb-false q x.key e), z) k)

  pub added-Comes : (w : Row Val → ℕ) (t : List ℕ) (l : Rows Val) (q c n : ℕ) → Each (λ x. x.key < length t) l → Comes t q c n → Comes (added w t l) q c (n + sum_by (share w q) l)
  added-Comes w t [] q c n h k = let z : n + 0 ≡ n = omega arith in rw (added-nil w t, sum-nil (share w q), z) k
  added-Comes w t (x ∷ l) q c n h k =
      let z : n + (share w q x + sum_by (share w q) l) ≡ n + share w q x + sum_by (share w q) l = omega arith in
      rw (added-cons w t x l, sum-cons (share w q) x l, z)
      (added-Comes w (added_one w t x) l q c (n + share w q x) (subst (λ (m : ℕ). Each (λ x. x.key < m) l) (sym (length-added_one w t x)) h.1) (added_one_lem w t x q c n h.0 k))

  -- ---- rows that are written

  pub length-written : (v : Row Val → ℕ) (t : List ℕ) (l : Rows Val) → length (written v t l) ≡ length t
  unfolding written
  length-written v t [] = refl
  length-written v t (x ∷ l) = length-written v (set t x.key (v x)) l ∙ length-set t x.key (v x)

  -- the number of the row found, or what was there
  abbrev pub found_or : (Row Val → ℕ) → ℕ → ℕ → Option Val → ℕ
  found_or v q n None = n
  found_or v q n (Some x) = v (record { key = q; val = x })

  pub written_found : (v : Row Val → ℕ) (t : List ℕ) (b : ℕ) (l : Rows Val) (q : ℕ) → Rising b l → Each (λ x. x.key < length t) l
      → get_or (written v t l) q 0 ≡ found_or v q (get_or t q 0) (find l q)
  unfolding written find
  written_found v t b [] q r h = refl
  written_found v t b (x ∷ l) q r h =
      let t' = set t x.key (v x) in
      let e = length-set t x.key (v x) in
      let i = written_found v t' x.key l q r.1 (subst (λ (n : ℕ). Each (λ x. x.key < n) l) (sym e) h.1) in
      by_cases (eqb q x.key)
      (λ e.
      let z = eqb-true q x.key e in
      rw e
      (i ∙ ap (found_or v q (get_or t' q 0)) (find_below q x.key l (omega arith) r.1)
      ∙ ap (λ (k : ℕ). get_or t' k 0) z ∙ get_or-set_same t x.key (v x) 0 h.0 ∙ ap (λ (k : ℕ). v (record { key = k; val = x.val })) (sym z)))
      (λ e. rw e (i ∙ ap (λ (n : ℕ). found_or v q n (find l q)) (get_or-set_other t x.key q (v x) 0 (eqb-false q x.key e))))
