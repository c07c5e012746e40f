-- All radios on are the same by the store and by the plain rule beside it.
use mathlib.Core.Bool.{Bool, true, false, cond}
use mathlib.Core.List.{[], ◌∷◌}
use Rattle.std.specs.Prelude.{Option, None, Some}
use mathlib.Core.Path.{◌≡◌, refl, sym, ap, ◌∙◌, fun_ext}
use Prim.Native.Nat.{ℕ, suc, ◌<◌, ◌≤◌}
use native.Mathlib.Omega.{arith}
use lib.Dec.{eqb}
use lib.ListN.{length}
use borrow.Author.Tests.{eqb-true, eq-eqb}
use Rattle.terms.specs.Terms.{Fix, max_radio}
use Rattle.lists.specs.Parts.{tab}
use Rattle.lists.specs.Rows.{Row, Rows, Rising, find, put_row}
use Rattle.lists.specs.Tests.{is_some, Each}
use Rattle.lists.proofs.Cases.{by_cases, option_cases}
use Rattle.lists.proofs.RowsLaws.{find_below, Rising_less, ext_find, Rising-tab, find-tab, find_within}
use Rattle.rules.specs.Store.{Store}
use Rattle.rules.specs.Carry.{is_on}
use Rattle.rules.specs.Plain.{Plain, plain_on}
use Rattle.rules.specs.Parts.{Signed}
use Rattle.rules.specs.Everyone.{rows_of, everyone, plain_everyone}
use Rattle.rules.proofs.LinkLaws.{Link, latest_same}

module _ (f : ℕ → Option Fix) where
  Rising_row : (b r : ℕ) (o : Option Fix) (l : Rows Fix) → b < r → Rising r l → Rising b (put_row r o l)
  Rising_row b r None l h a = Rising_less b r l (omega arith) a
  Rising_row b r (Some g) l h a = (h, a)

  pub Rising-rows_of : (b : ℕ) (l : Rows (Unit {0})) → Rising b l → Rising b (rows_of f l)
  unfolding rows_of
  Rising-rows_of b [] a = tt
  Rising-rows_of b (x ∷ xs) a = Rising_row b x.key (f x.key) (rows_of f xs) a.0 (Rising-rows_of x.key xs a.1)

  find_row_same : (r : ℕ) (o : Option Fix) (l : Rows Fix) → Rising r l → find (put_row r o l) r ≡ o
  unfolding find
  find_row_same r None l a = find_below r r l (omega arith) a
  find_row_same r (Some g) l a = rw (eq-eqb r r refl)

  find_row_other : (r q : ℕ) (o : Option Fix) (l : Rows Fix) → eqb q r ≡ false → find (put_row r o l) q ≡ find l q
  unfolding find
  find_row_other r q None l e = refl
  find_row_other r q (Some g) l e = rw e

  pub find-rows_of : (b q : ℕ) (l : Rows (Unit {0})) → Rising b l → find (rows_of f l) q ≡ cond (is_some (find l q)) (f q) None
  unfolding rows_of find
  find-rows_of b q [] a = refl
  find-rows_of b q (x ∷ xs) a =
      by_cases (eqb q x.key)
      (λ t. rw (t, eqb-true q x.key t) (find_row_same x.key (f x.key) (rows_of f xs) (Rising-rows_of x.key xs a.1)))
      (λ t. rw t (find_row_other x.key q (f x.key) (rows_of f xs) t ∙ find-rows_of x.key q xs a.1))

pub everyone_same : (s : Store) (x : Plain) → Link s x → Signed s.on → everyone s ≡ plain_everyone x
unfolding everyone plain_everyone is_on plain_on
everyone_same s x k g =
    let all : Rows (Unit {0}) = tab max_radio (λ i. record { key = suc i; val = tt }) in
    let rises : Rising 0 all = Rising-tab max_radio 0 suc (λ _. tt) (λ i. omega arith) in
    ap (λ (f : ℕ → Option Fix). rows_of f s.on) (fun_ext (latest_same s x k))
    ∙ ext_find 0 (rows_of x.latest s.on) (rows_of x.latest all) (Rising-rows_of x.latest 0 s.on g.rising_on) (Rising-rows_of x.latest 0 all rises)
    (λ r. find-rows_of x.latest 0 r s.on g.rising_on ∙ option_cases (x.latest r)
    (λ e. rw e (never (is_some (find s.on r)) ∙ sym (rw (find-rows_of x.latest 0 r all rises, e) (never (is_some (find all r))))))
    (λ p e. let o : is_some (find s.on r) ≡ true = k.on r ∙ ap is_some e in
    let w = find_within 0 max_radio r s.on g.rising_on g.radios_on o in
    rw o (sym (rw (find-rows_of x.latest 0 r all rises, find-tab max_radio 0 r suc (λ _. tt {0}) (λ i. omega arith) w.0 w.1)))))
  where
    never : (b : Bool) → ◌≡◌ {A = Option Fix} (cond b None None) None
    never true = refl
    never false = refl

-- ---- what each row says

pub Each-rows_of : (P : Row Fix → Type 0) (f : ℕ → Option Fix) (l : Rows (Unit {0})) → Each (λ x. (g : Fix) → f x.key ≡ Some g → P (record { key = x.key; val = g })) l → Each P (rows_of f l)
unfolding rows_of
Each-rows_of P f [] h = tt
Each-rows_of P f (x ∷ xs) h = option_cases (f x.key) (λ e. rw e (Each-rows_of P f xs h.1)) (λ g e. rw e (h.0 g e, Each-rows_of P f xs h.1))

pub length-rows_of : (f : ℕ → Option Fix) (l : Rows (Unit {0})) → length (rows_of f l) ≤ length l
unfolding rows_of
length-rows_of f [] = omega arith
length-rows_of f (x ∷ xs) = let h = length-rows_of f xs in option_cases (f x.key) (λ e. rw e (omega arith)) (λ g e. rw e (omega arith))
