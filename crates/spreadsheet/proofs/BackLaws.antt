-- A file that was written is read back (02, Job 6): its lines are of different radios, so that no check stops one, and each radio is given what its line tells.
use mathlib.Core.Bool.{Bool, true, false}
use mathlib.Core.List.{List, [], ◌∷◌}
use Rattle.std.specs.Prelude.{Option, None, Some}
use mathlib.Core.Path.{◌≡◌, refl, sym, ap, ◌∙◌}
use Prim.Native.Nat.{ℕ, suc, ◌+◌, ◌≤◌}
use native.Mathlib.Omega.{arith}
use lib.Dec.{eqb}
use lib.ListN.{length}
use borrow.Author.Tests.{eqb-true, eqb-false, eq-eqb, ne_eqb, lt-leb}
use Rattle.terms.specs.Terms.{Fix, max_on}
use Rattle.lists.specs.Rows.{Row, Rows, Rising, find, count_found}
use Rattle.lists.specs.Sums.{sum_by}
use Rattle.lists.specs.Tests.{one_if, both, either, is_some, Each}
use Rattle.lists.proofs.Cases.{by_cases, option_cases}
use Rattle.lists.proofs.RowsLaws.{sum_at_key, find_head, find_tail}
use Rattle.lists.proofs.TestsLaws.{Each_map}
use Rattle.csv_grammar.specs.Csv.{Listed, file_of, Fits, numbered}
use Rattle.csv_grammar.specs.Order.{in_order}
use Rattle.csv_grammar.proofs.OrderLaws.{sum-in_order, length-in_order, Each-in_order, minutes_rise}
use Rattle.csv_grammar.proofs.ReadLaws.{read_written}
use Rattle.rules.specs.Plain.{plain_fresh, put_at}
use Rattle.rules.specs.Watches.{fresh_watched}
use Rattle.csv_order.specs.Checks.{stop_of, also_on, first_stop}
use Rattle.spreadsheet.specs.Read.{made, signed_all, verdict, read_file, plain_read}
use Rattle.spreadsheet.proofs.RunLaws.{sign_ons-verdict, latest_all, run_latest, fresh_Beside}

-- the place is not (0,0)
abbrev pub HasFix : Row Fix → Type 0
HasFix x = both (eqb x.val.place.east 0) (eqb x.val.place.north 0) ≡ false

-- a line of this radio
abbrev of_radio : ℕ → Listed → ℕ
of_radio q l = one_if (eqb q l.row.key)

-- ---- no line is stopped

one_zero : (b : Bool) → one_if b ≡ 0 → b ≡ false
one_zero true e = absurd (omega (arith, e))
one_zero false e = refl

none_stops : (ls : List Listed) (on : ℕ → Bool) (how_many : ℕ) → Each (λ l. HasFix l.row) ls → ((q : ℕ) → sum_by (of_radio q) ls + one_if (on q) ≤ 1) → how_many + length ls ≤ max_on
    → first_stop on how_many ls ≡ None
unfolding first_stop stop_of sum_by
none_stops [] on how_many fix once room = refl
none_stops (l ∷ ls) on how_many fix once room =
    let off : on l.row.key ≡ false = one_zero (on l.row.key) (omega (arith, once l.row.key, ap one_if (eq-eqb l.row.key l.row.key refl))) in
    rw (fix.0, off, lt-leb max_on how_many (omega arith)) (none_stops ls (also_on l.row.key on) (suc how_many) fix.1 later (omega arith))
  where
    later : (q : ℕ) → sum_by (of_radio q) ls + one_if (also_on l.row.key on q) ≤ 1
    later q = by_cases (eqb q l.row.key) (λ t. unfold either in rw t (omega (arith, once q, ap one_if t))) (λ t. unfold either in rw t (omega (arith, once q, ap one_if t)))

-- ---- each radio is given what its line tells

latest_kept : (ls : List Listed) (f : ℕ → Option Fix) (r : ℕ) → sum_by (of_radio r) ls ≡ 0 → latest_all ls f r ≡ f r
unfolding latest_all sum_by
latest_kept [] f r e = refl
latest_kept (l ∷ ls) f r e =
    let other = one_zero (eqb r l.row.key) (omega (arith, e)) in
    latest_kept ls (put_at l.row.key (Some l.row.val) f) r (omega (arith, e)) ∙ rw other refl

latest_given : (ls : List Listed) (f : ℕ → Option Fix) (r : ℕ) (o : Option Fix) → Each (λ l. eqb r l.row.key ≡ true → Some l.row.val ≡ o) ls → 1 ≤ sum_by (of_radio r) ls → latest_all ls f r ≡ o
unfolding latest_all sum_by
latest_given [] f r o tells e = absurd (omega arith)
latest_given (l ∷ ls) f r o tells e =
    by_cases (eqb (sum_by (of_radio r) ls) 0)
    (λ t. let z = eqb-true (sum_by (of_radio r) ls) 0 t in
    latest_kept ls (put_at l.row.key (Some l.row.val) f) r z ∙ by_cases (eqb r l.row.key) (λ u. rw u (tells.0 u)) (λ u. absurd (omega (arith, ap one_if u))))
    (λ t. latest_given ls (put_at l.row.key (Some l.row.val) f) r o tells.1 (omega (arith, eqb-false (sum_by (of_radio r) ls) 0 t)))

-- ---- the lines of rising rows

found_own : (b : ℕ) (rows : Rows Fix) → Rising b rows → Each (λ x. find rows x.key ≡ Some x.val) rows
found_own b [] a = tt
found_own b (x ∷ xs) a = (find_head x xs, Each_map _ _ xs (λ y e. find_tail x xs y.key y.val a.1 e) (found_own x.key xs a.1))

Each-numbered : (P : Row Fix → Type 0) (n : ℕ) (rows : Rows Fix) → Each P rows → Each (λ l. P l.row) (numbered n rows)
unfolding numbered
Each-numbered P n [] h = tt
Each-numbered P n (x ∷ xs) h = (h.0, Each-numbered P (suc n) xs h.1)

sum-numbered : (f : Row Fix → ℕ) (n : ℕ) (rows : Rows Fix) → sum_by (λ l. f l.row) (numbered n rows) ≡ sum_by f rows
unfolding numbered sum_by
sum-numbered f n [] = refl
sum-numbered f n (x ∷ xs) = omega (arith, sum-numbered f (suc n) xs)

length-numbered : (n : ℕ) (rows : Rows Fix) → length (numbered n rows) ≡ length rows
unfolding numbered
length-numbered n [] = refl
length-numbered n (x ∷ xs) = ap suc (length-numbered (suc n) xs)

module _ (rows : Rows Fix) (rising : Rising 0 rows) (fits : Each Fits rows) (fixes : Each HasFix rows) (few : length rows ≤ max_on) where
  abbrev taken : List Listed
  taken = in_order (numbered 2 rows)

  -- each radio stands once among them, or not at all
  count_taken : (q : ℕ) → sum_by (of_radio q) taken ≡ one_if (is_some (find rows q))
  count_taken q =
      sum-in_order (of_radio q) (numbered 2 rows) ∙ sum-numbered (λ x. one_if (eqb q x.key)) 2 rows
      ∙ sum_at_key (λ x. one_if (eqb q x.key)) 0 q rows (λ x n. ap one_if (ne_eqb q x.key (λ z. n (sym z)))) rising ∙ own (find rows q)
    where
      own : (o : Option Fix) → count_found (λ k v. one_if (eqb q k)) q o ≡ one_if (is_some o)
      own None = refl
      own (Some v) = ap one_if (eq-eqb q q refl)

  taken-Fits : Each (λ l. Fits l.row) taken
  taken-Fits = Each-in_order (λ l. Fits l.row) (numbered 2 rows) (Each-numbered Fits 2 rows fits)

  one_at_most : (b : Bool) → one_if b + 0 ≤ 1
  one_at_most true = omega arith
  one_at_most false = omega arith

  none_stopped : first_stop (λ _. false) 0 taken ≡ None
  none_stopped =
      none_stops taken (λ _. false) 0 (Each-in_order (λ l. HasFix l.row) (numbered 2 rows) (Each-numbered HasFix 2 rows fixes))
      (λ q. rw (count_taken q) (one_at_most (is_some (find rows q))))
      (omega (arith, length-in_order (numbered 2 rows), length-numbered 2 rows, few))

  pub back_made : read_file (file_of rows) ≡ made (signed_all taken fresh_watched)
  unfolding read_file
  back_made =
      rw (read_written rows fits) (sign_ons-verdict taken fresh_watched plain_fresh (λ _. false) 0 fresh_Beside taken-Fits (unfold plain_fresh in minutes_rise (numbered 2 rows))
      ∙ ap (λ (o : Option _). verdict o (signed_all taken fresh_watched)) none_stopped)

  latest_found : (q : ℕ) → latest_all taken (λ _. None) q ≡ find rows q
  latest_found q =
      option_cases (find rows q)
      (λ e. rw e (latest_kept taken (λ _. None) q (count_taken q ∙ ap (λ (o : Option Fix). one_if (is_some o)) e)))
      (λ v e. latest_given taken (λ _. None) q (find rows q)
      (Each-in_order (λ l. eqb q l.row.key ≡ true → Some l.row.val ≡ find rows q) (numbered 2 rows) (Each-numbered (λ x. eqb q x.key ≡ true → Some x.val ≡ find rows q) 2 rows
      (Each_map _ _ rows (λ x f t. sym (ap (find rows) (eqb-true q x.key t) ∙ f)) (found_own 0 rows rising))))
      (omega (arith, count_taken q, ap (λ (o : Option Fix). one_if (is_some o)) e)))

  pub back_latest : (q : ℕ) → (plain_read (file_of rows)).latest q ≡ find rows q
  unfolding plain_read
  back_latest q =
      rw (read_written rows fits) (ap (λ (f : ℕ → Option Fix). f q) (run_latest taken fresh_watched plain_fresh (λ _. false) 0 fresh_Beside taken-Fits (unfold plain_fresh in minutes_rise (numbered 2 rows)) none_stopped)
      ∙ (unfold plain_fresh in latest_found q))
