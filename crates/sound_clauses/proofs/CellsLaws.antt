-- The tests of numbers, pages and entries say just the clauses.
use mathlib.Core.Path.{◌≡◌}
use mathlib.Core.Bool.{true}
use mathlib.Core.List.{List}
use Prim.Native.Nat.{ℕ, ◌≤◌, ◌<◌}
use lib.Dec.{leb, ltb}
use lib.ListN.{length}
use borrow.Author.Tests.{le-leb, leb-true, lt-ltb, ltb-true, eqb-true, eq-eqb}
use Rattle.terms.specs.Terms.{Fix, max_radio, pages}
use Rattle.lists.specs.Rows.{Rows, Rising, UpTo}
use Rattle.lists.specs.Sums.{count}
use Rattle.lists.specs.Tests.{one_if, Each}
use Rattle.lists.proofs.TestsLaws.{all-Each, Each-all}
use Rattle.rules.specs.Limits.{max_cells}
use Rattle.rules.specs.Grid.{Rect, inside}
use Rattle.rules.specs.Store.{pages_for}
use Rattle.sound_clauses.specs.Cells.{numbers_test, round_test, pages_test, chain_test, radios_test, inside_test, minutes_test}
use Rattle.sound_clauses.proofs.LoopsLaws.{rises_rows, rows_rise, once_true, true_once, at_most_true, true_at_most}

-- ---- numbers

pub numbers_true : (numbers : List ℕ) → numbers_test numbers ≡ true → Each (λ n. n < max_cells) numbers
unfolding numbers_test
numbers_true numbers e = all-Each (λ n. ltb n max_cells) (λ n. n < max_cells) numbers (λ n t. ltb-true n max_cells t) e

pub true_numbers : (numbers : List ℕ) → Each (λ n. n < max_cells) numbers → numbers_test numbers ≡ true
unfolding numbers_test
true_numbers numbers e = Each-all (λ n. ltb n max_cells) (λ n. n < max_cells) numbers (λ n h. lt-ltb n max_cells h) e

pub round_true : (numbers : List ℕ) → Each (λ n. n < max_cells) numbers → round_test numbers ≡ true → (n : ℕ) → count n numbers ≤ 1
unfolding round_test
round_true numbers b e = at_most_true max_cells numbers b e

pub true_round : (numbers : List ℕ) → ((n : ℕ) → count n numbers ≤ 1) → round_test numbers ≡ true
unfolding round_test
true_round numbers h = true_at_most max_cells numbers h

-- ---- pages

pub pages-true : (chained : List ℕ) → pages_test chained ≡ true → (p : ℕ) → count p chained ≡ one_if (ltb p pages)
unfolding pages_test
pages-true chained e = once_true pages chained e

pub true-pages : (chained : List ℕ) → ((p : ℕ) → count p chained ≡ one_if (ltb p pages)) → pages_test chained ≡ true
unfolding pages_test
true-pages chained h = true_once pages chained h

pub chain_true : (chain : List ℕ) (es : Rows Fix) → chain_test chain es ≡ true → length chain ≡ pages_for (length es)
unfolding chain_test
chain_true chain es e = eqb-true (length chain) (pages_for (length es)) e

pub true_chain : (chain : List ℕ) (es : Rows Fix) → length chain ≡ pages_for (length es) → chain_test chain es ≡ true
unfolding chain_test
true_chain chain es e = eq-eqb (length chain) (pages_for (length es)) e

-- ---- entries

pub radios_true : (es : Rows Fix) → radios_test es ≡ true → Rising 0 es × UpTo max_radio es
unfolding radios_test
radios_true es e = rises_rows max_radio 0 es e

pub true_radios : (es : Rows Fix) → Rising 0 es → UpTo max_radio es → radios_test es ≡ true
unfolding radios_test
true_radios es r u = rows_rise max_radio 0 es r u

pub inside-true : (edges : Rect) (es : Rows Fix) → inside_test edges es ≡ true → Each (λ e. inside edges e.val.place ≡ true) es
unfolding inside_test
inside-true edges es e = all-Each (λ x. inside edges x.val.place) (λ x. inside edges x.val.place ≡ true) es (λ x t. t) e

pub true-inside : (edges : Rect) (es : Rows Fix) → Each (λ e. inside edges e.val.place ≡ true) es → inside_test edges es ≡ true
unfolding inside_test
true-inside edges es e = Each-all (λ x. inside edges x.val.place) (λ x. inside edges x.val.place ≡ true) es (λ x t. t) e

pub minutes_true : (highest : ℕ) (es : Rows Fix) → minutes_test highest es ≡ true → Each (λ e. e.val.minute ≤ highest) es
unfolding minutes_test
minutes_true highest es e = all-Each (λ x. leb x.val.minute highest) (λ x. x.val.minute ≤ highest) es (λ x t. leb-true x.val.minute highest t) e

pub true_minutes : (highest : ℕ) (es : Rows Fix) → Each (λ e. e.val.minute ≤ highest) es → minutes_test highest es ≡ true
unfolding minutes_test
true_minutes highest es e = Each-all (λ x. leb x.val.minute highest) (λ x. x.val.minute ≤ highest) es (λ x t. le-leb x.val.minute highest t) e
