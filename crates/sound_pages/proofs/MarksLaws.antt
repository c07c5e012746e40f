-- Marks on pages: what is marked, counted page by page, so that walks after one another are sums.
use mathlib.Core.Bool.{Bool, true, false, not, beq}
use mathlib.Core.List.{List, [], ◌∷◌}
use mathlib.Core.Path.{◌≡◌, refl, sym, ap, ◌∙◌}
use Prim.Native.Nat.{ℕ, ◌+◌, ◌≤◌, ◌<◌}
use native.Mathlib.Nat.{add-zero}
use native.Mathlib.Omega.{arith}
use lib.Dec.{eqb, ltb}
use lib.Pointwise.{pointwise}
use lib.ListN.{length, replicate, get_or, set, length-set, length-replicate, get_or-replicate, get_or-eq_default}
use lib.Seq.{get_or-set_same, get_or-set_other}
use borrow.Author.Tests.{eqb-true, eqb-false, eq-eqb, le-ltb, lt-ltb, ltb-true, ltb-false}
use Rattle.terms.specs.Terms.{pages}
use Rattle.lists.specs.Sums.{count}
use Rattle.lists.specs.Tests.{one_if, both, all}
use Rattle.lists.proofs.Cases.{by_cases}
use Rattle.lists.proofs.SumsLaws.{sum-nil, sum-cons, count_head, length_below}
use Rattle.lists.proofs.TestsLaws.{not-true, both_left, both_right, both_intro, all-Each, Each-all, Each-get_or, get_or-Each}
use Rattle.sound_page.proofs.CodeLaws.{both_no, both_next}
use Rattle.sound_pages.specs.Walks.{Walk, no_marks, unmarked}

-- m' has the marks of m, and f q marks more on each q; a page past the last counts as unmarked, so f is 0 there
pub record Marked (m : List Bool) (f : ℕ → ℕ) (m' : List Bool) : Type 0 where
  pub size : length m' ≡ pages
  pub so : (q : ℕ) → one_if (get_or m' q false) ≡ one_if (get_or m q false) + f q

pub unmarked_bounds : (m : List Bool) (p : ℕ) → unmarked m p ≡ true → (p < pages) × (get_or m p false ≡ false)
unfolding unmarked
unmarked_bounds m p t = (ltb-true p pages (both_left _ _ t), not-true _ (both_right _ _ t))

pub past_pages : (m : List Bool) (p : ℕ) → pages ≤ p → ltb p pages ≡ unmarked m p
unfolding unmarked
past_pages m p h = le-ltb p pages h ∙ both_no _ (le-ltb p pages h)

pub in_pages : (m : List Bool) (p : ℕ) → p < pages → not (get_or m p false) ≡ unmarked m p
unfolding unmarked
in_pages m p h = both_next _ (lt-ltb p pages h)

pub bounds_unmarked : (m : List Bool) (p : ℕ) → p < pages → get_or m p false ≡ false → unmarked m p ≡ true
unfolding unmarked
bounds_unmarked m p h e = both_intro (lt-ltb p pages h) (ap not e)

-- ---- marking one page, none, and one walk after the other

pub mark_one : (m : List Bool) (p : ℕ) → length m ≡ pages → unmarked m p ≡ true → Marked m (λ q. one_if (eqb q p)) (set m p true)
mark_one m p l t =
    let u = unmarked_bounds m p t in
    record {
      size = length-set m p true ∙ l;
      so = λ q. by_cases (eqb q p)
          (λ e. rw (eqb-true q p e, get_or-set_same m p true false (omega (arith, u.0)), u.1, eq-eqb p p refl))
          (λ e. rw (get_or-set_other m p q true false (eqb-false q p e), e, add-zero));
    }

pub mark_none : (m : List Bool) → length m ≡ pages → Marked m (λ q. count q []) m
mark_none m l = record { size = l; so = λ q. omega (arith, sum-nil (λ x. one_if (eqb q x))) }

pub mark_then : {m m' m'' : List Bool} {f g : ℕ → ℕ} (h : ℕ → ℕ) → Marked m f m' → Marked m' g m'' → ((q : ℕ) → h q ≡ f q + g q) → Marked m h m''
mark_then h a b e = record { size = b.size; so = λ q. omega (arith, a.so q, b.so q, e q) }

-- a page, then the rest of its chain
pub mark_cons : (m : List Bool) (p : ℕ) (ps : List ℕ) {m'' : List Bool} → length m ≡ pages → unmarked m p ≡ true → Marked (set m p true) (λ q. count q ps) m'' → Marked m (λ q. count q (p ∷ ps)) m''
mark_cons m p ps l t r = mark_then _ (mark_one m p l t) r (λ q. sum-cons (λ x. one_if (eqb q x)) p ps)

-- ---- room: what is still to be marked is unmarked, and stands there once

abbrev pub Room : List Bool → (ℕ → ℕ) → Type 0
Room m f = (q : ℕ) → one_if (get_or m q false) + f q ≤ one_if (ltb q pages)

Room_one : (a b : Bool) (n : ℕ) → one_if a + n ≤ one_if b → 0 < n → (a ≡ false) × (b ≡ true)
Room_one true true n h k = absurd (omega arith)
Room_one true false n h k = absurd (omega arith)
Room_one false true n h k = (refl, refl)
Room_one false false n h k = absurd (omega arith)

pub Room-unmarked : (m : List Bool) (p : ℕ) (ps : List ℕ) → Room m (λ q. count q (p ∷ ps)) → unmarked m p ≡ true
Room-unmarked m p ps r = let t = Room_one (get_or m p false) (ltb p pages) _ (r p) (count_head p ps) in bounds_unmarked m p (ltb-true p pages t.1) t.0

pub Room_rest : (m : List Bool) (p : ℕ) (ps : List ℕ) → length m ≡ pages → Room m (λ q. count q (p ∷ ps)) → Room (set m p true) (λ q. count q ps)
Room_rest m p ps l r q = omega (arith, (mark_one m p l (Room-unmarked m p ps r)).so q, r q, sum-cons (λ x. one_if (eqb q x)) p ps)

pub Room-length : (m : List Bool) (ps : List ℕ) → Room m (λ q. count q ps) → length ps ≤ pages
Room-length m ps r = length_below pages ps (λ q. omega (arith, r q))

-- the walk passes, and marks f
pub record Passes (m : List Bool) (f : ℕ → ℕ) (w : Walk) : Type 0 where
  pub good : w.ok ≡ true
  pub marked : Marked m f w.marks

-- ---- no marks, and all

pub length-no_marks : length no_marks ≡ pages
unfolding no_marks
length-no_marks = length-replicate pages false

pub no_mark : (q : ℕ) → one_if (get_or no_marks q false) ≡ 0
unfolding no_marks
no_mark q =
    by_cases (ltb q pages)
    (λ t. ap one_if (get_or-replicate pages q false false (ltb-true q pages t)))
    (λ t. ap one_if (get_or-eq_default no_marks false {n = q} (ltb-false q pages t)))

pub all_marked : (m : List Bool) (q : ℕ) → length m ≡ pages → all (λ x. x) m ≡ true → one_if (get_or m q false) ≡ one_if (ltb q pages)
all_marked m q l t =
    by_cases (ltb q pages)
    (λ u. rw (u, Each-get_or (λ x. x ≡ true) m q false (all-Each (λ x. x) (λ x. x ≡ true) m (λ x e. e) t) (omega (arith, ltb-true q pages u))))
    (λ u. rw (u, get_or-eq_default m false {n = q} (omega (arith, ltb-false q pages u))))

-- the list is one of so many marks
all_same_as : (m : List Bool) → pointwise beq m (replicate (length m) true) ≡ all (λ x. x) m
unfolding all both
all_same_as [] = refl
all_same_as (true ∷ m) = all_same_as m
all_same_as (false ∷ m) = refl

pub all_same : (m : List Bool) → length m ≡ pages → pointwise beq m (replicate pages true) ≡ all (λ x. x) m
all_same m l = ap (λ n. pointwise beq m (replicate n true)) (sym l) ∙ all_same_as m

one_true : (a : Bool) → one_if a ≡ 1 → a ≡ true
one_true true e = refl
one_true false e = absurd (omega arith)

pub marked_all : (m : List Bool) → length m ≡ pages → ((q : ℕ) → one_if (get_or m q false) ≡ one_if (ltb q pages)) → all (λ x. x) m ≡ true
marked_all m l h =
    Each-all (λ x. x) (λ x. x ≡ true) m (λ x e. e)
    (get_or-Each (λ x. x ≡ true) m false (λ i b. one_true (get_or m i false) (omega (arith, h i, ap one_if (lt-ltb i pages (omega arith))))))
