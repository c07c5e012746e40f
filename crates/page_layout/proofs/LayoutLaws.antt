-- A page that passes the test is the bytes of the entries that it says, and the bytes of such entries pass.
use mathlib.Core.Bool.{true, false}
use mathlib.Core.List.{List, [], ◌∷◌, ◌++◌, append_assoc}
use Rattle.std.specs.Prelude.{None, Some}
use mathlib.Core.Path.{◌≡◌, refl, sym, ap, ap₂, ◌∙◌}
use Prim.Native.Nat.{ℕ, zero, suc, ◌+◌, ◌-◌, ◌*◌, ◌≤◌, ◌<◌}
use native.Mathlib.Numerals.{add-one}
use native.Mathlib.Omega.{arith}
use lib.Dec.{eqb, leb, ltb}
use lib.ListN.{length, drop, replicate, length-append, length-drop, take-append-drop}
use lib.Seq.{drop_at, drop-drop}
use borrow.Author.Tests.{eqb-true, eqb-false, eq-eqb, ltb-true, lt-ltb, leb-true, le-leb}
use Rattle.terms.specs.Terms.{Fix, max_radio, page_entries}
use Rattle.lists.specs.Parts.{part, tab}
use Rattle.lists.specs.Rows.{Row, Rows, Rising, UpTo}
use Rattle.lists.specs.Tests.{both, is_some}
use Rattle.lists.specs.Words.{Bytes}
use Rattle.lists.proofs.Cases.{by_cases, false-true}
use Rattle.lists.proofs.PartsLaws.{length-tab, part-append, part_zero, tab_suc}
use Rattle.lists.proofs.TestsLaws.{both_left, both_right, both_intro, either_cases, either_left, either_right}
use Rattle.lists.proofs.WordsLaws.{le-word}
use Rattle.page.specs.Page.{page_bytes, head_bytes, entry_bytes, kind_free, kind_first, kind_further, entry_of, entries_of, head_of, page_of, used, kind, next, cell, count, entry_at, entries}
use Rattle.page_layout.specs.Layout.{LaidOut, climb, top, kind_fits, laid_out}
use Rattle.page.proofs.PageLaws.{length-entries_of, length-head_of, length-page_of, length-entries, entries_of_snoc, page_fields, count-le, count-page_of, entries-page_of}

-- ---- the climb

pub climb_none : (low : ℕ) → climb low [] ≡ Some low
unfolding climb
climb_none low = refl

pub climb_step : (low : ℕ) (e : Row Fix) (es : Rows Fix) → low < e.key → e.key ≤ max_radio → climb low (e ∷ es) ≡ climb e.key es
unfolding climb
climb_step low e es h k = rw (both_intro (lt-ltb _ _ h) (le-leb _ _ k))

pub climb_stop : (low : ℕ) (e : Row Fix) (es : Rows Fix) → both (ltb low e.key) (leb e.key max_radio) ≡ false → climb low (e ∷ es) ≡ None
unfolding climb
climb_stop low e es t = rw t

pub climb-Rising : (low : ℕ) (es : Rows Fix) → is_some (climb low es) ≡ true → Rising low es × UpTo max_radio es
unfolding climb
climb-Rising low [] = λ h. (tt, tt)
climb-Rising low (e ∷ es) =
    by_cases (both (ltb low e.key) (leb e.key max_radio))
    (λ t. rw t (λ h. let r = climb-Rising e.key es h in ((ltb-true _ _ (both_left _ _ t), r.0), (leb-true _ _ (both_right _ _ t), r.1))))
    (λ t. rw t false-true)

-- the last key, low for none
unfoldable pub last_key : ℕ → Rows Fix → ℕ
last_key low [] = low
last_key low (e ∷ es) = last_key e.key es

pub Rising-climb : (low : ℕ) (es : Rows Fix) → Rising low es → UpTo max_radio es → climb low es ≡ Some (last_key low es)
unfolding last_key
Rising-climb low [] r u = climb_none low
Rising-climb low (e ∷ es) r u = climb_step low e es r.0 u.0 ∙ Rising-climb e.key es r.1 u.1

pub climb-append : (low : ℕ) (xs ys : Rows Fix) {last : ℕ} → climb low xs ≡ Some last → climb low (xs ++ ys) ≡ climb last ys
unfolding climb
climb-append low [] ys = λ e. cc
climb-append low (x ∷ xs) ys =
    by_cases (both (ltb low x.key) (leb x.key max_radio)) (λ t. rw t (λ e. climb-append x.key xs ys e)) (λ t. rw t (λ e. cc))

pub climb-append_broken : (low : ℕ) (xs ys : Rows Fix) → climb low xs ≡ None → climb low (xs ++ ys) ≡ None
unfolding climb
climb-append_broken low [] ys = λ e. cc
climb-append_broken low (x ∷ xs) ys =
    by_cases (both (ltb low x.key) (leb x.key max_radio)) (λ t. rw t (λ e. climb-append_broken x.key xs ys e)) (λ t. rw t (λ e. refl))

-- ---- the bytes from what they say

entry_back : (b : List ℕ) (i : ℕ) → Bytes b → head_bytes + entry_bytes * i + entry_bytes ≤ length b → entry_of (entry_at b i) ≡ part b (head_bytes + entry_bytes * i) entry_bytes
unfolding entry_of entry_at
entry_back b i small h =
    let a : ℕ = head_bytes + entry_bytes * i in
    let q : a + 4 ≡ a + 2 + 2 = omega arith in
    let s : a + 6 ≡ a + 2 + 2 + 2 = omega arith in
    rw (
      q,
      s,
      le-word 2 b a small (omega arith),
      le-word 2 b (a + 2) small (omega arith),
      le-word 2 b (a + 2 + 2) small (omega arith),
      le-word 4 b (a + 2 + 2 + 2) small (omega arith),
      part-append,
      part-append,
      part-append,
    )

no_entries : (b : List ℕ) → entries_of (tab 0 (entry_at b)) ≡ part b head_bytes (entry_bytes * 0)
unfolding tab entries_of
no_entries b = sym (part_zero b head_bytes)

entries_back : (b : List ℕ) (n : ℕ) → Bytes b → head_bytes + entry_bytes * n ≤ length b → entries_of (tab n (entry_at b)) ≡ part b head_bytes (entry_bytes * n)
entries_back b zero small h = no_entries b
entries_back b (suc n) small h =
    let t : tab (suc n) (entry_at b) ≡ tab n (entry_at b) ++ (entry_at b n ∷ []) = rw add-one at (tab_suc n (entry_at b)) in
    rw (t, entries_of_snoc, entries_back b n small (omega arith), entry_back b n small (omega arith), part-append) (ap (part b head_bytes) (omega arith))

head_back : (b : List ℕ) → Bytes b → head_bytes ≤ length b → head_of (used b) (kind b) (next b) (cell b) ≡ part b 0 head_bytes
unfolding head_of used kind next cell
head_back b small h =
    rw (
      le-word 2 b 0 small (omega arith),
      le-word 2 b 2 small (omega arith),
      le-word 2 b 4 small (omega arith),
      le-word 2 b 6 small (omega arith),
      part-append b 4 2 2,
      part-append b 2 2 4,
      part-append b 0 2 6,
    )

-- a greatest of 0: all are 0
zeros_back : (l : List ℕ) → top l ≡ 0 → l ≡ replicate (length l) 0
unfolding top
zeros_back [] e = refl
zeros_back (x ∷ l) e = ap₂ ◌∷◌ (omega arith) (zeros_back l (omega arith))

top_zeros : (n : ℕ) → top (replicate n 0) ≡ 0
unfolding top
top_zeros zero = refl
top_zeros (suc n) = omega (arith, top_zeros n)

cut_page : (b : List ℕ) (n : ℕ) → part b 0 head_bytes ++ (part b head_bytes n ++ drop (head_bytes + n) b) ≡ b
unfolding part
cut_page b n = rw (← drop-drop n head_bytes b, take-append-drop n (drop head_bytes b)) (take-append-drop head_bytes b)

pub page_back : (b : List ℕ) → Bytes b → length b ≡ page_bytes → used b ≡ head_bytes + entry_bytes * count b → top (drop (head_bytes + entry_bytes * count b) b) ≡ 0
    → b ≡ page_of (kind b) (next b) (cell b) (entries b)
unfolding page_of entries
page_back b small l u z =
    let n : ℕ = count b in
    let few = count-le b in
    let e : length (tab n (entry_at b)) ≡ n = length-tab n (entry_at b) in
    let k : length (drop (head_bytes + entry_bytes * n) b) ≡ page_bytes - head_bytes - entry_bytes * n = length-drop (head_bytes + entry_bytes * n) b ∙ omega arith in
    let d : drop (head_bytes + entry_bytes * n) b ≡ replicate (page_bytes - head_bytes - entry_bytes * n) 0 = zeros_back _ z ∙ ap (λ m. replicate m 0) k in
    let f : head_of (head_bytes + entry_bytes * n) (kind b) (next b) (cell b) ≡ part b 0 head_bytes = rw (← u) (head_back b small (omega arith)) in
    sym (rw (e, f, entries_back b n small (omega arith), ← d) (cut_page b (entry_bytes * n)))

-- ---- the kind

fits_known : (k n : ℕ) → kind_fits k n ≡ true → (kind_free ≤ k) × (k ≤ kind_further) × (k ≡ kind_free → n ≡ 0) × (k ≡ kind_further → 1 ≤ n)
unfolding kind_fits
fits_known k n h =
    either_cases (both (eqb k kind_free) (eqb n 0)) _ h
    (λ t. let a = eqb-true k 1 (both_left _ _ t) in let z = eqb-true n 0 (both_right _ _ t) in (omega arith, omega arith, λ e. z, λ e. absurd (omega arith)))
    (λ u. either_cases (eqb k kind_first) (both (eqb k kind_further) (ltb 0 n)) u
    (λ t. let a = eqb-true k 2 t in (omega arith, omega arith, λ e. absurd (omega arith), λ e. absurd (omega arith)))
    (λ t. let a = eqb-true k 3 (both_left _ _ t) in let z = ltb-true 0 n (both_right _ _ t) in (omega arith, omega arith, λ e. absurd (omega arith), λ e. omega arith)))

known_fits : (k n : ℕ) → kind_free ≤ k → k ≤ kind_further → (k ≡ kind_free → n ≡ 0) → (k ≡ kind_further → 1 ≤ n) → kind_fits k n ≡ true
unfolding kind_fits
known_fits k n a b f g =
    by_cases (eqb k kind_free)
    (λ t. either_left _ (both_intro t (eq-eqb n 0 (f (eqb-true k 1 t)))))
    (λ t. either_right _ (by_cases (eqb k kind_first)
    (λ u. either_left _ u)
    (λ u. let e : k ≡ kind_further = omega (arith, eqb-false k 1 t, eqb-false k 2 u) in either_right _ (both_intro (eq-eqb k 3 e) (lt-ltb 0 n (g e))))))

-- ---- the theorem

no_rows : (l : Rows Fix) → length l ≡ 0 → l ≡ []
no_rows [] e = refl
no_rows (x ∷ l) e = absurd (omega arith)

pub laid_out_lem : (b : List ℕ) → Bytes b → laid_out b ≡ true → LaidOut b
unfolding laid_out
laid_out_lem b small h =
    let l = eqb-true _ _ (both_left _ _ h) in
    let h₁ = both_right _ _ h in
    let h₂ = both_right _ _ h₁ in
    let h₃ = both_right _ _ h₂ in
    let k = fits_known _ _ (both_left _ _ h₂) in
    let r = climb-Rising 0 (entries b) (both_right _ _ h₃) in
    let n = length-entries b in
    record {
      rows = entries b;
      bytes = page_back b small l (eqb-true _ _ (both_left _ _ h₁)) (eqb-true _ _ (both_left _ _ h₃));
      few = omega (arith, n, count-le b);
      known = (k.0, k.1);
      free = λ e. no_rows (entries b) (n ∙ k.2 e);
      further = λ e. omega (arith, n, k.3 e);
      rising = r.0;
      radios = r.1;
    }

top-page_of : (k n c : ℕ) (es : Rows Fix) → length es ≤ page_entries → top (drop (head_bytes + entry_bytes * length es) (page_of k n c es)) ≡ 0
unfolding page_of
top-page_of k n c es few =
    let z : ℕ = page_bytes - head_bytes - entry_bytes * length es in
    let h = head_of (head_bytes + entry_bytes * length es) k n c in
    let l : length (h ++ entries_of es) ≡ head_bytes + entry_bytes * length es = simp (length-append, length-head_of, length-entries_of) in
    rw (← append_assoc h (entries_of es) (replicate z 0), drop_at (h ++ entries_of es) (replicate z 0) (head_bytes + entry_bytes * length es) l, top_zeros)

-- the bytes of entries that rise pass
pub page_passes : (k n c : ℕ) (es : Rows Fix) → length es ≤ page_entries → kind_fits k (length es) ≡ true → Rising 0 es → UpTo max_radio es → laid_out (page_of k n c es) ≡ true
unfolding laid_out
page_passes k n c es few fits r u =
    let w = page_fields k n c es in
    rw (count-page_of k n c es few, entries-page_of k n c es few, w.0, w.1, Rising-climb 0 es r u)
    (both_intro (eq-eqb _ _ (length-page_of k n c es few)) (both_intro (eq-eqb (head_bytes + entry_bytes * length es) _ refl) (both_intro fits (both_intro (eq-eqb _ _ (top-page_of k n c es few)) refl))))

pub laid_out_test : (b : List ℕ) → LaidOut b → laid_out b ≡ true
laid_out_test b l =
    ap laid_out l.bytes ∙ page_passes _ _ _ l.rows l.few (known_fits _ _ l.known.0 l.known.1 (λ e. ap length (l.free e)) l.further) l.rising l.radios

-- the entries of a page that is laid out are those that its bytes say
pub LaidOut-rows : (b : List ℕ) (l : LaidOut b) → l.rows ≡ entries b
LaidOut-rows b l = sym (ap entries l.bytes ∙ entries-page_of _ _ _ l.rows l.few)
