-- A page that passes is the bytes of the entries that it says, and the bytes of such entries pass.
use mathlib.Core.Bool.{true}
use mathlib.Core.List.{List, [], ◌∷◌, ◌++◌}
use mathlib.Core.Path.{◌≡◌, refl, sym, ap, ◌∙◌, subst}
use Prim.Native.Nat.{ℕ, ◌+◌, ◌*◌, ◌≤◌, ◌<◌}
use native.Mathlib.Omega.{arith}
use lib.Dec.{eqb, ltb}
use lib.ListN.{length, get_or-eq_default}
use borrow.Author.Tests.{eqb-true, eq-eqb, le-leb, leb-true, lt-ltb, ltb-true, ltb-false}
use Rattle.terms.specs.Terms.{Fix, max_radio, pages, page_entries, no_page, no_cell}
use Rattle.lists.specs.Rows.{Rows, Rising, UpTo}
use Rattle.lists.specs.Tests.{both, either, Each}
use Rattle.lists.specs.Words.{Bytes}
use Rattle.lists.proofs.Cases.{by_cases}
use Rattle.lists.proofs.PartsLaws.{get_or-part}
use Rattle.lists.proofs.RowsLaws.{Rising_less}
use Rattle.lists.proofs.TestsLaws.{both_left, both_right, both_intro, either_cases, Each_map, Each_zip, Each-all, all-Each}
use Rattle.page.specs.Page.{page_bytes, kind_free, kind_further, page_of, free_page_of, kind, next, cell, count, entries}
use Rattle.page.specs.Buffer.{buffer_bytes, page_at}
use Rattle.page_layout.specs.Layout.{kind_fits}
use Rattle.page.proofs.BufferLaws.{length-page_at}
use Rattle.page_layout.proofs.LayoutLaws.{laid_out_lem, LaidOut-rows, page_passes}
use Rattle.page.proofs.PageLaws.{length-entries, page_fields, count-page_of, entries-page_of}
use Rattle.desk.specs.declared.Slot.{Slot}
use Rattle.sound_page.specs.PageTest.{is_page, full_or_last, starts_above, last_radio, inside_of, belongs, page_ok}

-- ---- lists: radios from page to page

above_Rising : (low : ℕ) (es : Rows Fix) → starts_above low es ≡ true → Rising 0 es → Rising low es
unfolding starts_above
above_Rising low [] t r = tt
above_Rising low (e ∷ es) t r = (ltb-true low e.key t, r.1)

Rising_above : (low : ℕ) (es : Rows Fix) → Rising low es → starts_above low es ≡ true
unfolding starts_above
Rising_above low [] r = refl
Rising_above low (e ∷ es) r = lt-ltb low e.key r.0

pub Rising_join : (low : ℕ) (xs ys : Rows Fix) → Rising low xs → Rising (last_radio low xs) ys → Rising low (xs ++ ys)
unfolding last_radio
Rising_join low [] ys r t = t
Rising_join low (x ∷ xs) ys r t = (r.0, Rising_join x.key xs ys r.1 t)

pub Rising_split : (low : ℕ) (xs ys : Rows Fix) → Rising low (xs ++ ys) → Rising low xs × Rising (last_radio low xs) ys
unfolding last_radio
Rising_split low [] ys r = (tt, r)
Rising_split low (x ∷ xs) ys r = let t = Rising_split x.key xs ys r.1 in ((r.0, t.0), t.1)

-- ---- a page's bytes are bytes

pub Bytes_page : (b : List ℕ) (p : ℕ) → Bytes b → length b ≡ buffer_bytes → p < pages → Bytes (page_at b p)
unfolding page_at
Bytes_page b p small l h i =
    let n = length-page_at b p (omega arith) in
    by_cases (ltb i page_bytes)
    (λ t. rw (get_or-part b (page_bytes * p) page_bytes i 0 (ltb-true i page_bytes t)) (small (page_bytes * p + i)))
    (λ t. rw (get_or-eq_default (page_at b p) 0 {n = i} (omega (arith, ltb-false i page_bytes t))) (omega arith))

-- ---- a page of some kind and cell

pub record IsPage (k c : ℕ) (b : List ℕ) : Type 0 where
  pub bytes : b ≡ page_of k (next b) c (entries b)
  pub few : length (entries b) ≤ page_entries
  pub known : k ≤ kind_further
  pub free : k ≡ kind_free → entries b ≡ []
  pub further : k ≡ kind_further → 1 ≤ length (entries b)
  pub rising : Rising 0 (entries b)
  pub radios : UpTo max_radio (entries b)

pub page_right : (k c : ℕ) (b : List ℕ) → Bytes b → is_page k c b ≡ true → IsPage k c b
unfolding is_page
page_right k c b small t =
    let l = laid_out_lem b small (both_left _ _ t) in
    let e = LaidOut-rows b l in
    let f = both_right _ _ t in
    let kk = eqb-true (kind b) k (both_left _ _ f) in
    let cc' = eqb-true (cell b) c (both_right _ _ f) in
    let n : length l.rows ≡ length (entries b) = ap length e in
    record {
      bytes = l.bytes ∙ ap (λ (x : ℕ). page_of x (next b) (cell b) l.rows) kk ∙ ap (λ (x : ℕ). page_of k (next b) x l.rows) cc' ∙ ap (page_of k (next b) c) e;
      few = omega (arith, l.few);
      known = omega (arith, l.known.1);
      free = λ z. sym e ∙ l.free (kk ∙ z);
      further = λ z. omega (arith, l.further (kk ∙ z));
      rising = subst (λ (x : Rows Fix). Rising 0 x) e l.rising;
      radios = subst (λ (x : Rows Fix). UpTo max_radio x) e l.radios;
    }

pub page_left : (k n c : ℕ) (es : Rows Fix) → length es ≤ page_entries → kind_fits k (length es) ≡ true → Rising 0 es → UpTo max_radio es → is_page k c (page_of k n c es) ≡ true
unfolding is_page
page_left k n c es few fits r u =
    let w = page_fields k n c es in
    both_intro (page_passes k n c es few fits r u) (both_intro (eq-eqb _ _ w.1) (eq-eqb _ _ w.3))

-- ---- a free page

pub free_right : (b : List ℕ) → Bytes b → is_page kind_free no_cell b ≡ true → b ≡ free_page_of (next b)
unfolding free_page_of
free_right b small t = let p = page_right kind_free no_cell b small t in p.bytes ∙ ap (page_of kind_free (next b) no_cell) (p.free refl)

pub free_left : (n : ℕ) → is_page kind_free no_cell (free_page_of n) ≡ true
unfolding free_page_of kind_fits either both
free_left n = page_left kind_free n no_cell [] (omega arith) refl tt tt

pub next_free : (n : ℕ) → next (free_page_of n) ≡ n
unfolding free_page_of
next_free n = (page_fields kind_free n no_cell []).2

-- ---- entries that belong to a cell: in its rectangle, and none above the highest minute

module _ (highest : ℕ) (s : Slot) (es : Rows Fix) where
  pub belong_placed : Each (λ e. belongs highest s e ≡ true) es → Each (λ e. inside_of s e ≡ true) es
  belong_placed h = Each_map (λ e. belongs highest s e ≡ true) (λ e. inside_of s e ≡ true) es (λ e t. both_left _ _ t) h

  pub belong_dated : Each (λ e. belongs highest s e ≡ true) es → Each (λ e. e.val.minute ≤ highest) es
  belong_dated h = Each_map (λ e. belongs highest s e ≡ true) (λ e. e.val.minute ≤ highest) es (λ e t. leb-true e.val.minute highest (both_right _ _ t)) h

  pub belong_both : Each (λ e. inside_of s e ≡ true) es → Each (λ e. e.val.minute ≤ highest) es → Each (λ e. belongs highest s e ≡ true) es
  belong_both h d =
      Each_zip (λ e. inside_of s e ≡ true) (λ e. e.val.minute ≤ highest) (λ e. belongs highest s e ≡ true) es
      (λ e t m. both_intro t (le-leb e.val.minute highest m)) h d

-- ---- a page of a cell

pub record CellPage (highest : ℕ) (s : Slot) (k low : ℕ) (b : List ℕ) : Type 0 where
  pub page : IsPage k s.number b
  pub full : (next b ≡ no_page → ⊥) → length (entries b) ≡ page_entries
  pub rising : Rising low (entries b)
  pub belong : Each (λ e. belongs highest s e ≡ true) (entries b)

pub cell_right : (highest : ℕ) (s : Slot) (k low : ℕ) (b : List ℕ) → Bytes b → page_ok highest s k low b ≡ true → CellPage highest s k low b
unfolding page_ok full_or_last
cell_right highest s k low b small t =
    let p = page_right k s.number b small (both_left _ _ t) in
    let u = both_right _ _ t in
    let v = both_right _ _ u in
    record {
      page = p;
      full = λ n. length-entries b ∙ either_cases (eqb (next b) no_page) (eqb (count b) page_entries) (both_left _ _ u) (λ e. absurd (n (eqb-true _ _ e))) (eqb-true (count b) page_entries);
      rising = above_Rising low (entries b) (both_left _ _ v) p.rising;
      belong = all-Each (belongs highest s) (λ e. belongs highest s e ≡ true) (entries b) (λ e h. h) (both_right _ _ v);
    }

pub cell_left : (highest : ℕ) (s : Slot) (k low n : ℕ) (es : Rows Fix) → length es ≤ page_entries → kind_fits k (length es) ≡ true → either (eqb n no_page) (eqb (length es) page_entries) ≡ true
    → Rising low es → UpTo max_radio es → Each (λ e. belongs highest s e ≡ true) es → page_ok highest s k low (page_of k n s.number es) ≡ true
unfolding page_ok full_or_last
cell_left highest s k low n es few fits full r u i =
    rw ((page_fields k n s.number es).2, count-page_of k n s.number es few, entries-page_of k n s.number es few)
    (both_intro (page_left k n s.number es few fits (Rising_less 0 low es (omega arith) r) u)
    (both_intro full (both_intro (Rising_above low es r) (Each-all (belongs highest s) (λ e. belongs highest s e ≡ true) es (λ e h. h) i))))
