-- What the functions need: a law for each turn, end or return, in the words of the contracts.
use mathlib.Core.Bool.{Bool, true, false, not}
use mathlib.Core.List.{List, [], ◌∷◌, ◌++◌}
use mathlib.Core.Path.{◌≡◌, refl, sym, ap, ◌∙◌}
use Prim.Native.Nat.{ℕ, suc, ◌+◌, ◌-◌, ◌≤◌, ◌<◌}
use native.Mathlib.Numerals.{add-one}
use native.Mathlib.Omega.{arith}
use lib.Dec.{eqb, ltb}
use lib.ListN.{length, drop, drop_of_length-le}
use lib.Seq.{drop-cons}
use borrow.Author.Tests.{eq-eqb, ne_eqb}
use Rattle.terms.specs.Terms.{Fix, page_entries, no_page, no_cell}
use Rattle.lists.specs.Parts.{tab}
use Rattle.lists.specs.Rows.{Row, Rows}
use Rattle.lists.specs.Tests.{both, either, all}
use Rattle.lists.proofs.Cases.{by_cases}
use Rattle.lists.proofs.PartsLaws.{length-tab, get_or-tab, tab_suc}
use Rattle.lists.proofs.TestsLaws.{not-true, not-false, both_left_false, both_right_false, all-cons}
use Rattle.entries.specs.declared.Entry.{Entry}
use Rattle.entries.specs.Entries.{row_of, no_row}
use Rattle.page.specs.Page.{page_bytes, head_bytes, kind_free, used, kind, next, cell, count, entry_at, entries}
use Rattle.page_layout.specs.Layout.{top, laid_out}
use Rattle.page.specs.declared.Header.{Header}
use Rattle.desk.specs.declared.Slot.{Slot}
use Rattle.sound_page.specs.PageTest.{is_page, full_or_last, starts_above, last_radio, belongs, page_ok}
use Rattle.sound_page.proofs.FreeLaws.{free_used, free_zeros}

-- ---- lists: two tests

pub both_no : {a : Bool} (b : Bool) → a ≡ false → false ≡ both a b
unfolding both
both_no b e = rw e

pub both_next : {a : Bool} (b : Bool) → a ≡ true → b ≡ both a b
unfolding both
both_next b e = rw e

-- ---- is_page

abbrev header_of : List ℕ → Header
header_of b = record { used = used b; kind = kind b; next = next b; cell = cell b }

module _ (k c : ℕ) (b : List ℕ) {l : Bool} (laid : l ≡ laid_out b) where
  pub page_not_laid : not l ≡ true → false ≡ is_page k c b
  unfolding is_page
  page_not_laid t = both_no _ (sym laid ∙ not-true l t)

  module _ (good : not l ≡ false) (h : Header) (head : h ≡ header_of b) where
    pub page_other_kind : (h.kind ≡ k → ⊥) → false ≡ is_page k c b
    unfolding is_page
    page_other_kind f = both_no _ (ne_eqb (kind b) k (λ z. f (ap (λ (x : Header). x.kind) head ∙ z))) ∙ both_next _ (sym laid ∙ not-false l good)

    pub page_cell : h.kind ≡ k → eqb h.cell c ≡ is_page k c b
    unfolding is_page
    page_cell f =
        ap (λ (x : Header). eqb x.cell c) head
        ∙ both_next _ (eq-eqb (kind b) k (sym (ap (λ (x : Header). x.kind) head) ∙ f))
        ∙ both_next _ (sym laid ∙ not-false l good)

-- ---- is_free

module _ (b : List ℕ) (h : Header) (head : h ≡ header_of b) where
  pub free_has_entry : (h.used ≡ head_bytes → ⊥) → false ≡ is_page kind_free no_cell b
  free_has_entry f = by_cases (is_page kind_free no_cell b) (λ t. absurd (f (ap (λ (x : Header). x.used) head ∙ free_used b t))) sym

  pub free_other_kind : {n : ℕ} → n ≡ kind_free → (h.kind ≡ n → ⊥) → false ≡ is_page kind_free no_cell b
  unfolding is_page
  free_other_kind e f = sym (both_right_false _ (both_left_false _ (ne_eqb (kind b) kind_free (λ z. f (ap (λ (x : Header). x.kind) head ∙ z ∙ sym e)))))

  pub free_of_cell : (h.cell ≡ no_cell → ⊥) → false ≡ is_page kind_free no_cell b
  unfolding is_page
  free_of_cell f = sym (both_right_false _ (both_right_false _ (ne_eqb (cell b) no_cell (λ z. f (ap (λ (x : Header). x.cell) head ∙ z)))))

  pub free_tested : length b ≡ page_bytes → h.used ≡ head_bytes → {n : ℕ} → n ≡ kind_free → h.kind ≡ n → h.cell ≡ no_cell → {s : ℕ} → s ≡ top (drop head_bytes b) → eqb s 0 ≡ is_page kind_free no_cell b
  free_tested l u f k c e =
      ap (λ (x : ℕ). eqb x 0) e
      ∙ free_zeros b l (sym (ap (λ (x : Header). x.used) head) ∙ u) (sym (ap (λ (x : Header). x.kind) head) ∙ k ∙ f) (sym (ap (λ (x : Header). x.cell) head) ∙ c)

-- ---- full_or_last

module _ (b : List ℕ) (h : Header) (head : h ≡ header_of b) where
  pub last_page : h.next ≡ no_page → true ≡ full_or_last b
  unfolding full_or_last either
  last_page e = rw (eq-eqb (next b) no_page (sym (ap (λ (x : Header). x.next) head) ∙ e))

  pub full_page : (h.next ≡ no_page → ⊥) → {n : ℕ} → n ≡ count b → eqb n page_entries ≡ full_or_last b
  unfolding full_or_last either
  full_page f e = rw (ne_eqb (next b) no_page (λ z. f (ap (λ (x : Header). x.next) head ∙ z)), e)

  pub next_is : h.next ≡ next b
  next_is = ap (λ (x : Header). x.next) head

-- ---- starts_above, last_radio

pub starts_none : (low : ℕ) (b : List ℕ) {n : ℕ} → n ≡ 0 → true ≡ starts_above low (tab n (entry_at b))
unfolding starts_above tab
starts_none low b e = rw e

starts_tab : (low n : ℕ) (f : ℕ → Row Fix) → starts_above low (tab (suc n) f) ≡ ltb low (f 0).key
unfolding starts_above tab
starts_tab low n f = refl

pub starts_first : (low : ℕ) (b : List ℕ) (n : ℕ) (e : Entry) → (n ≡ 0 → ⊥) → row_of e ≡ entry_at b 0 → ltb low e.radio ≡ starts_above low (tab n (entry_at b))
starts_first low b n e f g =
    let q : suc (n - 1) ≡ n = omega arith in
    ap (λ (x : Row Fix). ltb low x.key) g ∙ sym (starts_tab low (n - 1) (entry_at b)) ∙ ap (λ k. starts_above low (tab k (entry_at b))) q

last_snoc : (low : ℕ) (xs : Rows Fix) (x : Row Fix) → last_radio low (xs ++ (x ∷ [])) ≡ x.key
unfolding last_radio
last_snoc low [] x = refl
last_snoc low (y ∷ xs) x = last_snoc y.key xs x

pub last_none : (low : ℕ) (b : List ℕ) {n : ℕ} → n ≡ count b → n ≡ 0 → low ≡ last_radio low (entries b)
unfolding last_radio entries tab
last_none low b e z = rw (sym e ∙ z)

pub last_some : (low : ℕ) (b : List ℕ) (n : ℕ) (e : Entry) → n ≡ count b → (n ≡ 0 → ⊥) → row_of e ≡ entry_at b (n - 1) → e.radio ≡ last_radio low (entries b)
unfolding entries
last_some low b n e c f g =
    let q : n - 1 + 1 ≡ n = omega arith in
    ap (λ (x : Row Fix). x.key) g ∙ sym (last_snoc low (tab (n - 1) (entry_at b)) (entry_at b (n - 1)))
    ∙ ap (last_radio low) (sym (tab_suc (n - 1) (entry_at b)) ∙ ap (λ k. tab k (entry_at b)) (q ∙ c))

-- ---- all_belong

module _ (highest : ℕ) (s : Slot) (b : List ℕ) (n i : ℕ) (below : i < n) {e : Entry} (read : row_of e ≡ entry_at b i) {r : Bool} (one : r ≡ belongs highest s (row_of e)) where
  belong_open : all (belongs highest s) (drop i (tab n (entry_at b))) ≡ both r (all (belongs highest s) (drop (i + 1) (tab n (entry_at b))))
  belong_open =
      let l = length-tab n (entry_at b) in
      let q : belongs highest s (entry_at b i) ≡ r = ap (belongs highest s) (sym read) ∙ sym one in
      rw (drop-cons (tab n (entry_at b)) i no_row (omega arith), get_or-tab n (entry_at b) i no_row below, all-cons, q, add-one i)

  module _ {t : Bool} (so : all (belongs highest s) (drop i (tab n (entry_at b))) ≡ t) where
    pub belong_no : not r ≡ true → false ≡ t
    belong_no h = both_no _ (not-true r h) ∙ sym belong_open ∙ so

    pub belong_turn : not r ≡ false → all (belongs highest s) (drop (i + 1) (tab n (entry_at b))) ≡ t
    belong_turn h = both_next _ (not-false r h) ∙ sym belong_open ∙ so

pub belong_end : (highest : ℕ) (s : Slot) (b : List ℕ) {n i : ℕ} {t : Bool} → n ≤ i → all (belongs highest s) (drop i (tab n (entry_at b))) ≡ t → true ≡ t
unfolding all
belong_end highest s b {n} {i} h so = let l = length-tab n (entry_at b) in rw (drop_of_length-le (tab n (entry_at b)) {i = i} (omega arith)) at so

-- ---- page_ok: the sections grow with the tests passed

module _ (highest : ℕ) (s : Slot) (k low : ℕ) (b : List ℕ) {a : Bool} (head : a ≡ is_page k s.number b) where
  pub ok_not_page : not a ≡ true → false ≡ page_ok highest s k low b
  unfolding page_ok
  ok_not_page t = both_no _ (sym head ∙ not-true a t)

  module _ (is : not a ≡ false) {f : Bool} (full : f ≡ full_or_last b) where
    pub ok_not_full : not f ≡ true → false ≡ page_ok highest s k low b
    unfolding page_ok
    ok_not_full t = both_no _ (sym full ∙ not-true f t) ∙ both_next _ (sym head ∙ not-false a is)

    module _ (filled : not f ≡ false) {n : ℕ} (counted : n ≡ count b) {o : Bool} (above : o ≡ starts_above low (tab n (entry_at b))) where
      rest_ok : both o (all (belongs highest s) (tab n (entry_at b))) ≡ page_ok highest s k low b
      unfolding page_ok entries
      rest_ok =
          ap (λ (x : Bool). both x (all (belongs highest s) (tab n (entry_at b)))) above
          ∙ ap (λ (x : ℕ). both (starts_above low (tab x (entry_at b))) (all (belongs highest s) (tab x (entry_at b)))) counted
          ∙ both_next _ (sym full ∙ not-false f filled) ∙ both_next _ (sym head ∙ not-false a is)

      pub ok_not_above : not o ≡ true → false ≡ page_ok highest s k low b
      ok_not_above t = both_no _ (not-true o t) ∙ rest_ok

      pub ok_belong : not o ≡ false → {r : Bool} → r ≡ all (belongs highest s) (tab n (entry_at b)) → r ≡ page_ok highest s k low b
      ok_belong t e = e ∙ both_next _ (not-false o t) ∙ rest_ok
