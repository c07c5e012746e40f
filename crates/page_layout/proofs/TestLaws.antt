-- What the functions of the layout test need: a law for each turn, end or return, in the words of the contracts.
use mathlib.Core.Bool.{Bool, true, false, cond}
use mathlib.Core.List.{List, ◌∷◌}
use Rattle.std.specs.Prelude.{Option, None, Some}
use mathlib.Core.Path.{◌≡◌, refl, sym, ap, ◌∙◌}
use Prim.Native.Nat.{ℕ, suc, ◌+◌, ◌-◌, ◌*◌, ◌≤◌, ◌<◌, max}
use native.Mathlib.Numerals.{add-one}
use native.Mathlib.Omega.{arith}
use lib.Dec.{eqb, ltb}
use lib.ListN.{length, get_or, take, drop, length-drop, drop_of_length-le}
use lib.Seq.{take-length, drop-cons}
use Rattle.std.specs.Option as option
use borrow.Author.Tests.{eqb-true, eq-eqb, ne_eqb, le-ltb, lt-ltb, lt-leb, ltb-true, ltb-false}
use Rattle.terms.specs.Terms.{Fix, field_bytes, max_radio}
use Rattle.lists.specs.Parts.{tab}
use Rattle.lists.specs.Rows.{Row, Rows}
use Rattle.lists.specs.Tests.{both, either, is_some}
use Rattle.lists.specs.Words.{word}
use Rattle.lists.proofs.Cases.{by_cases}
use Rattle.lists.proofs.PartsLaws.{length-tab, get_or-tab}
use Rattle.lists.proofs.TestsLaws.{both_intro, both_left_false, both_right_false}
use Rattle.entries.specs.Entries.{no_row}
use Rattle.page.specs.declared.PageKind.{PageKind}
use Rattle.page.specs.declared.PageKind.TheVariants.{Free, First, Further}
use Rattle.page.specs.Page.{kind_numbered, page_bytes, head_bytes, entry_bytes, kind_free, kind_first, kind_further, used, kind, next, cell, room_of, count, entry_at, entries}
use Rattle.page_layout.specs.Layout.{climb, top, kind_fits, laid_out}
use Rattle.page.specs.declared.Header.{Header}
use Rattle.page_layout.proofs.LayoutLaws.{climb_none, climb_step, climb_stop}

-- ---- top_from

pub top_turn : (b : List ℕ) (i s : ℕ) {r t : ℕ} → i < length b → r ≡ max s (get_or b i 0) → max s (top (drop i b)) ≡ t → max r (top (drop (i + 1) b)) ≡ t
unfolding top
top_turn b i s h f g = rw (add-one i) (omega (arith, ap top (drop-cons b i 0 h)))

pub top_end : (b : List ℕ) (i s : ℕ) {t : ℕ} → length b ≤ i → max s (top (drop i b)) ≡ t → s ≡ t
unfolding top
top_end b i s h f = omega (arith, ap top (drop_of_length-le b {i = i} h))

-- what is lent from a place on is the rest
pub rest_lent : (b : List ℕ) (from : ℕ) → take (length b - from) (drop from b) ≡ drop from b
rest_lent b from = ap (λ (n : ℕ). take n (drop from b)) (sym (length-drop from b)) ∙ take-length (drop from b)

-- ---- radios_rise

-- the climb of what is left after i radios, where these rise but the last of them may be past the greatest number
unfoldable pub climb_on : ℕ → ℕ → Rows Fix → Option ℕ
climb_on i last es = cond (both (ltb 0 i) (ltb max_radio last)) None (climb last es)

pub on_start : (last : ℕ) (es : Rows Fix) → climb_on 0 last es ≡ climb last es
unfolding climb_on both
on_start last es = refl

on_past : (i last : ℕ) (es : Rows Fix) → 0 < i → max_radio < last → climb_on i last es ≡ None
unfolding climb_on
on_past i last es h k = rw (both_intro (lt-ltb 0 i h) (lt-ltb max_radio last k))

on_within : (i last : ℕ) (es : Rows Fix) → last ≤ max_radio → climb_on i last es ≡ climb last es
unfolding climb_on
on_within i last es k = rw (both_right_false (ltb 0 i) (le-ltb max_radio last k))

on_broken : (i last : ℕ) (es : Rows Fix) → climb last es ≡ None → climb_on i last es ≡ None
unfolding climb_on
on_broken i last es e = by_cases (both (ltb 0 i) (ltb max_radio last)) (λ t. rw t) (λ t. rw t e)

on_stop : (i last : ℕ) (e : Row Fix) (es : Rows Fix) → e.key ≤ last → climb_on i last (e ∷ es) ≡ None
on_stop i last e es h = on_broken i last (e ∷ es) (climb_stop last e es (both_left_false _ (le-ltb last e.key h)))

-- a radio past the greatest number ends the climb, and all after it are past it too
on_step : (i last : ℕ) (e : Row Fix) (es : Rows Fix) → last < e.key → climb_on i last (e ∷ es) ≡ climb_on (i + 1) e.key es
on_step i last e es h =
    by_cases (ltb max_radio e.key)
    (λ t. let k = ltb-true max_radio e.key t in
    on_broken i last (e ∷ es) (climb_stop last e es (both_right_false _ (lt-leb e.key max_radio k))) ∙ sym (on_past (i + 1) e.key es (omega arith) k))
    (λ t. let k = ltb-false max_radio e.key t in
    on_within i last (e ∷ es) (omega arith) ∙ climb_step last e es h k ∙ sym (on_within (i + 1) e.key es k))

pub climb_empty : (b : List ℕ) (low : ℕ) {n : ℕ} → n ≡ 0 → Some low ≡ climb low (tab n (entry_at b))
unfolding tab
climb_empty b low e = rw (e, climb_none low)

module _ (b : List ℕ) (n i last : ℕ) {t : Option ℕ} (so : climb_on i last (drop i (tab n (entry_at b))) ≡ t) where
  module _ (inside : i < n) {r : ℕ} (e : r ≡ word field_bytes b (head_bytes + entry_bytes * i)) where
    open_entry : climb_on i last (entry_at b i ∷ drop (suc i) (tab n (entry_at b))) ≡ t
    open_entry =
        let l = length-tab n (entry_at b) in
        rw (drop-cons (tab n (entry_at b)) i no_row (omega arith), get_or-tab n (entry_at b) i no_row inside) at so

    radio_is : (entry_at b i).key ≡ r
    unfolding entry_at
    radio_is = sym e

    pub climb_turn : last < r → climb_on (i + 1) r (drop (i + 1) (tab n (entry_at b))) ≡ t
    climb_turn h =
        let a = radio_is in
        rw (add-one i)
        (ap (λ (x : ℕ). climb_on (suc i) x (drop (suc i) (tab n (entry_at b)))) (sym a)
        ∙ rw add-one at (sym (on_step i last (entry_at b i) (drop (suc i) (tab n (entry_at b))) (omega arith))) ∙ open_entry)

    pub climb_low : r ≤ last → None ≡ t
    climb_low h = let a = radio_is in sym (on_stop i last (entry_at b i) (drop (suc i) (tab n (entry_at b))) (omega arith)) ∙ open_entry

  module _ (some_radio : n ≡ 0 → ⊥) (all : n ≤ i) where
    pub climb_high : max_radio < last → None ≡ t
    climb_high h = sym (on_past i last (drop i (tab n (entry_at b))) (omega (arith, some_radio)) h) ∙ so

    pub climb_end : last ≤ max_radio → Some last ≡ t
    climb_end h =
        let l = length-tab n (entry_at b) in
        sym (climb_none last) ∙ rw (on_within i last (drop i (tab n (entry_at b))) h, drop_of_length-le (tab n (entry_at b)) {i = i} (omega arith)) at so

-- ---- kind_fits

-- the test of a kind, if a number is one's
abbrev pub fits_kind : Option PageKind → ℕ → Bool
fits_kind (Some Free) n = eqb n 0
fits_kind (Some First) n = true
fits_kind (Some Further) n = ltb 0 n
fits_kind None n = false

pub fits_numbered : (k n : ℕ) → fits_kind (kind_numbered k) n ≡ kind_fits k n
unfolding kind_fits both either
fits_numbered k n =
    by_cases (eqb k kind_free)
    (λ t. let e = eqb-true k kind_free t in rw e (by_cases (eqb n 0) (λ z. rw z) (λ z. rw z)))
    (λ t. rw t (by_cases (eqb k kind_first)
    (λ u. rw u)
    (λ u. rw u (by_cases (eqb k kind_further) (λ v. rw v) (λ v. rw v)))))

pub no_kind_fits : {o : Option PageKind} (k n : ℕ) → o ≡ kind_numbered k → o ≡ None → false ≡ kind_fits k n
no_kind_fits k n e f = ap (λ (o : Option PageKind). fits_kind o n) (sym f ∙ e) ∙ fits_numbered k n

pub that_kind_fits : {o : Option PageKind} {x y : PageKind} (k n : ℕ) → o ≡ kind_numbered k → o ≡ Some x → x ≡ y → fits_kind (Some y) n ≡ kind_fits k n
that_kind_fits k n e f g = ap (λ (o : Option PageKind). fits_kind o n) (ap Some (sym g) ∙ sym f ∙ e) ∙ fits_numbered k n

same_some : (o : Option ℕ) → option.is_some o ≡ is_some o
same_some None = refl
same_some (Some x) = refl

-- ---- laid_out: the sections grow with the tests passed

pub laid_size : (b : List ℕ) → (length b ≡ page_bytes → ⊥) → false ≡ laid_out b
unfolding laid_out both
laid_size b f = rw (ne_eqb (length b) page_bytes f)

module _ (b : List ℕ) (whole : length b ≡ page_bytes) (h : Header) (head : h ≡ record { used = used b; kind = kind b; next = next b; cell = cell b }) {n : ℕ} (room : n ≡ room_of h.used) where
  used_is : used b ≡ h.used
  used_is = ap (λ (x : Header). x.used) (sym head)

  kind_is : kind b ≡ h.kind
  kind_is = ap (λ (x : Header). x.kind) (sym head)

  count_is : count b ≡ n
  unfolding count
  count_is = ap room_of used_is ∙ sym room

  pub laid_used : (h.used ≡ head_bytes + entry_bytes * n → ⊥) → false ≡ laid_out b
  unfolding laid_out both
  laid_used f = rw (eq-eqb (length b) page_bytes whole, count_is, used_is, ne_eqb h.used (head_bytes + entry_bytes * n) f)

  module _ (fit : h.used ≡ head_bytes + entry_bytes * n) {f : Bool} (fits : f ≡ kind_fits h.kind n) where
    pub laid_kind : f ≡ false → false ≡ laid_out b
    unfolding laid_out both
    laid_kind t = rw (eq-eqb (length b) page_bytes whole, count_is, used_is, eq-eqb h.used (head_bytes + entry_bytes * n) fit, kind_is, ← fits, t)

    module _ (good : f ≡ true) {s : ℕ} (most : s ≡ top (drop (head_bytes + entry_bytes * n) b)) where
      pub laid_unused : (s ≡ 0 → ⊥) → false ≡ laid_out b
      unfolding laid_out both
      laid_unused z = rw (eq-eqb (length b) page_bytes whole, count_is, used_is, eq-eqb h.used (head_bytes + entry_bytes * n) fit, kind_is, ← fits, good, ← most, ne_eqb s 0 z)

      module _ (zeros : s ≡ 0) where
        pub laid_rest : {last : Option ℕ} {r : Bool} → last ≡ climb 0 (tab n (entry_at b)) → r ≡ option.is_some last → r ≡ laid_out b
        unfolding laid_out both entries
        laid_rest {last} rise e = e ∙ same_some last ∙ rw (eq-eqb (length b) page_bytes whole, count_is, used_is, eq-eqb h.used (head_bytes + entry_bytes * n) fit, kind_is, ← fits, good, ← most, eq-eqb s 0 zeros, ← rise)
