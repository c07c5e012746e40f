-- What the neighbour's answer says where the directory and the pages are those of cells: it is the one that the rules take.
use mathlib.Core.Path.{◌≡◌, refl, sym, ap, ap₂, ◌∙◌, subst}
use mathlib.Core.Bool.{Bool}
use mathlib.Core.List.{List, [], ◌∷◌, map}
use Rattle.std.specs.Prelude.{Option, None, Some}
use Prim.Native.Nat.{ℕ, ◌+◌, ◌≤◌, ◌<◌, min}
use native.Mathlib.Omega.{arith}
use lib.Dec.{leb}
use lib.ListN.{length, get_or, take, length-take}
use borrow.Author.Tests.{leb-true, le-leb}
use Rattle.terms.specs.Terms.{Fix, pages, page_entries, no_page}
use Rattle.lists.specs.Chains.{chain_head}
use Rattle.lists.specs.Rows.{Rows}
use Rattle.lists.specs.Tests.{Each, both, or_else, first_at, first_that, first_some}
use Rattle.lists.proofs.Cases.{by_cases, option_cases, first_some_cases}
use Rattle.lists.proofs.TestsLaws.{bool_ext, Each_zip, Each_over_map, first_at-some}
use Rattle.page.specs.Page.{kind_first, count as entry_count}
use Rattle.page.specs.Buffer.{page_at}
use Rattle.page.proofs.PageLaws.{count-page_of}
use Rattle.rules.specs.Limits.{join_entries}
use Rattle.rules.specs.Grid.{Rect}
use Rattle.rules.specs.Store.{Cell, pages_for}
use Rattle.rules.specs.Flush.{Flushed, Side, beside, joinable, sides, neighbour}
use Rattle.rules.proofs.PagedLaws.{pages_for_some}
use Rattle.desk.specs.declared.Slot.{Slot}
use Rattle.desk.specs.Layout.{slot_of, leaves, cell_leaves, At as LaidAt}
use Rattle.desk.specs.Views.{edges_of}
use Rattle.join.specs.Join.{few_with, may_join, nearest}

-- ---- lists

module _ {A : Type 0} where
  -- the element at a place, if there is a place
  abbrev element_at : List A → A → Option ℕ → Option A
  element_at l z None = None
  element_at l z (Some k) = Some (get_or l k z)

  first_element : (p : A → Bool) (l : List A) (z : A) → first_that p l ≡ element_at l z (first_at p l)
  unfolding first_that first_at
  first_element p [] z = refl
  first_element p (x ∷ xs) z =
      by_cases (p x)
      (λ t. rw t)
      (λ t. option_cases (first_at p xs) (λ n. rw (t, first_element p xs z, n)) (λ k n. rw (t, first_element p xs z, n)))

  element_or_else : (l : List A) (z : A) (o q : Option ℕ) → or_else (element_at l z o) (element_at l z q) ≡ element_at l z (or_else o q)
  element_or_else l z None q = refl
  element_or_else l z (Some k) q = refl

  element_some : {B : Type 0} (l : List A) (z : A) (f : B → Option ℕ) (g : B → Option A) → ((x : B) → g x ≡ element_at l z (f x)) → (xs : List B) → first_some g xs ≡ element_at l z (first_some f xs)
  unfolding first_some
  element_some l z f g h [] = refl
  element_some l z f g h (x ∷ xs) = ap₂ or_else (h x) (element_some l z f g h xs) ∙ element_or_else l z (f x) (first_some f xs)

first_mapped : {A B : Type 0} (p : B → Bool) (q : A → Bool) (g : A → B) (l : List A) → Each (λ x. p (g x) ≡ q x) l → first_at p (map g l) ≡ first_at q l
unfolding first_at
first_mapped p q g [] e = refl
first_mapped p q g (x ∷ xs) e = rw (e.0, first_mapped p q g xs e.1)

-- ---- a cell

-- its entries on its first page
first_page : (b : List ℕ) (cell : ℕ) (chain : List ℕ) (es : Rows Fix) → Each (LaidAt b) (leaves kind_first cell chain es) → 1 ≤ length chain → entry_count (page_at b (chain_head no_page chain)) ≡ min page_entries (length es)
unfolding leaves
first_page b cell [] es a h = absurd (omega arith)
first_page b cell (p ∷ ps) es a h =
    ap entry_count a.0 ∙ count-page_of kind_first (chain_head no_page ps) cell (take page_entries es) (omega (arith, length-take page_entries es)) ∙ length-take page_entries es

-- they tell whether few are together
few_together : (n k : ℕ) → leb (n + min page_entries k) join_entries ≡ leb (n + k) join_entries
few_together n k =
    bool_ext (leb (n + min page_entries k) join_entries) (leb (n + k) join_entries)
    (λ t. le-leb (n + k) join_entries (omega (arith, leb-true (n + min page_entries k) join_entries t)))
    (λ t. le-leb (n + min page_entries k) join_entries (omega (arith, leb-true (n + k) join_entries t)))

first_below : (chain : List ℕ) → Each (λ p. p < pages) chain → 1 ≤ length chain → chain_head no_page chain < pages
first_below [] e h = absurd (omega arith)
first_below (p ∷ ps) e h = e.0

-- laid out in the bytes, and on the pages that it needs
abbrev Stored : List ℕ → Cell → Type 0
Stored b c = Each (LaidAt b) (cell_leaves c)

abbrev Needed : Cell → Type 0
Needed c = length c.chain ≡ pages_for (length c.entries)

-- what the search asks of the slots
pub first-pages : (slots : List Slot) (cells : List Cell) → slots ≡ map slot_of cells → Each (λ c. Each (λ p. p < pages) c.chain) cells → Each (λ c. length c.chain ≡ pages_for (length c.entries)) cells
    → Each (λ x. x.first < pages) slots
first-pages slots cells shown e f =
    subst (Each (λ x. x.first < pages)) (sym shown)
    (Each_over_map (λ x. x.first < pages) slot_of cells (Each_zip _ _ _ cells (λ c h k. first_below c.chain h (omega (arith, pages_for_some (length c.entries)))) e f))

module _ (b : List ℕ) (d : Slot) (n : ℕ) (f : Flushed) (edges : edges_of d ≡ f.cell.edges) (many : n ≡ length f.cell.entries) where
  module _ (c : Cell) (stored : Stored b c) (needed : Needed c) where
    few_cell : few_with b n (slot_of c) ≡ leb (length f.cell.entries + length c.entries) join_entries
    unfolding few_with cell_leaves
    few_cell =
        rw (first_page b c.number c.chain c.entries stored (omega (arith, pages_for_some (length c.entries))), many)
        (few_together (length f.cell.entries) (length c.entries))

    -- its slot passes the test exactly if it may be joined
    may_joinable : (side : Side) → may_join b side d n (slot_of c) ≡ joinable side f.cell c
    unfolding may_join joinable
    may_joinable side = ap₂ both (ap (λ (r : Rect). beside side r c.edges) edges) few_cell

  -- ---- the cells

  module _ (slots : List Slot) (cells : List Cell) (rest : f.rest ≡ cells) (shown : slots ≡ map slot_of cells)
      (stored : Each (λ c. Each (LaidAt b) (cell_leaves c)) cells) (needed : Each (λ c. length c.chain ≡ pages_for (length c.entries)) cells) where
    abbrev on : Side → Option ℕ
    on side = first_at (may_join b side d n) slots

    on-cells : (side : Side) → on side ≡ first_at (joinable side f.cell) cells
    on-cells side =
        ap (first_at (may_join b side d n)) shown
        ∙ first_mapped (may_join b side d n) (joinable side f.cell) slot_of cells (Each_zip (Stored b) Needed _ cells (λ c h k. may_joinable c h k side) stored needed)

    is_nearest : (z : Cell) → neighbour f ≡ element_at cells z (nearest b slots d n)
    unfolding neighbour nearest
    is_nearest z =
        element_some cells z on (λ side. first_that (joinable side f.cell) f.rest)
        (λ side. ap (first_that (joinable side f.cell)) rest ∙ first_element (joinable side f.cell) cells z ∙ ap (element_at cells z) (sym (on-cells side))) sides

    inside : (k : ℕ) → nearest b slots d n ≡ Some k → k < length cells
    unfolding nearest
    inside k e = first_some_cases on sides k e (λ side e. (first_at-some (joinable side f.cell) cells k f.cell (sym (on-cells side) ∙ e)).0)

    -- ---- the answer

    module _ {r : Option ℕ} (said : r ≡ nearest b slots d n) where
      pub neighbour_at : (k : ℕ) (z : Cell) → r ≡ Some k → (k < length cells) × (neighbour f ≡ Some (get_or cells k z))
      neighbour_at k z e = let at = sym said ∙ e in (inside k at, is_nearest z ∙ ap (element_at cells z) at)

      pub neighbour-none : r ≡ None → neighbour f ≡ None
      neighbour-none e = is_nearest f.cell ∙ ap (element_at cells f.cell) (sym said ∙ e)
