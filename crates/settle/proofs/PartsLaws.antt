-- What the parts of settling write together, and where the chains then begin.
use mathlib.Core.List.{List, [], ◌∷◌, ◌++◌}
use mathlib.Core.Path.{◌≡◌, refl, sym, ap, ap₂, ◌∙◌}
use Prim.Native.Nat.{ℕ, ◌+◌, ◌-◌, ◌≤◌, ◌<◌}
use native.Mathlib.Omega.{arith}
use lib.Dec.{leb}
use lib.ListN.{length, get_or, take, drop, length-take, take-append-drop, drop_of_length-le}
use lib.Seq.{get_or-take, drop-append-le, drop-append-add}
use borrow.Author.Tests.{leb-true, leb-false}
use Rattle.terms.specs.Terms.{Fix, max_on, pages, no_page}
use Rattle.lists.specs.Chains.{chain_head, settled_chain, settled_free}
use Rattle.lists.specs.Rows.{Rows}
use Rattle.lists.specs.Tests.{Each}
use Rattle.lists.proofs.Cases.{by_cases}
use Rattle.lists.proofs.TestsLaws.{Each_map, Each-append, Each_split}
use Rattle.page.specs.Page.{kind_first}
use Rattle.page.specs.Buffer.{put_page, chain_from, at_none, end_from}
use Rattle.page.proofs.ChainLaws.{ended_Chained, there_bounds}
use Rattle.rules.specs.Store.{pages_for}
use Rattle.desk.specs.Layout.{Leaf, leaves}
use Rattle.settle.specs.Settle.{written, given_leaves, settled_leaves, settled_ends}
use Rattle.settle.proofs.LoopLaws.{Below}

-- ---- lists

module _ {A : Type 0} where
  pub drop-append : (n : ℕ) (xs ys : List A) → drop n (xs ++ ys) ≡ drop n xs ++ drop (n - length xs) ys
  drop-append n xs ys =
      by_cases (leb n (length xs))
      (λ t. let z : n - length xs ≡ 0 = omega (arith, leb-true n (length xs) t) in rw z (drop-append-le n xs ys (leb-true n (length xs) t)))
      (λ t. let k = leb-false n (length xs) t in
      let e : length xs + (n - length xs) ≡ n = omega arith in
      rw (drop_of_length-le xs {i = n} (omega arith)) (ap (λ m. drop m (xs ++ ys)) (sym e) ∙ drop-append-add xs ys (n - length xs)))

  pub Each-take-drop : (P : A → Type 0) (n : ℕ) (l : List A) → Each P l → Each P (take n l) × Each P (drop n l)
  Each-take-drop P n l e = Each_split P (take n l) (drop n l) (rw (take-append-drop n l) e)

pub chain_head-append : (end : ℕ) (a b : List ℕ) → chain_head end (a ++ b) ≡ chain_head (chain_head end b) a
chain_head-append end [] b = refl
chain_head-append end (x ∷ a) b = refl

-- ---- the parts together

pub written-append : (b : List ℕ) (l m : List Leaf) → written b (l ++ m) ≡ written (written b m) l
unfolding written
written-append b [] m = refl
written-append b (x ∷ l) m = ap (λ c. put_page c x.key x.val) (written-append b l m)

-- where pages are given up, none is taken
pub given_front : (need : ℕ) (ch f : List ℕ) → given_leaves (chain_head no_page (drop (need - length ch) f)) (drop need ch) ≡ given_leaves (chain_head no_page f) (drop need ch)
unfolding given_leaves
given_front need ch f =
    by_cases (leb need (length ch))
    (λ t. let z : need - length ch ≡ 0 = omega (arith, leb-true need (length ch) t) in rw z)
    (λ t. rw (drop_of_length-le ch {i = need} (omega (arith, leb-false need (length ch) t))))

pub settle_few : (rows : Rows Fix) {need : ℕ} (k : ℕ) → length rows ≤ max_on → need ≡ pages_for (length rows) → pages_for (length rows) ≤ k
    → (need ≤ pages) × (need ≤ k)
unfolding pages_for
settle_few rows k h e m = (omega arith, omega arith)

pub settled_Below : (b ch : List ℕ) (free need : ℕ) {ps : List ℕ} → Below ch → end_from pages b free ≡ at_none → ps ≡ settled_chain need ch (chain_from pages b free) → Below ps
unfolding settled_chain
settled_Below b ch free need w e q =
    let c = ended_Chained b pages free e in
    let f = Each_map _ (λ p. p < pages) (chain_from pages b free) (λ p t. (there_bounds b p t).0) c.all_there in
    rw q (Each-take-drop _ need (ch ++ chain_from pages b free) (Each-append _ ch (chain_from pages b free) w f)).0

chain_head_lem : (l : List ℕ) → 0 < length l → get_or l 0 0 ≡ chain_head no_page l
chain_head_lem [] k = absurd (omega arith)
chain_head_lem (x ∷ l) k = refl

module _ (b ch f ps : List ℕ) (rows : Rows Fix) {need front : ℕ} (asked : need ≡ pages_for (length rows))
    (taken : take need ps ≡ settled_chain need ch f) (left : front ≡ chain_head no_page (drop (need - length ch) f)) where
  pub settle_bytes : (cell : ℕ) {b₁ b₂ : List ℕ} → b₁ ≡ written b (given_leaves front (drop need ch)) → b₂ ≡ written b₁ (leaves kind_first cell (take need ps) rows)
      → b₂ ≡ written b (settled_leaves cell ch f rows)
  unfolding settled_leaves
  settle_bytes cell e g =
      let given : given_leaves front (drop need ch) ≡ given_leaves (chain_head no_page f) (drop need ch) = rw left (given_front need ch f) in
      rw (← asked) (g ∙ rw (e, given, taken) (sym (written-append b (leaves kind_first cell (settled_chain need ch f) rows) (given_leaves (chain_head no_page f) (drop need ch)))))

  pub settle_ends : {first : ℕ} → length ps ≡ pages → first ≡ chain_head front (drop need ch) → record { first = get_or ps 0 0; free = first } ≡ settled_ends ch f rows
  unfolding settled_ends settled_free pages_for
  settle_ends s g =
      let some : 0 < need = omega arith in
      let z : get_or ps 0 0 ≡ chain_head no_page (settled_chain need ch f) =
      sym (get_or-take need ps 0 0 some) ∙ chain_head_lem (take need ps) (rw length-take (omega arith)) ∙ ap (chain_head no_page) taken in
      let y : chain_head front (drop need ch) ≡ chain_head no_page (drop need (ch ++ f)) = rw (left, drop-append need ch f) (sym (chain_head-append no_page (drop need ch) (drop (need - length ch) f))) in
      rw (← asked) (ap₂ (λ x y. record { first = x; free = y }) z (g ∙ y))
