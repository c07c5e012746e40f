-- Chains in the buffer: what is there, one step at any fuel, and that a chain which ends is a linked chain.
use mathlib.Core.Bool.{Bool, true, false, not}
use mathlib.Core.List.{List, [], ◌∷◌}
use mathlib.Core.Logic.{◌≢◌}
use mathlib.Core.Path.{◌≡◌, refl, sym, ap, ◌∙◌}
use Prim.Native.Nat.{ℕ, zero, suc, ◌+◌, ◌-◌, ◌*◌, ◌≤◌, ◌<◌}
use native.Mathlib.Nat.{not-suc-le-zero, le_of_suc-le-suc}
use native.Mathlib.Omega.{arith}
use lib.Dec.{eqb, leb}
use lib.ListN.{length, take, drop}
use borrow.Author.Tests.{ltb-true, leb-true, lt-ltb, le-ltb, le-leb, eqb-true, eqb-false, eq-eqb, ne_eqb, not-false}
use Rattle.terms.specs.Terms.{pages, no_page}
use Rattle.lists.specs.Chains.{chain_head, walk, Linked}
use Rattle.lists.specs.Parts.{part}
use Rattle.lists.specs.Tests.{both, Each}
use Rattle.lists.proofs.Cases.{by_cases}
use Rattle.lists.proofs.ChainsLaws.{walk-end, walk_step}
use Rattle.lists.proofs.PartsLaws.{length-part}
use Rattle.lists.proofs.TestsLaws.{both_left, both_right, both_intro}
use Rattle.page.specs.Page.{page_bytes, next}
use Rattle.page.specs.Buffer.{page_at, there, chain_from, bound_end, end_from, at_none, past_bound, not_there}

-- ---- what is there

pub there_bounds : (b : List ℕ) (p : ℕ) → there b p ≡ true → (p < pages) × (page_bytes * p + page_bytes ≤ length b)
unfolding there
there_bounds b p e = (ltb-true p pages (both_left _ _ e), leb-true (page_bytes * p + page_bytes) (length b) (both_right _ _ e))

pub bounds_there : (b : List ℕ) (p : ℕ) → p < pages → page_bytes * p + page_bytes ≤ length b → there b p ≡ true
unfolding there
bounds_there b p h k = both_intro (lt-ltb p pages h) (le-leb (page_bytes * p + page_bytes) (length b) k)

pub past_there : (b : List ℕ) (p : ℕ) → pages ≤ p → false ≡ there b p
unfolding there both
past_there b p h = rw (le-ltb p pages h)

pub in_there : (b : List ℕ) (p : ℕ) → p < pages → leb (page_bytes * p + page_bytes) (length b) ≡ there b p
unfolding there both
in_there b p h = rw (lt-ltb p pages h)

pub there_page : (b : List ℕ) (p : ℕ) → there b p ≡ true → p ≢ no_page
there_page b p e q = omega (arith, (there_bounds b p e).0)

-- as the code tests it
pub was_there : (b : List ℕ) (p : ℕ) {r : Bool} → r ≡ there b p → not r ≡ false → there b p ≡ true
was_there b p {r} e i = sym e ∙ not-false r i

pub page_slice : (b : List ℕ) (p : ℕ) → page_bytes * p + page_bytes ≤ length b
    → (take (page_bytes * p + page_bytes - page_bytes * p) (drop (page_bytes * p) b) ≡ page_at b p) × (length (take (page_bytes * p + page_bytes - page_bytes * p) (drop (page_bytes * p) b)) ≡ page_bytes)
unfolding page_at part
page_slice b p h = let e : page_bytes * p + page_bytes - page_bytes * p ≡ page_bytes = omega arith in (rw e, rw e (length-part b (page_bytes * p) page_bytes h))

-- ---- one step, at any fuel

module _ (b : List ℕ) (p : ℕ) where
  pub chain_ended : (fuel : ℕ) → p ≡ no_page → (chain_from fuel b p ≡ []) × (end_from fuel b p ≡ at_none)
  unfolding chain_from end_from
  chain_ended zero e = (refl, rw (eq-eqb p no_page e))
  chain_ended (suc fuel) e = (rw (eq-eqb p no_page e), rw (eq-eqb p no_page e))

  pub chain_not_there : (fuel : ℕ) → p ≢ no_page → there b p ≡ false → (chain_from (suc fuel) b p ≡ []) × (end_from (suc fuel) b p ≡ not_there p)
  unfolding chain_from end_from
  chain_not_there fuel n t = (rw (ne_eqb p no_page n, t), rw (ne_eqb p no_page n, t))

  pub chain_there : (fuel : ℕ) → there b p ≡ true → (chain_from (suc fuel) b p ≡ p ∷ chain_from fuel b (next (page_at b p))) × (end_from (suc fuel) b p ≡ end_from fuel b (next (page_at b p)))
  unfolding chain_from end_from
  chain_there fuel t = let n = ne_eqb p no_page (there_page b p t) in (rw (n, t), rw (n, t))

  pub chain_out : (chain_from 0 b p ≡ []) × (end_from 0 b p ≡ bound_end p)
  unfolding chain_from end_from
  chain_out = (refl, refl)

-- ---- a chain which ends is a linked chain of the buffer

module _ (b : List ℕ) where
  -- the page after a page
  abbrev pub following : ℕ → ℕ
  following q = next (page_at b q)

  -- every page that a chain names is there, however it ends
  pub chain_all_there : (fuel p : ℕ) → Each (λ q. there b q ≡ true) (chain_from fuel b p)
  unfolding chain_from
  chain_all_there zero p = tt
  chain_all_there (suc fuel) p =
      by_cases (eqb p no_page)
      (λ e. rw e tt)
      (λ e. rw e (by_cases (there b p) (λ t. rw t (t, chain_all_there fuel (next (page_at b p)))) (λ t. rw t tt)))

  pub record Chained (fuel p : ℕ) : Type 0 where
    pub first : chain_head no_page (chain_from fuel b p) ≡ p
    pub linked : Linked no_page following (chain_from fuel b p)
    pub walked : chain_from fuel b p ≡ walk no_page following fuel p
    pub all_there : Each (λ q. there b q ≡ true) (chain_from fuel b p)
    pub few : length (chain_from fuel b p) ≤ fuel

  ended_out : (p : ℕ) → end_from 0 b p ≡ at_none → p ≡ no_page
  ended_out p e =
      by_cases (eqb p no_page) (eqb-true p no_page)
      (λ t. let h : past_bound ≡ at_none = rw ((chain_out b p).1, t) at e in let z : ◌≡◌ {A = ℕ} 0 1 = cc in absurd (omega arith))

  ended_there : (fuel p : ℕ) → p ≢ no_page → end_from (suc fuel) b p ≡ at_none → there b p ≡ true
  ended_there fuel p n e =
      by_cases (there b p) (λ t. t)
      (λ t. let h : not_there p ≡ at_none = sym (chain_not_there b p fuel n t).1 ∙ e in let z : ◌≡◌ {A = ℕ} 0 1 = cc in absurd (omega arith))

  Chained_end : (fuel p : ℕ) → p ≡ no_page → Chained fuel p
  Chained_end fuel p e =
      let c = (chain_ended b p fuel e).0 in
      record { first = rw c (sym e); linked = rw c tt; walked = c ∙ sym (ap (walk no_page following fuel) e ∙ walk-end no_page following fuel); all_there = rw c tt; few = rw c (omega arith) }

  Chained_step : (fuel p : ℕ) → there b p ≡ true → Chained fuel (following p) → Chained (suc fuel) p
  Chained_step fuel p t r =
      let c = (chain_there b p fuel t).0 in
      let h = (there_bounds b p t).0 in
      let l = r.few in
      record {
        first = rw c;
        linked = rw c (omega arith, sym r.first, r.linked);
        walked = c ∙ ap (λ m. p ∷ m) r.walked ∙ sym (walk_step no_page following fuel p (there_page b p t));
        all_there = rw c (t, r.all_there);
        few = rw c (omega arith);
      }

  pub ended_Chained : (fuel p : ℕ) → end_from fuel b p ≡ at_none → Chained fuel p
  ended_Chained zero p e = Chained_end 0 p (ended_out p e)
  ended_Chained (suc fuel) p e =
      by_cases (eqb p no_page)
      (λ t. Chained_end (suc fuel) p (eqb-true p no_page t))
      (λ t. let i = ended_there fuel p (eqb-false p no_page t) e in Chained_step fuel p i (ended_Chained fuel (following p) (sym (chain_there b p fuel i).1 ∙ e)))

  -- and a linked chain of pages that are there is read back
  pub Linked_read : (fuel : ℕ) (l : List ℕ) → Linked no_page following l → Each (λ q. there b q ≡ true) l → length l ≤ fuel
      → (chain_from fuel b (chain_head no_page l) ≡ l) × (end_from fuel b (chain_head no_page l) ≡ at_none)
  Linked_read fuel [] k t h = chain_ended b no_page fuel refl
  Linked_read zero (p ∷ l) k t h = absurd (not-suc-le-zero h)
  Linked_read (suc fuel) (p ∷ l) k t h =
      let c = chain_there b p fuel t.0 in
      let r = Linked_read fuel l k.2 t.1 (le_of_suc-le-suc h) in
      (c.0 ∙ rw k.1 (ap (λ m. p ∷ m) r.0), c.1 ∙ rw k.1 r.1)
