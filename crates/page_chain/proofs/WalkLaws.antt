-- The loop that reads a chain.
use mathlib.Core.Bool.{Bool, true, false}
use mathlib.Core.List.{List, [], ◌∷◌, ◌++◌, append_assoc, append-nil}
use mathlib.Core.Logic.{◌≢◌}
use mathlib.Core.Path.{◌≡◌, refl, sym, ap, ◌∙◌}
use Prim.Native.Nat.{ℕ, suc, ◌+◌, ◌-◌, ◌≤◌, ◌<◌}
use native.Mathlib.Omega.{arith}
use native.Mathlib.Numerals.{add-one}
use lib.ListN.{length, take, set, length-set}
use lib.Seq.{take-suc-set}
use borrow.Author.Tests.{eq-eqb, ne_eqb}
use Rattle.terms.specs.Terms.{pages, no_page}
use Rattle.page.specs.Page.{next}
use Rattle.page.specs.Buffer.{page_at, there, chain_from, End, at_none, past_bound, not_there, bound_end, end_from}
use Rattle.page.proofs.ChainLaws.{chain_ended, chain_not_there, chain_there, chain_out}

-- ---- the end of a chain that has as many pages as it may

pub bound_ended : (p : ℕ) → p ≡ no_page → at_none ≡ bound_end p
bound_ended p e = rw (eq-eqb p no_page e)

pub bound_past : (p : ℕ) → p ≢ no_page → past_bound ≡ bound_end p
bound_past p n = rw (ne_eqb p no_page n)

-- ---- the loop: what is read, followed by what the chain still says, is the whole

pub record Walking (b : List ℕ) (first : ℕ) (ps : List ℕ) (p n : ℕ) : Type 0 where
  pub bound : n ≤ pages
  pub size : length ps ≡ pages
  pub met : take n ps ++ chain_from (pages - n) b p ≡ chain_from pages b first
  pub end : end_from (pages - n) b p ≡ end_from pages b first

pub Walking_start : (b : List ℕ) (first : ℕ) (ps : List ℕ) → length ps ≡ pages → Walking b first ps first 0
Walking_start b first ps l = record { bound = omega arith; size = l; met = refl; end = refl }

abbrev Read : List ℕ → ℕ → List ℕ → ℕ → End → Type 0
Read b first ps n e = (take n ps ≡ chain_from pages b first) × (e ≡ end_from pages b first) × (n ≤ pages)

module _ {b : List ℕ} {first : ℕ} {ps : List ℕ} {p n : ℕ} (w : Walking b first ps p n) where
  Walking_stop : {e : End} → chain_from (pages - n) b p ≡ [] → end_from (pages - n) b p ≡ e → Read b first ps n e
  Walking_stop h k = (sym (append-nil (take n ps)) ∙ rw h at w.met, sym k ∙ w.end, w.bound)

  pub Walking_ended : p ≡ no_page → Read b first ps n at_none
  Walking_ended e = let t = chain_ended b p (pages - n) e in Walking_stop t.0 t.1

  pub Walking_not_there : {r : Bool} → n < pages → p ≢ no_page → r ≡ there b p → r ≡ false → Read b first ps n (not_there p)
  Walking_not_there h k e i =
      let f : pages - n ≡ suc (pages - (n + 1)) = omega arith in
      let t = chain_not_there b p (pages - (n + 1)) k (sym e ∙ i) in
      Walking_stop (rw f t.0) (rw f t.1)

  pub Walking_out : {e : End} → pages ≤ n → e ≡ bound_end p → Read b first ps n e
  Walking_out h k =
      let f : pages - n ≡ 0 = omega arith in
      let t = chain_out b p in
      Walking_stop (rw f t.0) (rw f (t.1 ∙ sym k))

  pub Walking_turn : {r : Bool} {q : ℕ} → n < pages → r ≡ there b p → r ≡ true → q ≡ next (page_at b p) → Walking b first (set ps n p) q (n + 1)
  Walking_turn h e i g =
      let f : pages - n ≡ suc (pages - (n + 1)) = omega arith in
      let t = chain_there b p (pages - (n + 1)) (sym e ∙ i) in
      let s = w.size in
      let m : take (n + 1) (set ps n p) ≡ take n ps ++ (p ∷ []) = rw add-one (take-suc-set ps n p (omega arith)) in
      let r : p ∷ chain_from (pages - (n + 1)) b (next (page_at b p)) ≡ chain_from (pages - n) b p = rw f (sym t.0) in
      let o : end_from (pages - (n + 1)) b (next (page_at b p)) ≡ end_from (pages - n) b p = rw f (sym t.1) in
      record {
        bound = omega arith;
        size = length-set ps n p ∙ s;
        met = rw (g, m) (append_assoc (take n ps) (p ∷ []) _ ∙ ap (λ l. take n ps ++ l) r ∙ w.met);
        end = rw g (o ∙ w.end);
      }
