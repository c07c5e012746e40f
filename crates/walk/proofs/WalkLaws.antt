-- The entries of a page and the pages of a chain, one after the other.
use mathlib.Core.Bool.{true, false}
use mathlib.Core.List.{List, [], ◌∷◌, ◌++◌, append_assoc, append-nil}
use mathlib.Core.Path.{◌≡◌, refl, sym, ap, ◌∙◌, subst}
use Prim.Native.Nat.{ℕ, zero, suc, ◌+◌, ◌≤◌, ◌<◌}
use native.Mathlib.Omega.{arith}
use lib.Dec.{eqb}
use borrow.Author.Tests.{eqb-true, eqb-false}
use Rattle.terms.specs.Terms.{Fix, max_radio, pages, no_page}
use Rattle.lists.specs.Parts.{tab}
use Rattle.lists.specs.Rows.{Row, Rows, UpTo}
use Rattle.lists.specs.Sums.{concat}
use Rattle.lists.proofs.Cases.{by_cases}
use Rattle.lists.proofs.PartsLaws.{tab_suc}
use Rattle.lists.proofs.TestsLaws.{Each-tab, Each_split}
use Rattle.entries.specs.declared.Entry.{Entry}
use Rattle.entries.specs.Entries.{row_of}
use Rattle.page.specs.Page.{count, next, entry_at, entries}
use Rattle.page.specs.Buffer.{page_at, there, chain_from, entries_on, entries_from}
use Rattle.page.proofs.ChainLaws.{chain_ended, chain_not_there, chain_there, chain_out}

-- ---- a page

module _ (v b : List ℕ) (p : ℕ) (here : v ≡ page_at b p) where
  pub page_radio : {n i : ℕ} → n ≡ count v → i < n → {e : Entry} → row_of e ≡ entry_at v i → UpTo max_radio (entries (page_at b p)) → e.radio ≤ max_radio
  unfolding entries
  page_radio {n} {i} many more {e} read u =
      let w : UpTo max_radio (tab (count v) (entry_at v)) = subst (λ (x : List ℕ). UpTo max_radio (tab (count x) (entry_at x))) (sym here) u in
      let k : (entry_at v i).key ≤ max_radio = Each-tab (λ x. x.key ≤ max_radio) (count v) (entry_at v) i w (omega arith) in
      omega (arith, ap (λ (x : Row Fix). x.key) read)

  pub page_all : {n i : ℕ} → n ≡ count v → i ≤ n → n ≤ i → tab i (entry_at v) ≡ entries (page_at b p)
  unfolding entries
  page_all many h k = let z : _ ≡ count v = omega arith in ap (λ (j : ℕ). tab j (entry_at v)) z ∙ ap (λ (w : List ℕ). tab (count w) (entry_at w)) here

pub entries_none : (v : List ℕ) → [] ≡ tab 0 (entry_at v)
unfolding tab
entries_none v = refl

pub entries_next : (v : List ℕ) (i : ℕ) {e : Row Fix} → e ≡ entry_at v i → tab i (entry_at v) ++ (e ∷ []) ≡ tab (i + 1) (entry_at v)
entries_next v i read = ap (λ (x : Row Fix). tab i (entry_at v) ++ (x ∷ [])) read ∙ sym (tab_suc i (entry_at v))

-- ---- a chain: what its rest still has, after what was told, is the whole

-- the entries of at most so many pages from p on
pub rest_from : ℕ → List ℕ → ℕ → Rows Fix
rest_from fuel b p = entries_on b (chain_from fuel b p)

pub rest_whole : (b : List ℕ) (first : ℕ) → entries_from b first ≡ rest_from pages b first
unfolding entries_from rest_from
rest_whole b first = refl

pub rest_lost : (b : List ℕ) (p fuel : ℕ) → there b p ≡ false → rest_from fuel b p ≡ []
unfolding rest_from entries_on concat
rest_lost b p zero h = ap (entries_on b) (chain_out b p).0
rest_lost b p (suc fuel) h =
    by_cases (eqb p no_page)
    (λ t. ap (entries_on b) (chain_ended b p (suc fuel) (eqb-true p no_page t)).0)
    (λ t. ap (entries_on b) (chain_not_there b p fuel (eqb-false p no_page t) h).0)

pub rest_out : (b : List ℕ) (p : ℕ) → rest_from 0 b p ≡ []
unfolding rest_from entries_on concat
rest_out b p = ap (entries_on b) (chain_out b p).0

pub rest_there : (b : List ℕ) (p fuel : ℕ) → there b p ≡ true → rest_from (suc fuel) b p ≡ entries (page_at b p) ++ rest_from fuel b (next (page_at b p))
unfolding rest_from entries_on concat
rest_there b p fuel h = ap (entries_on b) (chain_there b p fuel h).0

-- what was told, and what the rest of the chain still has, is what the cell has
pub record Walking {S : Type 0} (tells : S → List (Row Fix) → S → Type 0) (b : List ℕ) (first : ℕ) (before : S) (p fuel : ℕ) (now : S) : Type 0 where
  pub told : List (Row Fix)
  pub so_far : tells before told now
  pub whole : told ++ rest_from fuel b p ≡ entries_from b first
  pub radios : UpTo max_radio (rest_from fuel b p)

module _ {S : Type 0} {tells : S → List (Row Fix) → S → Type 0} (b : List ℕ) (first : ℕ) (before : S) where
  pub Walking_start : tells before [] before → UpTo max_radio (entries_from b first) → Walking tells b first before first pages before
  Walking_start none u = record { told = []; so_far = none; whole = sym (rest_whole b first); radios = subst (UpTo max_radio) (rest_whole b first) u }

  module _ {p fuel : ℕ} {now : S} (w : Walking tells b first before p fuel now) where
    told_all : rest_from fuel b p ≡ [] → tells before (entries_from b first) now
    told_all e = subst (λ (l : List (Row Fix)). tells before l now) (sym (append-nil w.told) ∙ ap (λ (l : List (Row Fix)). w.told ++ l) (sym e) ∙ w.whole) w.so_far

    pub Walking_lost : there b p ≡ false → tells before (entries_from b first) now
    Walking_lost h = told_all (rest_lost b p fuel h)

    pub Walking_out : fuel ≡ 0 → tells before (entries_from b first) now
    Walking_out z = told_all (ap (λ (n : ℕ). rest_from n b p) z ∙ rest_out b p)

    module _ {rest : ℕ} (one_more : fuel ≡ suc rest) (here : there b p ≡ true) where
      split : rest_from fuel b p ≡ entries (page_at b p) ++ rest_from rest b (next (page_at b p))
      split = ap (λ (n : ℕ). rest_from n b p) one_more ∙ rest_there b p rest here

      split_radios : UpTo max_radio (entries (page_at b p)) × UpTo max_radio (rest_from rest b (next (page_at b p)))
      split_radios = Each_split (λ x. x.key ≤ max_radio) (entries (page_at b p)) (rest_from rest b (next (page_at b p))) (subst (UpTo max_radio) split w.radios)

      pub Walking_radios : UpTo max_radio (entries (page_at b p))
      Walking_radios = split_radios.0

      pub Walking_turn : ((s t u : S) (k l : List (Row Fix)) → tells s k t → tells t l u → tells s (k ++ l) u)
          → {then : S} {q : ℕ} → tells now (entries (page_at b p)) then → q ≡ next (page_at b p) → Walking tells b first before q rest then
      Walking_turn more {then} h e = rw e (record {
        told = w.told ++ entries (page_at b p);
        so_far = more before now then w.told (entries (page_at b p)) w.so_far h;
        whole = append_assoc w.told (entries (page_at b p)) (rest_from rest b (next (page_at b p))) ∙ ap (λ (l : List (Row Fix)). w.told ++ l) (sym split) ∙ w.whole;
        radios = split_radios.1;
      })
