-- What a caller needs: the pages of a sound store are sound, and cells and free chain of sound pages make directory and layout of a store.
use mathlib.Core.List.{List, ◌++◌, map}
use mathlib.Core.Path.{◌≡◌, refl, sym, ap₂, ◌∙◌, subst}
use Prim.Native.Nat.{ℕ, ◌≤◌}
use Rattle.terms.specs.Terms.{no_page}
use Rattle.lists.specs.Chains.{chain_head}
use Rattle.lists.specs.Sums.{concat, count}
use Rattle.lists.specs.Tests.{Each}
use Rattle.lists.proofs.TestsLaws.{Each_zip, Each-append, Each_split}
use Rattle.rules.specs.Store.{Cell, Store}
use Rattle.rules.specs.WellFormed.{chains, GoodCell, WellFormed, PagesOnce}
use Rattle.desk.specs.Held.{Directory, ledger_grid, Ledger}
use Rattle.desk.specs.Layout.{directory_of, grid_of, ledger_of, At, cells_leaves, free_leaves, store_leaves, Laid}
use Rattle.desk.specs.Sound.{SoundLedger}
use Rattle.desk.proofs.UniqueLaws.{take_slots}
use Rattle.sound_pages.specs.PagesSound.{CellSound, PagesSound}

-- ---- from a store

pub store_pages : (s : Store) (b : List ℕ) → WellFormed s → Laid s b → PagesSound s.highest b (directory_of s.cells) (chain_head no_page s.free)
unfolding directory_of store_leaves chains
store_pages s b w l =
    let a = Each_split (At b) (cells_leaves s.cells) (free_leaves s.free) l.leaf in
    record {
      cells = s.cells;
      free_chain = s.free;
      size = l.size;
      number = refl;
      shown = take_slots s.cells;
      front = refl;
      leaf = a.0;
      free_leaf = a.1;
      once = w.once;
      good = Each_zip (GoodCell s.cuts) (λ c. Each (λ e. e.val.minute ≤ s.highest) c.entries) (CellSound s.highest) s.cells
          (λ c g d. record { paged = g.paged; rising = g.rising; radios = g.radios; placed = g.placed; dated = d }) w.cells w.entries_dated;
    }

-- the pages of a sound desk are sound
pub desk_pages : (d : Ledger) (b : List ℕ) → SoundLedger d b → PagesSound d.parts.highest b (ledger_grid d).cells (ledger_grid d).free
unfolding ledger_of grid_of
desk_pages d b s = subst (λ (x : Ledger). PagesSound x.parts.highest b (ledger_grid x).cells (ledger_grid x).free) (sym s.held) (store_pages s.store b s.well s.laid)

-- ---- to a store

module _ {highest : ℕ} {b : List ℕ} {d : Directory} {free : ℕ} (x : PagesSound highest b d free) where
  -- and a store with these cells and this free chain, whatever else it holds, is laid out so
  pub store_once : (s : Store) → s.cells ≡ x.cells → s.free ≡ x.free_chain → PagesOnce s
  unfolding chains
  store_once s e f p = ap₂ (λ (cs : List Cell) (ps : List ℕ). count p (concat (map (λ c. c.chain) cs) ++ ps)) e f ∙ x.once p

  pub store_Laid : (s : Store) → s.cells ≡ x.cells → s.free ≡ x.free_chain → Laid s b
  unfolding store_leaves
  store_Laid s e f = record {
    size = x.size;
    leaf =
        Each-append (At b) (cells_leaves s.cells) (free_leaves s.free)
        (subst (λ (cs : List Cell). Each (At b) (cells_leaves cs)) (sym e) x.leaf)
        (subst (λ (ps : List ℕ). Each (At b) (free_leaves ps)) (sym f) x.free_leaf);
  }
