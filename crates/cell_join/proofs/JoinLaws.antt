-- d and a neighbour are joined: what the code asks on its way, and what it leaves. The survivor's page is written with all entries; the other's pages are given up.
use mathlib.Core.Bool.{true, false}
use mathlib.Core.List.{List, [], ◌∷◌, ◌++◌}
use mathlib.Core.Path.{◌≡◌, sym, ap, ap₂, ◌∙◌}
use Prim.Native.Nat.{ℕ, ◌+◌, ◌≤◌, ◌<◌}
use lib.Dec.{ltb}
use lib.ListN.{length, drop}
use Rattle.terms.specs.Terms.{Fix, pages, no_page}
use Rattle.lists.specs.Chains.{chain_head, settled_free}
use Rattle.lists.specs.Rows.{Rows}
use Rattle.lists.specs.Tests.{Each}
use Rattle.page.specs.Buffer.{buffer_bytes, chain_from, at_none, end_from}
use Rattle.rules.specs.Store.{Cell, pages_for, settled, free_after}
use Rattle.rules.specs.Flush.{Flushed, joined_with}
use Rattle.desk.specs.declared.Slot.{Slot}
use Rattle.settle.specs.declared.Settled.{Settled}
use Rattle.settle.specs.Settle.{written, given_leaves, settled_leaves, settled_ends}
use Rattle.settle.proofs.SettleLaws.{Apart, Apart_Below, settle_asks, settle_says, give_says}
use Rattle.cell_join.specs.Joining.{BeforeJoinPages, AfterJoinPages}
use Rattle.cell_last.proofs.MidwayLaws.{d_Apart}
use Rattle.cell_join.proofs.LaidLaws.{on_d, on_d_room, m-Apart, d_survives, on_m, on_m-Apart, on_m_room, m_survives, joined_low, joined_high, join_low, join_high}

module _ {free : ℕ} {d : Slot} {chain : List ℕ} {m : Slot} {other : List ℕ} {all : Rows Fix} {b : List ℕ} (x : BeforeJoinPages free d chain m other all b) where
  abbrev f : Flushed
  f = x.flushed

  abbrev cell : Cell
  cell = x.neighbour

  abbrev whole : Cell
  whole = on_d x.mid b x.laid cell x.among x.small

  abbrev whole_m : Cell
  whole_m = on_m x.mid b x.laid cell x.among x.small

  d-number : d.number ≡ f.cell.number
  d-number = ap (λ (s : Slot). s.number) x.d_is ∙ sym x.mid.number

  m-number : m.number ≡ cell.number
  m-number = ap (λ (s : Slot). s.number) x.m_is

  -- ---- d survives

  abbrev beside_d : Apart b (x.before ++ x.after) f.cell.chain f.store.free
  beside_d = d_Apart x.mid b x.laid

  pub d_asks : Each (λ p. p < pages) chain × (end_from pages b free ≡ at_none) × (pages_for (length all) ≤ length chain + length (chain_from pages b free))
  d_asks = settle_asks whole beside_d x.chained x.free_is x.all_is (on_d_room x.mid b x.laid cell x.among x.small)

  module _ {b₁ : List ℕ} {e₁ : Settled} (wrote : b₁ ≡ written b (settled_leaves d.number chain (chain_from pages b free) all)) (ends : e₁ ≡ settled_ends chain (chain_from pages b free) all) where
    d_says : (b₁ ≡ written b (settled_leaves whole.number whole.chain f.store.free whole.entries))
        × (e₁ ≡ record { first = chain_head no_page (settled f.store.free whole).chain; free = chain_head no_page (free_after f.store.free whole) })
    d_says = settle_says whole beside_d x.chained x.free_is x.all_is d-number wrote ends

    beside_m : Apart b₁ (x.among.before ++ (x.among.after ++ (settled f.store.free whole ∷ []))) cell.chain (free_after f.store.free whole)
    beside_m = rw d_says.0 (m-Apart x.mid b x.laid cell x.among x.small)

    pub m_given_asks : (length b₁ ≡ buffer_bytes) × Each (λ p. p < pages) other
    m_given_asks = (beside_m.size, rw x.other_is (Apart_Below beside_m))

    pub d_joined : {b₂ : List ℕ} {front : ℕ} → ltb d.number m.number ≡ true → b₂ ≡ written b₁ (given_leaves e₁.free (drop 0 other)) → front ≡ chain_head e₁.free (drop 0 other)
        → AfterJoinPages f cell (record { first = e₁.first; free = front }) b₂
    d_joined t gave at =
        let t' : ltb f.cell.number cell.number ≡ true = ap₂ ltb (sym d-number) (sym m-number) ∙ t in
        let g = give_says b₁ (free_after f.store.free whole) x.other_is (ap (λ (s : Settled). s.free) d_says.1) gave at in
        let j = join_low x.mid b x.laid cell x.among x.small t' in
        record {
          first = ap (λ (s : Settled). s.first) d_says.1 ∙ ap (λ (c : Cell). chain_head no_page c.chain) (sym (joined_low x.mid b x.laid cell x.among x.small t'));
          free = g.1 ∙ ap (chain_head no_page) (sym j.1);
          laid = rw (g.0, d_says.0) (d_survives x.mid b x.laid cell x.among x.small (joined_with f cell) j.0 j.1);
        }

  -- ---- the neighbour survives

  pub d_given_asks : (length b ≡ buffer_bytes) × Each (λ p. p < pages) chain
  d_given_asks = (beside_d.size, rw x.chained (Apart_Below beside_d))

  module _ {b₁ : List ℕ} {front : ℕ} (gave : b₁ ≡ written b (given_leaves free (drop 0 chain))) (at : front ≡ chain_head free (drop 0 chain)) where
    abbrev free_d : List ℕ
    free_d = settled_free 0 f.cell.chain f.store.free

    given : (b₁ ≡ written b (given_leaves (chain_head no_page f.store.free) f.cell.chain)) × (front ≡ chain_head no_page free_d)
    given = give_says b f.store.free x.chained x.free_is gave at

    beside_on_m : Apart b₁ (x.among.before ++ x.among.after) whole_m.chain free_d
    beside_on_m = rw given.0 (on_m-Apart x.mid b x.laid cell x.among x.small)

    pub m_size : length b₁ ≡ buffer_bytes
    m_size = beside_on_m.size

    pub m_asks : Each (λ p. p < pages) other × (end_from pages b₁ front ≡ at_none) × (pages_for (length all) ≤ length other + length (chain_from pages b₁ front))
    m_asks = settle_asks whole_m beside_on_m x.other_is given.1 x.all_is (on_m_room x.mid b x.laid cell x.among x.small)

    pub m_joined : {b₂ : List ℕ} {e₂ : Settled} → ltb d.number m.number ≡ false → b₂ ≡ written b₁ (settled_leaves m.number other (chain_from pages b₁ front) all)
        → e₂ ≡ settled_ends other (chain_from pages b₁ front) all → AfterJoinPages f cell e₂ b₂
    m_joined t wrote ends =
        let t' : ltb f.cell.number cell.number ≡ false = ap₂ ltb (sym d-number) (sym m-number) ∙ t in
        let g = settle_says whole_m beside_on_m x.other_is given.1 x.all_is m-number wrote ends in
        let j = join_high x.mid b x.laid cell x.among x.small t' in
        record {
          first = ap (λ (s : Settled). s.first) g.1 ∙ ap (λ (c : Cell). chain_head no_page c.chain) (sym (joined_high x.mid b x.laid cell x.among x.small t'));
          free = ap (λ (s : Settled). s.free) g.1 ∙ ap (chain_head no_page) (sym j.1);
          laid = rw (g.0, given.0) (m_survives x.mid b x.laid cell x.among x.small (joined_with f cell) j.0 j.1);
        }
