-- d is split: what the code asks on its way, and what it leaves.
use mathlib.Core.Bool.{not}
use mathlib.Core.List.{List, [], ◌∷◌, ◌++◌}
use mathlib.Core.Path.{◌≡◌, refl, sym, ap, ◌∙◌}
use Prim.Native.Nat.{ℕ, ◌+◌, ◌≤◌, ◌<◌}
use lib.ListN.{length}
use Rattle.terms.specs.Terms.{Fix, pages, no_page}
use Rattle.lists.specs.Chains.{chain_head}
use Rattle.lists.specs.Rows.{Rows}
use Rattle.lists.specs.Sums.{filter}
use Rattle.lists.specs.Tests.{Each}
use Rattle.page.specs.Buffer.{buffer_bytes, chain_from, at_none, end_from}
use Rattle.rules.specs.Limits.{max_cells}
use Rattle.rules.specs.Store.{Cell, Store, pages_for, settled, free_after}
use Rattle.rules.specs.Cut.{Cut, low_side}
use Rattle.rules.specs.Flush.{Flushed, low_cell, high_cell}
use Rattle.desk.specs.Held.{Grid, Memo}
use Rattle.desk.specs.Layout.{Laid}
use Rattle.settle.specs.declared.Settled.{Settled}
use Rattle.settle.specs.Settle.{written, settled_leaves, settled_ends}
use Rattle.settle.proofs.SettleLaws.{Apart, settle_asks, settle_says}
use Rattle.cell_last.specs.Settling.{BeforeReshape}
use Rattle.cell_split.proofs.LaidLaws.{low-Apart, low_room, high-Apart, high_room, high-Laid}
use Rattle.cell_last.proofs.MovedLaws.{loose_free}
use Rattle.cell_last.proofs.MidwayLaws.{midway_loose}

module _ {grid : Grid} {at : ℕ} {chain : List ℕ} {rows : Rows Fix} {memo : Memo} {b : List ℕ} (x : BeforeReshape grid at chain rows memo b) where
  abbrev f : Flushed
  f = x.flushed

  abbrev free : List ℕ
  free = f.store.free

  abbrev rest : List Cell
  rest = x.before ++ x.after

  -- ---- at this cut, the other side with this number

  module _ (cut : Cut) (number : ℕ) (few : length (x.before ++ (x.d ∷ x.after)) < max_cells) where
    abbrev low : Cell
    low = low_cell cut f.cell

    abbrev high : Cell
    high = high_cell cut number f.cell

    abbrev beside_low : Apart b rest low.chain free
    beside_low = low-Apart x.mid b x.laid.in_grid.laid cut number few

    low-rows : {l : Rows Fix} → l ≡ filter (low_side cut) rows → l ≡ low.entries
    unfolding low_cell
    low-rows e = e ∙ ap (filter (low_side cut)) x.entered

    high-rows : {l : Rows Fix} → l ≡ filter (λ e. not (low_side cut e)) rows → l ≡ high.entries
    unfolding high_cell
    high-rows e = e ∙ ap (filter (λ e. not (low_side cut e))) x.entered

    low_chained : chain ≡ low.chain
    unfolding low_cell
    low_chained = x.chained

    pub low_asks : {l : Rows Fix} → l ≡ filter (low_side cut) rows
        → Each (λ p. p < pages) chain × (end_from pages b grid.free ≡ at_none) × (pages_for (length l) ≤ length chain + length (chain_from pages b grid.free))
    low_asks e = settle_asks low beside_low low_chained (loose_free (midway_loose x)) (low-rows e) (low_room x.mid b x.laid.in_grid.laid cut number few)

    low-number : low.number ≡ x.d.number
    unfolding low_cell
    low-number = x.mid.number

    module _ {l : Rows Fix} (is_low : l ≡ filter (low_side cut) rows) {n : ℕ} (is_number : n ≡ x.d.number) {b₁ : List ℕ} {e₁ : Settled}
        (wrote : b₁ ≡ written b (settled_leaves n chain (chain_from pages b grid.free) l)) (ends : e₁ ≡ settled_ends chain (chain_from pages b grid.free) l) where
      abbrev bytes_low : List ℕ
      bytes_low = written b (settled_leaves low.number low.chain free low.entries)

      low_says : (b₁ ≡ bytes_low) × (e₁ ≡ record { first = chain_head no_page (settled free low).chain; free = chain_head no_page (free_after free low) })
      low_says = settle_says low beside_low low_chained (loose_free (midway_loose x)) (low-rows is_low) (is_number ∙ sym low-number) wrote ends

      beside_high : Apart b₁ (rest ++ (settled free low ∷ [])) high.chain (free_after free low)
      beside_high = rw low_says.0 (high-Apart x.mid b x.laid.in_grid.laid cut number few)

      -- the new cell has no page yet
      high_chained : {none : List ℕ} → none ≡ [] → none ≡ high.chain
      unfolding high_cell
      high_chained e = e

      pub high_asks : {none : List ℕ} {h : Rows Fix} → none ≡ [] → h ≡ filter (λ e. not (low_side cut e)) rows
          → Each (λ p. p < pages) none × (end_from pages b₁ e₁.free ≡ at_none) × (pages_for (length h) ≤ length none + length (chain_from pages b₁ e₁.free))
      high_asks g e = settle_asks high beside_high (high_chained g) (ap (λ (s : Settled). s.free) low_says.1) (high-rows e) (high_room x.mid b x.laid.in_grid.laid cut number few)

      pub low_size : length b₁ ≡ buffer_bytes
      low_size = beside_high.size

      module _ {none : List ℕ} (is_none : none ≡ []) {h : Rows Fix} (is_high : h ≡ filter (λ e. not (low_side cut e)) rows) {b₂ : List ℕ} {e₂ : Settled}
          (wrote_high : b₂ ≡ written b₁ (settled_leaves number none (chain_from pages b₁ e₁.free) h)) (ends_high : e₂ ≡ settled_ends none (chain_from pages b₁ e₁.free) h) where
        high-number : number ≡ high.number
        unfolding high_cell
        high-number = refl

        high_says : (b₂ ≡ written b₁ (settled_leaves high.number high.chain (free_after free low) high.entries))
            × (e₂ ≡ record { first = chain_head no_page (settled (free_after free low) high).chain; free = chain_head no_page (free_after (free_after free low) high) })
        high_says = settle_says high beside_high (high_chained is_none) (ap (λ (s : Settled). s.free) low_says.1) (high-rows is_high) high-number wrote_high ends_high

        pub sides_Laid : (s : Store) → s.cells ≡ rest ++ (settled free low ∷ settled (free_after free low) high ∷ []) → s.free ≡ free_after (free_after free low) high → Laid s b₂
        sides_Laid s e g = rw (high_says.0, low_says.0) (high-Laid x.mid b x.laid.in_grid.laid cut number few s e g)

        pub sides_end : (e₁.first ≡ chain_head no_page (settled free low).chain) × (e₂.first ≡ chain_head no_page (settled (free_after free low) high).chain) × (e₂.free ≡ chain_head no_page (free_after (free_after free low) high))
        sides_end = (ap (λ (s : Settled). s.first) low_says.1, ap (λ (s : Settled). s.first) high_says.1, ap (λ (s : Settled). s.free) high_says.1)
