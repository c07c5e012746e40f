-- The bytes after a split lay out the store that the rules say. The pages are written by settling chains.
use mathlib.Core.List.{List, [], ◌∷◌, ◌++◌, append_assoc, append-nil}
use mathlib.Core.Path.{◌≡◌, refl, sym, ap, ◌∙◌}
use Prim.Native.Nat.{ℕ, ◌+◌, ◌≤◌, ◌<◌}
use native.Mathlib.Omega.{arith}
use lib.ListN.{length, length-append}
use Rattle.lists.specs.Rows.{Rows}
use Rattle.rules.specs.Limits.{max_cells}
use Rattle.rules.specs.Store.{Line, Cell, Store, with_cells, with_free, settled, free_after}
use Rattle.rules.specs.Cut.{Cut}
use Rattle.rules.specs.Flush.{Flushed, low_cell, high_cell}
use Rattle.rules.specs.Midway.{MidFlush}
use Rattle.rules.proofs.PagedLaws.{needed, pages_few_split, room_pages, length-free_after, size_split}
use Rattle.desk.specs.Layout.{Laid}
use Rattle.settle.specs.Settle.{written, settled_leaves}
use Rattle.settle.proofs.SettleLaws.{Apart, Apart_cell, Apart_new, settled_Laid, settled_once}
use Rattle.cell_last.proofs.MidwayLaws.{store_once}

module _ {f : Flushed} {d₀ : Cell} {before after : List Cell} {old : Rows Line} {n c : ℕ} (r : MidFlush f d₀ before after old n c) (b : List ℕ) (l : Laid f.store b) where
  module _ (cut : Cut) (number : ℕ) (few : length (before ++ (d₀ ∷ after)) < max_cells) where
    abbrev low : Cell
    low = low_cell cut f.cell

    abbrev high : Cell
    high = high_cell cut number f.cell

    low-chain : low.chain ≡ f.cell.chain
    unfolding low_cell
    low-chain = refl

    high-chain : high.chain ≡ []
    unfolding high_cell
    high-chain = refl

    split_needs : needed low + needed high ≤ length f.cell.chain + length f.store.free
    split_needs =
        omega (
          arith,
          room_pages before after d₀ f.store.free r.paged,
          pages_few_split (before ++ after) low high (omega (arith, r.few, size_split cut number f.cell))
              (omega (arith, few, length-append before (d₀ ∷ after), length-append before after)),
          ap (λ (x : List ℕ). length x) r.chain,
        )

    -- the low side keeps d's chain and is settled first
    abbrev midway : Store
    midway = with_cells ((before ++ after) ++ (settled f.store.free low ∷ [])) (with_free (free_after f.store.free low) f.store)

    abbrev bytes_low : List ℕ
    bytes_low = written b (settled_leaves low.number low.chain f.store.free low.entries)

    pub low-Apart : Apart b (before ++ after) low.chain f.store.free
    low-Apart = Apart_cell f.store (store_once r b l) b l before d₀ after r.cells (low-chain ∙ r.chain)

    pub low_room : needed low ≤ length low.chain + length f.store.free
    low_room = omega (arith, split_needs, ap (λ (x : List ℕ). length x) low-chain)

    low_Laid : Laid midway bytes_low
    low_Laid = settled_Laid low low-Apart midway (before ++ after) [] (append-nil (before ++ after)) refl refl

    -- then the other takes from what is left
    pub high-Apart : Apart bytes_low midway.cells high.chain midway.free
    high-Apart = Apart_new midway (settled_once low low-Apart midway (before ++ after) [] (append-nil (before ++ after)) refl refl) bytes_low low_Laid high-chain

    pub high_room : needed high ≤ length high.chain + length (free_after f.store.free low)
    high_room = omega (arith, split_needs, length-free_after f.store.free low low_room, ap (λ (x : List ℕ). length x) low-chain)

    pub high-Laid : (s : Store) → s.cells ≡ (before ++ after) ++ (settled f.store.free low ∷ settled (free_after f.store.free low) high ∷ [])
        → s.free ≡ free_after (free_after f.store.free low) high
        → Laid s (written bytes_low (settled_leaves high.number high.chain midway.free high.entries))
    high-Laid s e g =
        settled_Laid high high-Apart s midway.cells [] (append-nil midway.cells)
        (e ∙ sym (append_assoc (before ++ after) (settled f.store.free low ∷ []) (settled (free_after f.store.free low) high ∷ []))) g
