-- The bytes after a join lay out the store that the rules say. The pages are written by settling chains and giving them up.
use mathlib.Core.Bool.{true, false, not}
use mathlib.Core.List.{List, [], ◌∷◌, ◌++◌, map, append_assoc, append-nil}
use mathlib.Core.Path.{◌≡◌, refl, sym, ap, ap₂, subst, ◌∙◌}
use Prim.Native.Nat.{ℕ, ◌+◌, ◌≤◌}
use native.Mathlib.Omega.{arith}
use lib.Dec.{ltb}
use lib.ListN.{length, take-append-drop}
use Rattle.terms.specs.Terms.{Fix, no_page}
use Rattle.lists.specs.Chains.{chain_head, settled_chain, settled_free}
use Rattle.lists.specs.Rows.{Rows, merge}
use Rattle.lists.specs.Sums.{count}
use Rattle.lists.specs.Among.{Among}
use Rattle.lists.proofs.AmongLaws.{Each-Among}
use Rattle.lists.proofs.RowsLaws.{Rising-filter, length-merge-le}
use Rattle.lists.proofs.SumsLaws.{length-filter-not}
use Rattle.lists.proofs.TestsLaws.{Each_middle}
use Rattle.rules.specs.Limits.{join_entries}
use Rattle.rules.specs.Store.{Line, Cell, Store, with_cells, with_free, others, pages_for, settled, free_after}
use Rattle.rules.specs.Sweep.{stale, swept_entries}
use Rattle.rules.specs.Flush.{Flushed, joined_edges, joined, joined_with}
use Rattle.rules.specs.Parts.{Rowed}
use Rattle.rules.specs.Midway.{MidFlush}
use Rattle.rules.specs.WellFormed.{PagesOnce}
use Rattle.rules.proofs.PagedLaws.{needed, pages_for_one}
use Rattle.rules.proofs.TilingLaws.{others_split, round_others}
use Rattle.desk.specs.Layout.{Laid}
use Rattle.settle.specs.Settle.{written, given_leaves, settled_leaves}
use Rattle.settle.proofs.SettleLaws.{Apart, Apart_cell, settled_Laid, settled_once, settled_even, given_Laid, given_once}
use Rattle.cell_last.proofs.MidwayLaws.{d_Apart, d_room}

module _ {f : Flushed} {d₀ : Cell} {before after : List Cell} {old : Rows Line} {n c : ℕ} (r : MidFlush f d₀ before after old n c) (b : List ℕ) (l : Laid f.store b) where
  module _ (m : Cell) (a : Among (before ++ after) m) (small : length f.cell.entries + length m.entries ≤ join_entries) where
    abbrev left : List Cell
    left = a.before ++ a.after

    abbrev entries : Rows Fix
    entries = merge (swept_entries f.store.memo m.entries) f.cell.entries

    pub few_joined : length entries ≤ length f.cell.entries + length m.entries
    unfolding swept_entries
    few_joined =
        let b = r.books.cells_rowed in
        let rises = (Each-Among Rowed b.1 a).rising in
        omega (
          arith,
          length-merge-le 0 (swept_entries f.store.memo m.entries) f.cell.entries (Rising-filter (λ e. not (stale f.store.memo e)) 0 m.entries rises) b.0.rising,
          length-filter-not (stale f.store.memo) m.entries,
        )

    joined_one : pages_for (length entries) ≡ 1
    joined_one = pages_for_one (length entries) (omega (arith, few_joined))

    d_one : pages_for (length f.cell.entries) ≡ 1
    d_one = pages_for_one (length f.cell.entries) (omega arith)

    m_one : length m.chain ≡ 1
    m_one =
        Each-Among (λ c. length c.chain ≡ needed c) (Each_middle (λ c. length c.chain ≡ needed c) before d₀ after r.paged.cells_paged).1 a
        ∙ pages_for_one (length m.entries) (omega arith)

    -- the joined cell with the pages of d, or of m
    abbrev joined_on : ℕ → List ℕ → Cell
    joined_on number chain = record { number = number; edges = joined_edges f.cell.edges m.edges; chain = chain; entries = entries }

    -- ---- d survives: it is settled with all entries, then m's page is given up

    abbrev pub on_d : Cell
    on_d = joined_on f.cell.number f.cell.chain

    abbrev settled_d : Store
    settled_d = with_cells ((before ++ after) ++ (settled f.store.free on_d ∷ [])) (with_free (free_after f.store.free on_d) f.store)

    abbrev bytes_d : List ℕ
    bytes_d = written b (settled_leaves on_d.number on_d.chain f.store.free on_d.entries)

    pub on_d_room : needed on_d ≤ length on_d.chain + length f.store.free
    on_d_room = omega (arith, d_room r b l, joined_one, d_one)

    settled_d_once : PagesOnce settled_d
    settled_d_once = settled_once on_d (d_Apart r b l) settled_d (before ++ after) [] (append-nil (before ++ after)) refl refl

    settled_d-Laid : Laid settled_d bytes_d
    settled_d-Laid = settled_Laid on_d (d_Apart r b l) settled_d (before ++ after) [] (append-nil (before ++ after)) refl refl

    settled_d-cells : settled_d.cells ≡ a.before ++ (m ∷ (a.after ++ (settled f.store.free on_d ∷ [])))
    settled_d-cells = ap (λ (x : List Cell). x ++ (settled f.store.free on_d ∷ [])) a.split ∙ append_assoc a.before (m ∷ a.after) (settled f.store.free on_d ∷ [])

    pub m-Apart : Apart bytes_d (a.before ++ (a.after ++ (settled f.store.free on_d ∷ []))) m.chain settled_d.free
    m-Apart = Apart_cell settled_d settled_d_once bytes_d settled_d-Laid a.before m (a.after ++ (settled f.store.free on_d ∷ [])) settled_d-cells refl

    pub d_survives : (s : Store) → s.cells ≡ left ++ (settled f.store.free on_d ∷ []) → s.free ≡ settled_free 0 m.chain (free_after f.store.free on_d)
        → Laid s (written bytes_d (given_leaves (chain_head no_page (free_after f.store.free on_d)) m.chain))
    d_survives s e g = given_Laid m-Apart s (e ∙ append_assoc a.before a.after (settled f.store.free on_d ∷ [])) g

    -- ---- m survives: d's pages are given up, then m is written with all entries

    abbrev pub on_m : Cell
    on_m = joined_on m.number m.chain

    abbrev free_d : List ℕ
    free_d = settled_free 0 f.cell.chain f.store.free

    abbrev without_d : Store
    without_d = with_cells (before ++ after) (with_free free_d f.store)

    abbrev bytes_m : List ℕ
    bytes_m = written b (given_leaves (chain_head no_page f.store.free) f.cell.chain)

    without_d-Laid : Laid without_d bytes_m
    without_d-Laid = given_Laid (d_Apart r b l) without_d refl refl

    pub on_m-Apart : Apart bytes_m left on_m.chain free_d
    on_m-Apart = Apart_cell without_d (given_once (d_Apart r b l) without_d refl refl) bytes_m without_d-Laid a.before m a.after a.split refl

    pub on_m_room : needed on_m ≤ length on_m.chain + length free_d
    on_m_room = omega (arith, joined_one, m_one)

    pub m_survives : (s : Store) → s.cells ≡ left ++ (settled free_d on_m ∷ []) → s.free ≡ free_after free_d on_m
        → Laid s (written bytes_m (settled_leaves on_m.number on_m.chain free_d on_m.entries))
    m_survives s e g = settled_Laid on_m on_m-Apart s left [] (append-nil left) e g

    -- ---- these are the cells and the free chain of the join

    others-left : others m.number f.rest ≡ left
    others-left =
        ap (others m.number) (r.rest ∙ a.split)
        ∙ others_split a.before m a.after (subst (λ (l : List Cell). (q : ℕ) → count q (map (λ x. x.number) l) ≤ 1) a.split (round_others before d₀ after r.tiled.round))

    pub joined_low : ltb f.cell.number m.number ≡ true → joined f m ≡ settled f.store.free on_d
    unfolding settled
    joined_low t = rw (t, d_one, joined_one)

    freed_low : ltb f.cell.number m.number ≡ true → (joined_with f m).free ≡ settled_free 0 m.chain (free_after f.store.free on_d)
    unfolding joined_with settled free_after
    freed_low t = rw (t, d_one, joined_one)

    -- d's pages and the free ones are the same list, settled or not
    settled_whole : settled_free 0 (settled f.store.free f.cell).chain (free_after f.store.free f.cell) ≡ free_d
    unfolding settled free_after settled_chain settled_free
    settled_whole = take-append-drop (pages_for (length f.cell.entries)) (f.cell.chain ++ f.store.free)

    pub joined_high : ltb f.cell.number m.number ≡ false → joined f m ≡ settled free_d on_m
    unfolding settled
    joined_high t = rw t (ap (λ (l : List ℕ). joined_on m.number l) (sym (settled_even free_d on_m (m_one ∙ sym joined_one)).0))

    freed_high : ltb f.cell.number m.number ≡ false → (joined_with f m).free ≡ free_after free_d on_m
    unfolding joined_with settled
    freed_high t = rw t (settled_whole ∙ sym (settled_even free_d on_m (m_one ∙ sym joined_one)).1)

    pub cells-joined : {j : Cell} → joined f m ≡ j → (joined_with f m).cells ≡ left ++ (j ∷ [])
    unfolding joined_with
    cells-joined e = ap₂ (λ (l : List Cell) (j : Cell). l ++ (j ∷ [])) others-left e

    pub join_low : ltb f.cell.number m.number ≡ true
        → ((joined_with f m).cells ≡ left ++ (settled f.store.free on_d ∷ [])) × ((joined_with f m).free ≡ settled_free 0 m.chain (free_after f.store.free on_d))
    join_low t = (cells-joined (joined_low t), freed_low t)

    pub join_high : ltb f.cell.number m.number ≡ false → ((joined_with f m).cells ≡ left ++ (settled free_d on_m ∷ [])) × ((joined_with f m).free ≡ free_after free_d on_m)
    join_high t = (cells-joined (joined_high t), freed_high t)
