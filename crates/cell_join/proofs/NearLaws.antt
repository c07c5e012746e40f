-- The neighbour that is joined: its chain is read, it is swept, and its entries are merged with d's. In the words of the calls.
use mathlib.Core.Bool.{true, not}
use mathlib.Core.List.{List, [], ◌∷◌, ◌++◌, map, map-append}
use mathlib.Core.Path.{◌≡◌, refl, sym, ap, ap₂, subst, ◌∙◌}
use Prim.Native.Nat.{ℕ, suc, ◌+◌, ◌-◌, ◌*◌, ◌≤◌, ◌<◌}
use native.Mathlib.Omega.{arith}
use lib.ListN.{length, take, drop, get_or}
use Rattle.terms.specs.Terms.{Fix, max_on, pages, no_page}
use Rattle.lists.specs.Chains.{chain_head}
use Rattle.lists.specs.Parts.{remove_at}
use Rattle.lists.specs.Rows.{Rows, Rising, merge}
use Rattle.lists.specs.Tests.{Each}
use Rattle.lists.specs.Among.{Among}
use Rattle.lists.proofs.AmongLaws.{Each-Among}
use Rattle.lists.proofs.RowsLaws.{Rising-filter}
use Rattle.lists.proofs.SumsLaws.{sum-cons, sum_middle, length_middle, length-filter-not}
use Rattle.lists.proofs.TestsLaws.{Each_middle}
use Rattle.page.specs.declared.Chain.{Chain}
use Rattle.page.specs.Buffer.{there, pages_of, chain_from, entries_on}
use Rattle.rules.specs.Limits.{max_cells}
use Rattle.rules.specs.Store.{Cell, pages_for}
use Rattle.rules.specs.Sweep.{stale, swept, swept_entries, swept_memo}
use Rattle.rules.specs.Flush.{Flushed, joined, joined_with}
use Rattle.rules.specs.WellFormed.{stale_in}
use Rattle.rules.specs.Parts.{Rowed}
use Rattle.rules.proofs.BooksLaws.{memo_total}
use Rattle.rules.proofs.RoundLaws.{Bounded_total}
use Rattle.desk.specs.declared.Slot.{Slot}
use Rattle.desk.specs.declared.Frame.{Frame}
use Rattle.desk.specs.Held.{Directory, Grid, Memo, directory_in, grid_in}
use Rattle.desk.specs.Layout.{no_slot, line_slots, cut_list_of, slot_of, directory_of, grid_of, memo_of}
use Rattle.desk.specs.Laid.{LaidMemo}
use Rattle.desk.specs.Views.{slots_in, directory_with}
use Rattle.desk.proofs.ReadLaws.{CellRead, cells_read}
use Rattle.memo.specs.Memo.{lines_of, GoodMemo}
use Rattle.sweep.specs.Sweep.{ReadableChain}
use Rattle.directory.specs.Directory.{WholeDirectory}
use Rattle.directory.proofs.CellLaws.{whole_size}
use Rattle.directory.proofs.DirectoryLaws.{directory_whole, directory_count, directory_slots, directory_removed}
use Rattle.settle.specs.declared.Settled.{Settled}
use Rattle.sweep.proofs.CellLaws.{Sweepable, sweepable, cell_asks, cell_gives}
use Rattle.join.specs.Join.{joined_slot}
use Rattle.join.proofs.JoinLaws.{joined_slot-cell}
use Rattle.cell_last.specs.Frames.{with_count}
use Rattle.cell_last.specs.Settling.{BeforeReshape}
use Rattle.cell_join.specs.Joining.{BeforeJoin, BeforeJoinPages, AfterJoinPages}
use Rattle.cell_last.proofs.MidwayLaws.{store_once, midway_loose}
use Rattle.cell_join.proofs.LaidLaws.{few_joined, cells-joined}
use Rattle.cell_last.proofs.CellsLaws.{slots_with}
use Rattle.cell_last.proofs.MovedLaws.{with_slots, slot_same, loose_in, loose_free}

-- ---- the memo in the middle of a flush

module _ {grid : Grid} {at : ℕ} {chain : List ℕ} {rows : Rows Fix} {memo : Memo} {b : List ℕ} (x : BeforeReshape grid at chain rows memo b) where
  pub midway_lines : length x.flushed.store.memo ≤ line_slots
  midway_lines =
      let r = x.mid in
      let cells = x.before ++ (x.d ∷ x.after) in
      omega (
        arith,
        memo_total r.books,
        sum-cons (stale_in x.flushed.store.memo) x.flushed.cell (x.before ++ x.after),
        r.clean,
        r.stale 0,
        sum_middle (stale_in x.lines) x.before x.d x.after,
        Bounded_total x.lines cells (length x.flushed.store.waiting + x.n) x.c r.bounded (omega (arith, length_middle x.before x.d x.after)),
        x.late,
      )

-- ---- the neighbour

module _ {frame : Frame} {rest : List Slot} {d : Slot} {k : ℕ} {chain : List ℕ} {rows : Rows Fix} {memo : Memo} {b : List ℕ} (x : BeforeJoin frame rest d k chain rows memo b) where
  abbrev others : Directory
  others = directory_in (frame.cells - 1) rest

  abbrev f : Flushed
  f = x.midway.flushed

  abbrev cells : List Cell
  cells = x.midway.before ++ x.midway.after

  abbrev m : Cell
  m = x.neighbour

  abbrev among : Among cells m
  among = record { before = take k cells; after = drop (suc k) cells; split = x.stands.split }

  cells_few : length cells < max_cells
  cells_few = omega (arith, x.midway.mid.tiled.few_cells, length_middle x.midway.before x.midway.d x.midway.after)

  -- one of them is d
  pub near_some : 1 ≤ frame.cells
  near_some = omega (arith, loose_in (midway_loose x.midway))

  pub near_puts : WholeDirectory (directory_in (frame.cells - 1) rest) × (k < frame.cells - 1) × (frame.cells - 1 ≤ max_cells)
  near_puts =
      let n = directory_count cells x.out.rest_is in
      (directory_whole cells x.out.rest_is, omega (arith, n, x.stands.inside), omega (arith, n, cells_few))

  pub near_reads : k < max_cells
  near_reads = omega (arith, x.stands.inside, cells_few)

  paged : length m.chain ≡ pages_for (length m.entries)
  paged =
      Each-Among (λ c. length c.chain ≡ pages_for (length c.entries))
      (Each_middle (λ c. length c.chain ≡ pages_for (length c.entries)) x.midway.before x.midway.d x.midway.after x.midway.mid.paged.cells_paged).1 among

  rowed : Rowed m
  rowed = Each-Among Rowed x.midway.mid.books.cells_rowed.1 among

  read : CellRead b m
  read =
      Each-Among (CellRead b)
      (Each_middle (CellRead b) x.midway.before x.midway.d x.midway.after
      (subst (λ (l : List Cell). Each (CellRead b) l) x.midway.mid.cells (cells_read f.store (store_once x.midway.mid b x.midway.laid.in_grid.laid) b x.midway.laid.in_grid.laid))).1 among

  few_stay : length (swept_entries f.store.memo m.entries) ≤ length m.entries
  unfolding swept_entries
  few_stay = omega (arith, length-filter-not (stale f.store.memo) m.entries)

  pub near_swept : Sweepable b f.store.memo m
  near_swept = sweepable b f.store.memo m read paged rowed.rising (omega (arith, few_stay, x.small))

  -- its slot
  module _ {s : Slot} (is_slot : s ≡ get_or rest k no_slot) (other : Chain) (read_first : pages_of other ≡ chain_from pages b s.first) where
    pub slot_m : s ≡ slot_of m
    slot_m = is_slot ∙ x.stands.element

    from_first : pages_of other ≡ chain_from pages b (chain_head no_page m.chain)
    from_first = read_first ∙ ap (λ (y : Slot). chain_from pages b y.first) slot_m

    pub near_asks : other.n ≤ pages → ReadableChain b other × GoodMemo memo × (length (swept_entries (lines_of memo) (entries_on b (pages_of other))) ≤ max_on)
    near_asks n = cell_asks near_swept other memo from_first x.midway.laid.memo_is n (midway_lines x.midway) x.midway.mid.books.memo_rises

    pub other_is : pages_of other ≡ m.chain
    other_is = from_first ∙ near_swept.read

    module _ {stay : Rows Fix} {after : Memo} (said : (stay ≡ swept_entries (lines_of memo) (entries_on b (pages_of other))) × (after ≡ memo_of (swept_memo (lines_of memo) (entries_on b (pages_of other))))) where
      gives : (stay ≡ (swept f.store.memo m).entries) × (after ≡ memo_of (swept_memo f.store.memo m.entries))
      gives = cell_gives near_swept other memo from_first x.midway.laid.memo_is said

      pub stays : stay ≡ swept_entries f.store.memo m.entries
      unfolding swept
      stays = gives.0

      pub near_merges : (length stay + length rows ≤ max_on) × Rising 0 stay × Rising 0 rows
      unfolding swept_entries
      near_merges = (
        omega (arith, ap length stays, few_stay, x.small, ap length x.midway.entered),
        rw stays (Rising-filter (λ e. not (stale f.store.memo e)) 0 m.entries rowed.rising),
        rw x.midway.entered x.midway.mid.books.cells_rowed.0.rising,
      )

      abbrev pub near_joins : (all : Rows Fix) → all ≡ merge stay rows → BeforeJoinPages frame.free d chain s (pages_of other) all b
      near_joins all e = record {
        flushed = f;
        old = x.midway.d;
        before = x.midway.before;
        after = x.midway.after;
        memo = x.midway.lines;
        n = x.midway.n;
        c = x.midway.c;
        mid = x.midway.mid;
        neighbour = m;
        among = among;
        small = x.small;
        free_is = loose_free (midway_loose x.midway);
        d_is = x.out.slot_is;
        chained = x.midway.chained;
        m_is = slot_m;
        other_is = other_is;
        all_is = e ∙ ap₂ merge stays x.midway.entered;
        laid = x.midway.laid.in_grid.laid;
      }

      noted : after ≡ memo_of (swept_memo f.store.memo m.entries)
      noted = gives.1

      pub near_returns : {ends : Settled} {b' : List ℕ} {vs : List Slot} {r : Frame} → AfterJoinPages f m ends b'
          → directory_in (frame.cells - 1) vs ≡ directory_with (remove_at (slots_in (directory_in (frame.cells - 1) rest)) k ++ (joined_slot d s ends.first ∷ []))
          → r ≡ with_count (frame.cells - 1) ends.free frame
          → LaidMemo (joined_with f m) (grid_in r vs) after b'
      unfolding grid_of joined_with
      near_returns {ends = ends} {vs = vs} {r = r} laid is_cells is_r =
          let mid = x.midway.mid in
          let d_slot : d ≡ slot_of f.cell = x.out.slot_is ∙ sym (slot_same f.cell x.midway.d mid.number mid.edges mid.chain) in
          let last : joined_slot d s ends.first ≡ slot_of (joined f m) =
          ap₂ (λ (y : Slot) (p : Slot × ℕ). joined_slot y p.0 p.1) d_slot (ap₂ (λ (y : Slot) (n : ℕ). (y, n)) slot_m laid.first) ∙ joined_slot-cell f m in
          let left : remove_at (slots_in others) k ≡ map slot_of (take k cells ++ drop (suc k) cells) =
          sym (slots_with (remove_at (slots_in others) k)) ∙ ap slots_in (directory_removed cells x.out.rest_is k) ∙ directory_slots (take k cells ++ drop (suc k) cells) refl in
          let all : directory_in (frame.cells - 1) vs ≡ directory_of (joined_with f m).cells =
          is_cells ∙ ap₂ (λ (l : List Slot) (y : Slot). directory_with (l ++ (y ∷ []))) left last
          ∙ ap directory_with (sym (map-append slot_of (take k cells ++ drop (suc k) cells) (joined f m ∷ []))) ∙ with_slots ((take k cells ++ drop (suc k) cells) ++ (joined f m ∷ []))
          ∙ ap directory_of (sym (cells-joined mid b x.midway.laid.in_grid.laid m among x.small refl)) in
          let easts : frame.easts ≡ cut_list_of f.store.cuts.easts = ap (λ (g : Grid). g.easts) x.midway.laid.in_grid.grid_is in
          let norths : frame.norths ≡ cut_list_of f.store.cuts.norths = ap (λ (g : Grid). g.norths) x.midway.laid.in_grid.grid_is in
          let front = laid.free in
          record {
            in_grid = record {
              grid_is = ap (λ (y : Frame). grid_in y vs) is_r ∙ (λ t. record { easts = easts t; norths = norths t; cells = all t; free = front t });
              laid = laid.laid;
            };
            memo_is = noted;
          }
