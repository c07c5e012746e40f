-- A desk and bytes laid out as a well-formed store says keep what Demand 3 asks of them, where the plain rule stands as the store does.
use mathlib.Core.Bool.{Bool, true, not}
use Rattle.desk.specs.Views.{every_report}
use mathlib.Core.List.{List, [], ◌∷◌, ◌++◌, map}
use Rattle.std.specs.Prelude.{Option, None, Some}
use mathlib.Core.Path.{◌≡◌, refl, sym, ap, ap₂, ◌∙◌, subst}
use Prim.Native.Nat.{ℕ, suc, ◌+◌, ◌≤◌}
use native.Mathlib.Omega.{arith}
use lib.Dec.{eqb}
use lib.ListN.{length, take}
use borrow.Author.Tests.{eq-eqb, ne_eqb, lt-ltb}
use Rattle.terms.specs.Terms.{Place, Fix, max_radio, pages, no_page}
use Rattle.lists.specs.Chains.{chain_head}
use Rattle.lists.specs.Rows.{Row, Rows, Rising, find, count_found, passed}
use Rattle.lists.specs.Sums.{sum_by, sum_to, concat, count}
use Rattle.lists.specs.Tests.{one_if, both, is_some, Each, or_else}
use Rattle.lists.proofs.Cases.{by_cases, option_cases}
use Rattle.lists.proofs.ChainsLaws.{walk-Linked}
use Rattle.lists.proofs.RowsLaws.{sum_at_key, find_within}
use Rattle.lists.proofs.SumsLaws.{sum-nil, sum-append, sum-le, sum_const, sum-Each, sum_to_ext, sum-concat-map, sum_Each_once}
use Rattle.lists.proofs.TestsLaws.{Each_map, Each_zip, one_if-le}
use Rattle.lists.proofs.WordsLaws.{wide_halves}
use Rattle.page.specs.Page.{entries}
use Rattle.page.specs.Buffer.{page_at}
use Rattle.page.proofs.ChainLaws.{following}
use Rattle.rules.specs.Store.{Store, Cell, Report as StoreReport, Line as StoreLine, missed_of}
use Rattle.rules.specs.Sweep.{is_at, stale}
use Rattle.rules.specs.Carry.{is_on, fix_of, live_in, stored_in}
use Rattle.rules.specs.Plain.{Plain, place_of}
use Rattle.rules.specs.Watches.{Watch}
use Rattle.rules.specs.WellFormed.{count_if, live_of, stale_of, chains, WellFormed, PagesOnce}
use Rattle.rules.proofs.LinkLaws.{Link, length-waiting}
use Rattle.rules.proofs.BooksLaws.{missed_total}
use Rattle.rules.proofs.PlaceLaws.{same_place_refl}
use Rattle.rules.proofs.TilingLaws.{some_cell}
use Rattle.rules.proofs.WellLaws.{well_Core, well_Tiling}
use Rattle.desk.specs.declared.Desk.{Desk}
use Rattle.desk.specs.Layout.{slot_of, grid_of, report_of, waiting_of, line_with, line_of, ledger_of, desk_of, Laid}
use Rattle.desk.proofs.ReadLaws.{ChainRead, CellRead, FreePage, cells_read, free_read, Paged, pages_enough}
use Rattle.desk.proofs.UniqueLaws.{take_cuts, take_slots, take_waiting, take_memo}
use Rattle.demands.specs.Trace.{desk_cuts}
use Rattle.demands.specs.Demands.{chain_at, all_chains, stale_entry, stale_entries, missed_in, missed_count, memo_lines, is_radio, waiting_fix, stale_bound, Kept}

-- ---- the desk's lists

-- the desk of a store and its watches
abbrev pub desk_at : Store → List Watch → Desk
desk_at s vs = desk_of (record { store = s; watches = vs })

pub desk_cuts_lem : (s : Store) (vs : List Watch) → desk_cuts (desk_at s vs) ≡ s.cuts
unfolding desk_cuts desk_of ledger_of grid_of
desk_cuts_lem s vs = let a = take_cuts s.cuts.easts in let o = take_cuts s.cuts.norths in λ i. record { easts = a i; norths = o i }

line_radio : (r m : ℕ) (o : Option Place) → (line_with r m o).radio ≡ r
line_radio r m None = refl
line_radio r m (Some p) = refl

line_missed : (r m : ℕ) (o : Option Place) → (line_with r m o).missed ≡ m
line_missed r m None = refl
line_missed r m (Some p) = refl

missed_found : (l : Rows StoreLine) (r : ℕ) → missed_in (map line_of l) r ≡ missed_of (find l r)
unfolding missed_in find
missed_found [] r = refl
missed_found (x ∷ xs) r =
    rw (line_radio x.key x.val.missed x.val.last, line_missed x.key x.val.missed x.val.last, missed_found xs r)
    (by_cases (eqb r x.key) (λ t. rw t) (λ t. rw t))

pub missed_count_lem : (s : Store) (vs : List Watch) (r : ℕ) → missed_count (desk_at s vs) r ≡ missed_of (find s.memo r)
unfolding missed_count desk_of ledger_of
missed_count_lem s vs r = ap (λ l. missed_in l r) (take_memo s.memo) ∙ missed_found s.memo r

lines_keys : (l : Rows StoreLine) (r : ℕ) → sum_by (λ y. one_if (eqb r y.radio)) (map line_of l) ≡ sum_by (λ y. one_if (eqb r y.key)) l
unfolding sum_by
lines_keys [] r = refl
lines_keys (x ∷ xs) r = rw (line_radio x.key x.val.missed x.val.last, lines_keys xs r)

count_line : (r : ℕ) (o : Option StoreLine) → count_found (λ k _. one_if (eqb r k)) r o ≡ one_if (is_some o)
count_line r None = refl
count_line r (Some l) = rw (eq-eqb r r refl)

pub memo_lines_lem : (s : Store) (vs : List Watch) → WellFormed s → (r : ℕ) → memo_lines (desk_at s vs) r ≡ one_if (is_some (find s.memo r))
unfolding memo_lines desk_of ledger_of
memo_lines_lem s vs w r =
    ap (sum_by (λ y. one_if (eqb r y.radio))) (take_memo s.memo) ∙ lines_keys s.memo r
    ∙ sum_at_key (λ y. one_if (eqb r y.key)) 0 r s.memo (λ y d. ap one_if (ne_eqb r y.key (λ q. d (sym q)))) w.memo_rises
    ∙ count_line r (find s.memo r)

pub one_line : (s : Store) (vs : List Watch) → WellFormed s → (r : ℕ) → memo_lines (desk_at s vs) r ≤ one_if (is_radio r)
unfolding is_radio both
one_line s vs w r =
    by_cases (is_some (find s.memo r))
    (λ t. let k = find_within 0 max_radio r s.memo w.memo_rises w.memo_radios t in
    rw (memo_lines_lem s vs w r, t, lt-ltb 0 r k.0, lt-ltb r (suc max_radio) (omega (arith, k.1))) (omega arith))
    (λ t. rw (memo_lines_lem s vs w r, t) (omega arith))

waiting_found : (l : Rows StoreReport) (r : ℕ) → waiting_fix (map report_of l) r ≡ fix_of (find l r)
unfolding waiting_fix find
waiting_found [] r = refl
waiting_found (x ∷ xs) r = by_cases (eqb r x.key) (λ t. rw (t, wide_halves x.val.fix.minute)) (λ t. rw t (waiting_found xs r))

pub waiting_place : (s : Store) (vs : List Watch) (r : ℕ) → waiting_fix (take (desk_at s vs).parts.waiting (every_report (desk_at s vs).waiting)) r ≡ fix_of (find s.waiting r)
unfolding desk_of ledger_of
waiting_place s vs r = ap (λ l. waiting_fix l r) (take_waiting s.waiting) ∙ waiting_found s.waiting r

pub waiting_number : (s : Store) (vs : List Watch) → (desk_at s vs).parts.waiting ≡ length s.waiting
unfolding desk_of ledger_of waiting_of
waiting_number s vs = refl

pub exactly_waiting : (s : Store) (vs : List Watch) (x : Plain) → WellFormed s → Link s x → (desk_at s vs).parts.waiting ≡ sum_to (suc max_radio) (λ r. one_if (x.waits r))
exactly_waiting s vs x w k = waiting_number s vs ∙ length-waiting s x k (well_Core s w).waits

-- ---- the chains

chain_at_lem : (b l : List ℕ) → ChainRead b l → chain_at b (chain_head no_page l) ≡ l
unfolding chain_at
chain_at_lem b l c = walk-Linked no_page (following b) (suc pages) l c.linked (omega (arith, c.few))

cell_chains : (b : List ℕ) (cells : List Cell) → Each (CellRead b) cells → concat (map (λ c. chain_at b c.first) (map slot_of cells)) ≡ concat (map (λ c. c.chain) cells)
unfolding concat
cell_chains b [] e = refl
cell_chains b (c ∷ cs) e = ap₂ (λ (x y : List ℕ). x ++ y) (chain_at_lem b c.chain e.0.read) (cell_chains b cs e.1)

pub all_chains_lem : (s : Store) (vs : List Watch) (b : List ℕ) → PagesOnce s → Laid s b → all_chains (desk_at s vs) b ≡ chains s
unfolding all_chains chains desk_of ledger_of grid_of
all_chains_lem s vs b once l =
    ap₂ (λ (x y : List ℕ). x ++ y)
    (ap (λ z. concat (map (λ c. chain_at b c.first) z)) (take_slots s.cells) ∙ cell_chains b s.cells (cells_read s once b l))
    (chain_at_lem b s.free (free_read s once b l).read)

-- ---- the entries on the pages are those of the cells

module _ (s : Store) (w : WellFormed s) (b : List ℕ) (l : Laid s b) (f : Row Fix → ℕ) where
  cell_sum : (c : Cell) → Paged c → CellRead b c → sum_by (λ p. sum_by f (entries (page_at b p))) c.chain ≡ sum_by f c.entries
  cell_sum c p k = sym (sum-concat-map f (λ q. entries (page_at b q)) c.chain) ∙ ap (sum_by f) (sym (k.entries (pages_enough c p)))

  free-sum : sum_by (λ p. sum_by f (entries (page_at b p))) s.free ≡ 0
  free-sum =
      sum-Each (λ p. sum_by f (entries (page_at b p))) (λ _. 0) s.free (Each_map (FreePage b) _ s.free (λ p k. ap (sum_by f) k.entries ∙ sum-nil f) (free_read s w.once b l).free)
      ∙ omega (arith, sum_const 0 s.free)

  pub pages-sum : sum_to pages (λ p. sum_by f (entries (page_at b p))) ≡ sum_by (λ c. sum_by f c.entries) s.cells
  unfolding chains
  pages-sum =
      let g : ℕ → ℕ = λ p. sum_by f (entries (page_at b p)) in
      omega (
        arith,
        sum_Each_once pages g (chains s) w.once,
        sum-append g (concat (map (λ c. c.chain) s.cells)) s.free,
        free-sum,
        sum-concat-map g (λ c. c.chain) s.cells,
        sum-Each (λ c. sum_by g c.chain) (λ c. sum_by f c.entries) s.cells (Each_zip _ _ _ s.cells (λ c h k. cell_sum c h.paged k) w.cells (cells_read s w.once b l)),
      )

-- ---- stale entries of a radio

count_stale : (x : Plain) (r : ℕ) (o : Option Fix) → count_found (λ k v. one_if (stale_entry x r (record { key = k; val = v }))) r o ≡ count_if (λ f. not (is_at (x.flushed r) f.place)) o
unfolding stale_entry both
count_stale x r None = refl
count_stale x r (Some v) = rw (eq-eqb r r refl)

stale_rows : (x : Plain) (r : ℕ) (l : Rows Fix) → Rising 0 l → sum_by (λ e. one_if (stale_entry x r e)) l ≡ count_if (λ f. not (is_at (x.flushed r) f.place)) (find l r)
unfolding stale_entry both
stale_rows x r l a =
    sum_at_key (λ e. one_if (stale_entry x r e)) 0 r l (λ e d. rw (ne_eqb r e.key (λ q. d (sym q)))) a ∙ count_stale x r (find l r)

-- over all pages they are those in the cells
pub stale_cells : (s : Store) (x : Plain) (b : List ℕ) → WellFormed s → Laid s b → (r : ℕ) → stale_entries x b r ≡ stale_of (x.flushed r) r s.cells
unfolding stale_entries stale_of
stale_cells s x b w l r =
    pages-sum s w b l (λ e. one_if (stale_entry x r e))
    ∙ sum-Each _ _ s.cells (Each_map _ _ s.cells (λ c h. stale_rows x r c.entries h.rising) w.cells)

-- ---- the memo agrees with the plain rule

-- how many cells have an entry of the radio
abbrev held_of : ℕ → List Cell → ℕ
held_of r cells = sum_by (λ c. count_if (λ _. true) (find c.entries r)) cells

count_le : (t : Fix → Bool) (o : Option Fix) → count_if t o ≤ count_if (λ _. true) o
count_le t None = omega arith
count_le t (Some f) = one_if-le (t f)

stale_le : (last : Option Place) (r : ℕ) (cells : List Cell) → stale_of last r cells ≤ held_of r cells
unfolding stale_of
stale_le last r cells = sum-le _ _ cells (λ c. count_le (λ f. not (is_at last f.place)) (find c.entries r))

-- without a line, the one entry of a radio is the live one
module _ (memo : Rows StoreLine) (r : ℕ) (n : find memo r ≡ None) where
  held_live : (cells : List Cell) → held_of r cells ≡ live_of memo r cells
  unfolding live_of
  held_live cells = rw n

  only_stored : (cells : List Cell) → held_of r cells ≤ 1 → stale_of (place_of (stored_in memo r cells)) r cells ≡ 0
  unfolding sum_by stale_of stored_in live_in
  only_stored [] h = refl
  only_stored (c ∷ cs) h =
      let P : Option Fix → Type 0 = λ o. let last = place_of (or_else (passed (λ v. not (stale memo v)) r o) (stored_in memo r cs)) in
      count_if (λ f. not (is_at last f.place)) o + stale_of last r cs ≡ 0 in
      option_cases (find c.entries r)
      (λ e. subst P (sym e) (omega (arith, only_stored cs (omega (arith, rw e at h)))))
      (λ v e. subst P (sym e) (rw (n, same_place_refl v.place) (omega (arith, stale_le (Some v.place) r cs, rw e at h))))

pub stale_flushed : (s : Store) (x : Plain) → WellFormed s → Link s x → (r : ℕ) → stale_of (x.flushed r) r s.cells ≡ missed_of (find s.memo r)
stale_flushed s x w k r =
    option_cases (find s.memo r)
    (λ n. rw n (ap (λ o. stale_of o r s.cells) (sym (k.stored r))
    ∙ only_stored s.memo r n s.cells (omega (arith, held_live s.memo r n s.cells, w.present r, one_if-le (is_on s r)))))
    (λ m e. rw e (ap (λ o. stale_of o r s.cells) (sym (k.lines r m e)) ∙ (w.lines r m e).equal))

-- ---- what is kept

pub stale_missed : (s : Store) (x : Plain) (b : List ℕ) → WellFormed s → Laid s b → Link s x → (r : ℕ) → stale_entries x b r ≡ missed_of (find s.memo r)
stale_missed s x b w l k r = stale_cells s x b w l r ∙ stale_flushed s x w k r

-- 16 × 63 + 15 + 127 = 1,150: the inequality at the front of the round, with the tally at its greatest
stale_bounded : (s : Store) (vs : List Watch) (x : Plain) (b : List ℕ) → WellFormed s → Laid s b → Link s x → sum_to (suc max_radio) (stale_entries x b) + (desk_at s vs).parts.waiting ≤ stale_bound
stale_bounded s vs x b w l k =
    omega (
      arith,
      sum_to_ext (suc max_radio) (stale_entries x b) (λ r. missed_of (find s.memo r)) (λ r h. stale_missed s x b w l k r),
      missed_total (well_Core s w).books,
      waiting_number s vs,
      w.bounded 0 (some_cell (well_Tiling s w)),
      w.tallied,
    )

pub kept : (s : Store) (vs : List Watch) (x : Plain) (b : List ℕ) → WellFormed s → Laid s b → Link s x → Kept (desk_at s vs) b x
kept s vs x b w l k = record {
  missed = λ r _ _. stale_missed s x b w l k r ∙ sym (missed_count_lem s vs r);
  one_line = one_line s vs w;
  bounded = stale_bounded s vs x b w l k;
  once = λ p. ap (count p) (all_chains_lem s vs b w.once l) ∙ w.once p;
  waiting = λ r. waiting_place s vs r ∙ k.waiting r;
  exactly = exactly_waiting s vs x w k;
}
