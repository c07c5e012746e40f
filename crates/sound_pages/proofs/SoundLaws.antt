-- The walk over the directory, and the theorem: the test passes exactly where pages and directory are those of some cells.
use mathlib.Core.Bool.{Bool, true, false}
use mathlib.Core.List.{List, [], ◌∷◌, map}
use mathlib.Core.Path.{◌≡◌, refl, sym, ap, ◌∙◌}
use Prim.Native.Nat.{ℕ, ◌+◌, ◌≤◌}
use native.Mathlib.Omega.{arith}
use lib.Dec.{eqb, ltb}
use lib.ListN.{length, length-map, length-take}
use borrow.Author.Tests.{eqb-true, eq-eqb, leb-true, le-leb}
use Rattle.terms.specs.Terms.{Fix, pages}
use Rattle.lists.specs.Rows.{Rows}
use Rattle.lists.specs.Sums.{concat, count}
use Rattle.lists.specs.Tests.{one_if, Each}
use Rattle.lists.specs.Words.{Bytes}
use Rattle.lists.proofs.Cases.{by_cases}
use Rattle.lists.proofs.SumsLaws.{sum-append}
use Rattle.lists.proofs.TestsLaws.{both_left, both_right, both_intro, Each-append, Each_split}
use Rattle.page.specs.Page.{kind_first}
use Rattle.page.specs.Buffer.{buffer_bytes}
use Rattle.rules.specs.Grid.{Rect}
use Rattle.rules.specs.Limits.{max_cells}
use Rattle.rules.specs.Store.{Cell, pages_for}
use Rattle.desk.specs.declared.Slot.{Slot}
use Rattle.desk.specs.Held.{Directory}
use Rattle.desk.specs.Layout.{slot_of, At, cell_leaves, cells_leaves}
use Rattle.desk.specs.Views.{edges_of}
use Rattle.sound_pages.specs.PagesSound.{CellSound, PagesSound}
use Rattle.sound_pages.specs.Walks.{Walk, no_marks, passed, failed, slot_test, slots_test, front_test, rest_test, pages_test}
use Rattle.sound_pages.proofs.MarksLaws.{Marked, Room, Passes, mark_none, mark_then, Room-length, length-no_marks, no_mark, all_marked, marked_all}
use Rattle.sound_pages.proofs.PageLaws.{belong_placed, belong_dated, belong_both}
use Rattle.sound_pages.proofs.ChainLaws.{failed_not, need, Chain, Chain_passed, chain_Passes, Free_passed, Free_Passes}

-- ---- the pages of the cells' chains

abbrev pub chains_of : List Cell → List ℕ
chains_of cells = concat (map (λ c. c.chain) cells)

count_cells : (q : ℕ) (c : Cell) (cells : List Cell) → count q (chains_of (c ∷ cells)) ≡ count q c.chain + count q (chains_of cells)
unfolding concat
count_cells q c cells = sum-append (λ x. one_if (eqb q x)) c.chain (chains_of cells)

-- ---- one step

module _ (highest : ℕ) (b : List ℕ) (m : List Bool) where
  pub Slots_none : slots_test highest b m [] ≡ passed m
  unfolding slots_test
  Slots_none = refl

  module _ (s : Slot) (ss : List Slot) where
    pub Slots_out : (slot_test highest b m s).ok ≡ false → slots_test highest b m (s ∷ ss) ≡ failed (slot_test highest b m s).marks
    unfolding slots_test
    Slots_out t = rw t

    pub Slots_more : (slot_test highest b m s).ok ≡ true → slots_test highest b m (s ∷ ss) ≡ slots_test highest b (slot_test highest b m s).marks ss
    unfolding slots_test
    Slots_more t = rw t

-- ---- what passes

pub record Slots (highest : ℕ) (b : List ℕ) (m : List Bool) (ss : List Slot) (w : Walk) : Type 0 where
  pub cells : List Cell
  pub shown : ss ≡ map slot_of cells
  pub laid : Each (At b) (cells_leaves cells)
  pub good : Each (CellSound highest) cells
  pub marked : Marked m (λ q. count q (chains_of cells)) w.marks

Slots_end : (highest : ℕ) (b : List ℕ) (m : List Bool) → length m ≡ pages → Slots highest b m [] (passed m)
unfolding cells_leaves concat
Slots_end highest b m l = record { cells = []; shown = refl; laid = tt; good = tt; marked = mark_none m l }

Slots-cons : (highest : ℕ) (b : List ℕ) (m : List Bool) (s : Slot) (ss : List Slot) (v w : Walk) → Chain highest b s m kind_first 0 s.first v → Slots highest b v.marks ss w → Slots highest b m (s ∷ ss) w
unfolding cells_leaves cell_leaves concat need pages_for
Slots-cons highest b m s ss v w c r =
    let x : Cell = record { number = s.number; edges = edges_of s; chain = s.first ∷ c.more; entries = c.rows } in
    record {
      cells = x ∷ r.cells;
      shown = ap (λ (l : List Slot). s ∷ l) r.shown;
      laid = Each-append (At b) (cell_leaves x) (cells_leaves r.cells) c.laid r.laid;
      good = (record { paged = c.paged; rising = c.rising; radios = c.radios; placed = belong_placed highest s c.rows c.belong; dated = belong_dated highest s c.rows c.belong }, r.good);
      marked = mark_then _ c.marked r.marked (λ q. count_cells q x r.cells);
    }

module _ (highest : ℕ) (b : List ℕ) (small : Bytes b) (whole : length b ≡ buffer_bytes) where
  slot_passed : (m : List Bool) (s : Slot) → length m ≡ pages → (slot_test highest b m s).ok ≡ true → Chain highest b s m kind_first 0 s.first (slot_test highest b m s)
  unfolding slot_test
  slot_passed m s l t = Chain_passed highest b small whole s pages m kind_first 0 s.first l (omega arith) t

  pub Slots_passed : (m : List Bool) (ss : List Slot) → length m ≡ pages → (slots_test highest b m ss).ok ≡ true → Slots highest b m ss (slots_test highest b m ss)
  Slots_passed m [] l = rw (Slots_none highest b m) (λ h. Slots_end highest b m l)
  Slots_passed m (s ∷ ss) l =
      by_cases (slot_test highest b m s).ok
      (λ t. let c = slot_passed m s l t in rw (Slots_more highest b m s ss t) (λ h. Slots-cons highest b m s ss _ _ c (Slots_passed (slot_test highest b m s).marks ss c.marked.size h)))
      (λ t. rw (Slots_out highest b m s ss t) (λ h. failed_not (slot_test highest b m s).marks h))

-- ---- cells pass

module _ (highest : ℕ) (b : List ℕ) where
  cell_Passes : (m : List Bool) (n : ℕ) (edges : Rect) (chain : List ℕ) (es : Rows Fix) → length m ≡ pages → Room m (λ q. count q chain)
      → Each (At b) (cell_leaves (record { number = n; edges = edges; chain = chain; entries = es })) → CellSound highest (record { number = n; edges = edges; chain = chain; entries = es })
      → Passes m (λ q. count q chain) (slot_test highest b m (slot_of (record { number = n; edges = edges; chain = chain; entries = es })))
  unfolding cell_leaves slot_test need pages_for
  cell_Passes m n edges [] es l r a g = let z = g.paged in absurd (omega arith)
  cell_Passes m n edges (p ∷ ps) es l r a g =
      let k = Room-length m (p ∷ ps) r in
      chain_Passes highest b (slot_of (record { number = n; edges = edges; chain = p ∷ ps; entries = es })) pages m kind_first 0 p ps es l (omega arith) r a (omega arith) (omega arith) g.paged g.rising g.radios
      (belong_both highest (slot_of (record { number = n; edges = edges; chain = p ∷ ps; entries = es })) es g.placed g.dated)

  pub cells_pass : (m : List Bool) (cells : List Cell) → length m ≡ pages → Room m (λ q. count q (chains_of cells)) → Each (At b) (cells_leaves cells) → Each (CellSound highest) cells
      → Passes m (λ q. count q (chains_of cells)) (slots_test highest b m (map slot_of cells))
  unfolding cells_leaves concat
  cells_pass m [] l r a g = rw (Slots_none highest b m) (record { good = refl; marked = mark_none m l })
  cells_pass m (c ∷ cells) l r a g =
      let e = Each_split (At b) (cell_leaves c) (cells_leaves cells) a in
      let t = cell_Passes m c.number c.edges c.chain c.entries l (λ q. omega (arith, r q, count_cells q c cells)) e.0 g.0 in
      let i = cells_pass (slot_test highest b m (slot_of c)).marks cells t.marked.size (λ q. omega (arith, r q, t.marked.so q, count_cells q c cells)) e.1 g.1 in
      rw (Slots_more highest b m (slot_of c) (map slot_of cells) t.good) (record { good = i.good; marked = mark_then _ t.marked i.marked (λ q. count_cells q c cells) })

-- ---- the theorem

-- the first slots are no more than there are
pub sound_few : (highest : ℕ) (b : List ℕ) (d : Directory) (free : ℕ) → length d.slots ≡ max_cells → PagesSound highest b d free → d.n ≤ max_cells
sound_few highest b d free l s = omega (arith, s.number, length-take d.n d.slots, ap length s.shown, length-map s.cells slot_of)

module _ (highest : ℕ) (b : List ℕ) (d : Directory) (free : ℕ) (small : Bytes b) (slots : length d.slots ≡ max_cells) where
  pub test_sound : pages_test highest b d free ≡ true → PagesSound highest b d free
  unfolding pages_test rest_test front_test
  test_sound t =
      let whole = eqb-true _ _ (both_left _ _ t) in
      let t₁ = both_right _ _ t in
      let few = leb-true d.n max_cells (both_left _ _ t₁) in
      let t₂ = both_right _ _ t₁ in
      let t₃ = both_right _ _ t₂ in
      let c = Slots_passed highest b small whole no_marks _ length-no_marks (both_left _ _ t₂) in
      let f = Free_passed b small whole pages _ free c.marked.size (both_left _ _ t₃) in
      record {
        cells = c.cells;
        free_chain = f.chain;
        size = whole;
        number = omega (arith, length-take d.n d.slots, ap length c.shown, length-map c.cells slot_of);
        shown = c.shown;
        front = f.front;
        leaf = c.laid;
        free_leaf = f.laid;
        once = λ p. omega (arith, sum-append (λ x. one_if (eqb p x)) (chains_of c.cells) f.chain, no_mark p, c.marked.so p, f.marked.so p, all_marked _ p f.marked.size (both_right _ _ t₃));
        good = c.good;
      }

  pub sound_test : PagesSound highest b d free → pages_test highest b d free ≡ true
  unfolding pages_test rest_test front_test
  sound_test s =
      let once : (p : ℕ) → count p (chains_of s.cells) + count p s.free_chain ≡ one_if (ltb p pages) = λ p. sym (sum-append (λ x. one_if (eqb p x)) (chains_of s.cells) s.free_chain) ∙ s.once p in
      let c = cells_pass highest b no_marks s.cells length-no_marks (λ q. omega (arith, no_mark q, once q)) s.leaf s.good in
      let m = (slots_test highest b no_marks (map slot_of s.cells)).marks in
      let r : Room m (λ q. count q s.free_chain) = λ q. omega (arith, no_mark q, once q, c.marked.so q) in
      let f = Free_Passes b pages m s.free_chain c.marked.size (Room-length m s.free_chain r) r s.free_leaf in
      both_intro (eq-eqb _ _ s.size)
      (both_intro (le-leb d.n max_cells (sound_few highest b d free slots s))
      (rw (s.shown, s.front)
      (both_intro c.good (both_intro f.good (marked_all _ f.marked.size (λ q. omega (arith, no_mark q, once q, c.marked.so q, f.marked.so q)))))))
