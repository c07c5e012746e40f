-- What a desk's fields say of its store, and that desk and bytes are those of one store at most: the cells' chains and entries are read off the bytes.
use mathlib.Core.Path.{◌≡◌, refl, sym, ap, ap₂, ◌∙◌}
use mathlib.Core.List.{List, [], ◌∷◌, map}
use Rattle.std.specs.Prelude.{Option, None, Some}
use Prim.Native.Nat.{ℕ}
use native.Mathlib.Omega.{arith}
use lib.ListN.{length, take, length-map}
use lib.Seq.{take-append_seam}
use Rattle.terms.specs.Terms.{Place, pages, no_page}
use Rattle.lists.specs.Chains.{chain_head}
use Rattle.lists.specs.Rows.{Row, Rows}
use Rattle.lists.specs.Sums.{concat}
use Rattle.lists.specs.Tests.{Each}
use Rattle.lists.specs.Words.{wide}
use Rattle.lists.proofs.TestsLaws.{Each_map, one_if_injective}
use Rattle.lists.proofs.WordsLaws.{wide_halves}
use Rattle.lists.proofs.MapLaws.{map_injective}
use Rattle.page.specs.Page.{entries}
use Rattle.page.specs.Buffer.{page_at, chain_from}
use Rattle.rules.specs.Store.{Report as StoreReport, Line as StoreLine, Cell, Store}
use Rattle.rules.specs.Watches.{latest_place, Watched}
use Rattle.rules.specs.WellFormed.{WellFormed, PagesOnce}
use Rattle.desk.specs.declared.CutList.{CutList}
use Rattle.desk.specs.declared.Desk.{Desk}
use Rattle.desk.specs.Held.{Ledger, desk_ledger}
use Rattle.desk.specs.Layout.{slotted, cut_list_of, slot_of, directory_of, grid_of, report_of, waiting_of, line_with, line_of, memo_of, on_of, ledger_of, watches_of, desk_of, Laid}
use Rattle.desk.specs.Views.{cuts_in, every_report, watches_in}
use Rattle.desk.specs.Sound.{SoundLedger, Sound}
use Rattle.desk.proofs.ReportsLaws.{reports_of_words}
use Rattle.desk.proofs.WatchesLaws.{watches_read}
use Rattle.desk.proofs.ReadLaws.{CellRead, cells_read, free_read, Paged, pages_enough}

-- ---- the desk's lists, by their counts

pub take-slotted : {A : Type 0} (n : ℕ) (z : A) (l : List A) → take (length l) (slotted n z l) ≡ l
unfolding slotted
take-slotted n z l = take-append_seam l _

pub take_cuts : (l : List ℕ) → take (cut_list_of l).n (cut_list_of l).at ≡ l
unfolding cut_list_of
take_cuts l = take-slotted _ _ l

-- the cuts that are laid out are read back
pub cuts_Laid : {c : CutList} {l : List ℕ} → c ≡ cut_list_of l → cuts_in c ≡ l
unfolding cuts_in
cuts_Laid {c} {l} e = ap (λ (x : CutList). take x.n x.at) e ∙ take_cuts l

pub take_slots : (l : List Cell) → take (directory_of l).n (directory_of l).slots ≡ map slot_of l
unfolding directory_of
take_slots l = rw (← length-map l slot_of) (take-slotted _ _ (map slot_of l))

pub take_waiting : (l : Rows StoreReport) → take (waiting_of l).n (every_report (waiting_of l).words) ≡ map report_of l
unfolding waiting_of
take_waiting l = rw (reports_of_words, ← length-map l report_of) (take-slotted _ _ (map report_of l))

pub take_memo : (l : Rows StoreLine) → take (memo_of l).n (memo_of l).lines ≡ map line_of l
unfolding memo_of
take_memo l = rw (← length-map l line_of) (take-slotted _ _ (map line_of l))

pub take_on : (l : Rows (Unit {0})) → take (on_of l).n (on_of l).radios ≡ map (λ x. x.key) l
unfolding on_of
take_on l = rw (← length-map l (λ x. x.key)) (take-slotted _ _ (map (λ x. x.key) l))

-- ---- what each slot says

report_injective : (x y : Row StoreReport) → report_of x ≡ report_of y → x ≡ y
report_injective x y e =
    let r = ap (λ w. w.radio) e in
    let a = ap (λ w. w.east) e in
    let o = ap (λ w. w.north) e in
    let n = one_if_injective x.val.new y.val.new (ap (λ w. w.new) e) in
    let m : x.val.fix.minute ≡ y.val.fix.minute = sym (wide_halves x.val.fix.minute) ∙ ap₂ wide (ap (λ w. w.low) e) (ap (λ w. w.high) e) ∙ wide_halves y.val.fix.minute in
    λ i. record { key = r i; val = record { fix = record { place = record { east = a i; north = o i }; minute = m i }; new = n i } }

line_with_injective : (r q m k : ℕ) (o u : Option Place) → line_with r m o ≡ line_with q k u → (r ≡ q) × (m ≡ k) × (o ≡ u)
line_with_injective r q m k None None e = (ap (λ l. l.radio) e, ap (λ l. l.missed) e, refl)
line_with_injective r q m k None (Some v) e = absurd (omega (arith, ap (λ l. l.placed) e))
line_with_injective r q m k (Some p) None e = absurd (omega (arith, ap (λ l. l.placed) e))
line_with_injective r q m k (Some p) (Some v) e =
    let a = ap (λ l. l.east) e in
    let o = ap (λ l. l.north) e in
    (ap (λ l. l.radio) e, ap (λ l. l.missed) e, λ i. Some (record { east = a i; north = o i }))

line_injective : (x y : Row StoreLine) → line_of x ≡ line_of y → x ≡ y
line_injective x y e =
    let t = line_with_injective x.key y.key x.val.missed y.val.missed x.val.last y.val.last e in
    λ i. record { key = t.0 i; val = record { missed = t.1 i; last = t.2 i } }

radio_injective : (x y : Row (Unit {0})) → x.key ≡ y.key → x ≡ y
radio_injective x y e = λ i. record { key = e i; val = tt }

-- ---- what a desk says of its store

module _ (s t : Store) (e : ledger_of s ≡ ledger_of t) where
  pub same_cuts : s.cuts ≡ t.cuts
  unfolding ledger_of grid_of
  same_cuts =
      let a = sym (take_cuts s.cuts.easts) ∙ ap (λ d. take d.parts.frame.easts.n d.parts.frame.easts.at) e ∙ take_cuts t.cuts.easts in
      let o = sym (take_cuts s.cuts.norths) ∙ ap (λ d. take d.parts.frame.norths.n d.parts.frame.norths.at) e ∙ take_cuts t.cuts.norths in
      λ i. record { easts = a i; norths = o i }

  pub same_slots : map slot_of s.cells ≡ map slot_of t.cells
  unfolding ledger_of grid_of
  same_slots = sym (take_slots s.cells) ∙ ap (λ d. take d.parts.frame.cells d.cells) e ∙ take_slots t.cells

  pub same_front : chain_head no_page s.free ≡ chain_head no_page t.free
  unfolding ledger_of grid_of
  same_front = ap (λ d. d.parts.frame.free) e

  pub same_waiting : s.waiting ≡ t.waiting
  unfolding ledger_of
  same_waiting =
      map_injective report_of report_injective s.waiting t.waiting (sym (take_waiting s.waiting) ∙ ap (λ d. take d.parts.waiting (every_report d.waiting)) e ∙ take_waiting t.waiting)

  pub same_memo : s.memo ≡ t.memo
  unfolding ledger_of
  same_memo = map_injective line_of line_injective s.memo t.memo (sym (take_memo s.memo) ∙ ap (λ d. take d.parts.lines d.memo) e ∙ take_memo t.memo)

  pub same_on : s.on ≡ t.on
  unfolding ledger_of
  same_on = map_injective (λ x. x.key) radio_injective s.on t.on (sym (take_on s.on) ∙ ap (λ d. take d.parts.on d.on) e ∙ take_on t.on)

  pub same_tally : s.tally ≡ t.tally
  unfolding ledger_of
  same_tally = ap (λ d. d.parts.tally) e

  same_highest : s.highest ≡ t.highest
  unfolding ledger_of
  same_highest = ap (λ d. d.parts.highest) e

-- ---- cells, with the bytes

module _ (b : List ℕ) where
  same_cell : (c d : Cell) → slot_of c ≡ slot_of d → Paged c → Paged d → CellRead b c → CellRead b d → c ≡ d
  same_cell c d e p q x y =
      let n = ap (λ z. z.number) e in
      let w = ap (λ z. z.west) e in
      let a = ap (λ z. z.east) e in
      let u = ap (λ z. z.south) e in
      let o = ap (λ z. z.north) e in
      let l : c.chain ≡ d.chain = sym x.read.chain ∙ ap (λ z. chain_from pages b z.first) e ∙ y.read.chain in
      let m : c.entries ≡ d.entries = x.entries (pages_enough c p) ∙ ap (λ (z : List ℕ). concat (map (λ r. entries (page_at b r)) z)) l ∙ sym (y.entries (pages_enough d q)) in
      λ i. record { number = n i; edges = record { easts = record { low = w i; high = a i }; norths = record { low = u i; high = o i } }; chain = l i; entries = m i }

  same_cells : (cs ds : List Cell) → map slot_of cs ≡ map slot_of ds → Each Paged cs → Each Paged ds → Each (CellRead b) cs → Each (CellRead b) ds → cs ≡ ds
  same_cells [] [] e p q x y = refl
  same_cells [] (d ∷ ds) e p q x y = cc
  same_cells (c ∷ cs) [] e p q x y = cc
  same_cells (c ∷ cs) (d ∷ ds) e p q x y =
      let e₀ : slot_of c ≡ slot_of d = cc in
      let e₁ : map slot_of cs ≡ map slot_of ds = cc in
      ap₂ ◌∷◌ (same_cell c d e₀ p.0 q.0 x.0 y.0) (same_cells cs ds e₁ p.1 q.1 x.1 y.1)

-- ---- one store at most

pub same_store : (s t : Store) (b : List ℕ) → PagesOnce s → PagesOnce t → Each Paged s.cells → Each Paged t.cells → ledger_of s ≡ ledger_of t → Laid s b → Laid t b → s ≡ t
same_store s t b os ot ps pt e ls lt =
    let cu = same_cuts s t e in
    let ce = same_cells b s.cells t.cells (same_slots s t e) ps pt (cells_read s os b ls) (cells_read t ot b lt) in
    let fr = sym (free_read s os b ls).read.chain ∙ ap (chain_from pages b) (same_front s t e) ∙ (free_read t ot b lt).read.chain in
    let wa = same_waiting s t e in
    let me = same_memo s t e in
    let on = same_on s t e in
    let ta = same_tally s t e in
    let hi = same_highest s t e in
    λ i. record { cuts = cu i; cells = ce i; free = fr i; waiting = wa i; memo = me i; on = on i; tally = ta i; highest = hi i }

Paged-cells : (s : Store) → WellFormed s → Each Paged s.cells
Paged-cells s w = Each_map _ Paged s.cells (λ c g. g.paged) w.cells

pub unique : (d : Ledger) (b : List ℕ) (x y : SoundLedger d b) → x.store ≡ y.store
unique d b x y =
    same_store x.store y.store b x.well.once y.well.once (Paged-cells x.store x.well) (Paged-cells y.store y.well)
    (sym x.held ∙ y.held) x.laid y.laid

-- ---- and one set of watches

pub desk_ledger_lem : (x : Watched) → desk_ledger (desk_of x) ≡ ledger_of x.store
unfolding desk_of
desk_ledger_lem x = refl

-- the ledger of a sound desk is sound
abbrev pub Sound_ledger : {d : Desk} {b : List ℕ} → Sound d b → SoundLedger (desk_ledger d) b
Sound_ledger s = record { store = s.watched.store; well = s.well; held = ap desk_ledger s.held ∙ desk_ledger_lem s.watched; laid = s.laid }

pub desk_watches : (x : Watched) → (desk_of x).watches ≡ watches_of (latest_place x.store) x.watches
unfolding desk_of
desk_watches x = refl

pub one_watched : (d : Desk) (b : List ℕ) (x y : Sound d b) → x.watched ≡ y.watched
one_watched d b x y =
    let s = unique (desk_ledger d) b (Sound_ledger x) (Sound_ledger y) in
    let w : x.watched.watches ≡ y.watched.watches
    = sym (watches_read _ x.watched.watches) ∙ ap watches_in (sym (desk_watches x.watched) ∙ ap (λ (e : Desk). e.watches) (sym x.held ∙ y.held) ∙ desk_watches y.watched)
    ∙ watches_read _ y.watched.watches in
    λ i. record { store = s i; watches = w i }
