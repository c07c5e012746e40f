-- Sound pages: the entries read from the directory's chains are those of the cells, with radios that the tables have, and no more than the pages hold.
use mathlib.Core.Path.{◌≡◌, refl, sym, ap, ap₂, ◌∙◌}
use mathlib.Core.Bool.{true}
use mathlib.Core.List.{List, [], ◌∷◌, map}
use Rattle.std.specs.Prelude.{Option, None, Some}
use Prim.Native.Nat.{ℕ, ◌≤◌}
use native.Mathlib.Omega.{arith}
use Rattle.terms.specs.Terms.{max_radio, no_page}
use Rattle.lists.specs.Chains.{chain_head}
use Rattle.lists.specs.Rows.{Rows, Rising, UpTo, find, count_found}
use Rattle.lists.specs.Sums.{sum_by, concat}
use Rattle.lists.specs.Tests.{Each}
use Rattle.lists.proofs.SumsLaws.{sum-map, length-sum}
use Rattle.lists.proofs.TestsLaws.{Each_map, Each_zip, Each-concat-map}
use Rattle.rules.specs.Limits.{max_cells}
use Rattle.rules.specs.Store.{Store}
use Rattle.desk.specs.Held.{Directory}
use Rattle.desk.specs.Layout.{slot_of}
use Rattle.desk.specs.Views.{slots_in}
use Rattle.desk.proofs.ReadLaws.{CellRead, Paged, cells_read, pages_enough}
use Rattle.sound_clauses.specs.Loops.{passing}
use Rattle.sound_clauses.specs.Cells.{rows_of}
use Rattle.sound_clauses.proofs.LoopsLaws.{passing_found, passing-concat}
use Rattle.page.specs.Buffer.{entries_on, entries_from}
use Rattle.sound_pages.specs.PagesSound.{CellSound, PagesSound}
use Rattle.sound_pages.proofs.StoreLaws.{store_once, store_Laid}
use Rattle.lists.proofs.MapLaws.{map-map}
use Rattle.sound_entries.specs.Entries.{rows_read}
use Rattle.sound_radios.specs.Entries.{keyed}

map-Each : {A B : Type 0} (f g : A → B) (l : List A) → Each (λ x. f x ≡ g x) l → map f l ≡ map g l
map-Each f g [] e = refl
map-Each f g (x ∷ l) e = ap₂ ◌∷◌ e.0 (map-Each f g l e.1)

sum-le-Each : {A : Type 0} (f g : A → ℕ) (l : List A) → Each (λ x. f x ≤ g x) l → sum_by f l ≤ sum_by g l
unfolding sum_by
sum-le-Each f g [] e = omega arith
sum-le-Each f g (x ∷ l) e = omega (arith, e.0, sum-le-Each f g l e.1)

pub one_row : {Val : Type 0} (q : ℕ) (l : Rows Val) → Rising 0 l → keyed q l ≤ 1
one_row {Val} q l r = rw (passing_found (λ _. true) 0 q l r) (few (find l q))
  where
    few : (o : Option Val) → count_found (λ _ _. 1) q o ≤ 1
    few None = omega arith
    few (Some v) = omega arith

module _ {highest : ℕ} {b : List ℕ} {d : Directory} {free : ℕ} (x : PagesSound highest b d free) where
  -- a store of these cells and this free chain alone
  abbrev bare : Store
  bare = record { cuts = record { easts = []; norths = [] }; cells = x.cells; free = x.free_chain; waiting = []; memo = []; on = []; tally = 0; highest = highest }

  paged : Each Paged x.cells
  paged = Each_map (CellSound highest) Paged x.cells (λ c g. g.paged) x.good

  entries_read : Each (λ c. entries_from b (chain_head no_page c.chain) ≡ c.entries) x.cells
  unfolding entries_from entries_on
  entries_read =
      Each_zip (CellRead b) Paged (λ c. entries_from b (chain_head no_page c.chain) ≡ c.entries) x.cells
      (λ c r p. ap (entries_on b) r.read.chain ∙ sym (r.entries (pages_enough c p)))
      (cells_read bare (store_once x bare refl refl) b (store_Laid x bare refl refl)) paged

  pub rows_read_lem : rows_read b d ≡ rows_of x.cells
  unfolding rows_read slots_in
  rows_read_lem =
      ap (map (λ s. entries_from b s.first)) x.shown
      ∙ map-map (λ s. entries_from b s.first) slot_of x.cells
      ∙ map-Each (λ c. entries_from b (chain_head no_page c.chain)) (λ c. c.entries) x.cells entries_read

  pub radios_read : UpTo max_radio (concat (rows_read b d))
  radios_read = rw rows_read_lem (Each-concat-map (λ e. e.key ≤ max_radio) (λ c. c.entries) x.cells (Each_map (CellSound highest) (λ c. UpTo max_radio c.entries) x.cells (λ c g. g.radios) x.good))

  -- one a radio in each cell
  pub once_read : d.n ≤ max_cells → (q : ℕ) → keyed q (concat (rows_read b d)) ≤ max_cells
  once_read h q =
      rw rows_read_lem
      (omega (
        arith,
        passing-concat (λ _. true) q (rows_of x.cells),
        sum-map (passing (λ _. true) q) (λ c. c.entries) x.cells,
        sum-le-Each (λ c. passing (λ _. true) q c.entries) (λ _. 1) x.cells (Each_map (CellSound highest) (λ c. passing (λ _. true) q c.entries ≤ 1) x.cells (λ c g. one_row q c.entries g.rising) x.good),
        length-sum x.cells,
        x.number,
      ))
