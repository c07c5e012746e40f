-- The test as the program runs it: chains followed by next page, with a mark on each page met.
use Rattle.std.specs.Prelude.{Bool, true, false, not, cond, List, [], ◌∷◌, ℕ, zero, suc, eqb, leb, ltb, length, get_or, set, take, replicate, Option, None, Some}
use Rattle.terms.specs.Terms.{pages, no_page, no_cell}
use Rattle.lists.specs.Tests.{both, all}
use Rattle.page.specs.Page.{kind_free, kind_first, kind_further, next, entries}
use Rattle.page.specs.Buffer.{buffer_bytes, page_at}
use Rattle.rules.specs.Limits.{max_cells}
use Rattle.desk.specs.declared.Slot.{Slot}
use Rattle.desk.specs.Held.{Directory}
use Rattle.sound_page.specs.PageTest.{is_page, last_radio, page_ok}

-- ---- marks

unfoldable pub no_marks : List Bool
no_marks = replicate pages false

-- one of the 128 pages, and not met before
unfoldable pub unmarked : List Bool → ℕ → Bool
unmarked m p = both (ltb p pages) (not (get_or m p false))

-- ---- the walks

-- what a walk found, and the pages marked
pub record Walk : Type 0 where
  pub ok : Bool
  pub marks : List Bool

abbrev pub passed : List Bool → Walk
passed m = record { ok = true; marks = m }

abbrev pub failed : List Bool → Walk
failed m = record { ok = false; marks = m }

-- a cell's chain from page p on
unfoldable pub chain_test : ℕ → ℕ → List ℕ → Slot → List Bool → ℕ → ℕ → ℕ → Walk
chain_test highest zero b s m k low p = failed m
chain_test highest (suc fuel) b s m k low p =
    cond (unmarked m p)
    (cond (page_ok highest s k low (page_at b p))
    (cond (eqb (next (page_at b p)) no_page) (passed (set m p true))
    (chain_test highest fuel b s (set m p true) kind_further (last_radio low (entries (page_at b p))) (next (page_at b p))))
    (failed m))
    (failed m)

-- the chain of a slot
unfoldable pub slot_test : ℕ → List ℕ → List Bool → Slot → Walk
slot_test highest b m s = chain_test highest pages b s m kind_first 0 s.first

-- the chains of the slots, one after the other
unfoldable pub slots_test : ℕ → List ℕ → List Bool → List Slot → Walk
slots_test highest b m [] = passed m
slots_test highest b m (s ∷ ss) =
    cond (slot_test highest b m s).ok (slots_test highest b (slot_test highest b m s).marks ss) (failed (slot_test highest b m s).marks)

-- the free chain from page p on
unfoldable pub free_test : ℕ → List ℕ → List Bool → ℕ → Walk
free_test zero b m p = record { ok = eqb p no_page; marks = m }
free_test (suc fuel) b m p =
    cond (eqb p no_page) (passed m)
    (cond (unmarked m p)
    (cond (is_page kind_free no_cell (page_at b p)) (free_test fuel b (set m p true) (next (page_at b p))) (failed m))
    (failed m))

-- what is still to be tested after a run of the free chain, which ends at a page or fails, and how many pages the walk may still meet
abbrev pub after_run : List ℕ → List Bool → Option (ℕ × ℕ) → Walk
after_run b m (Some (p, fuel)) = free_test fuel b m p
after_run b m None = failed m

abbrev pub left_by : Option (ℕ × ℕ) → ℕ
left_by (Some (p, fuel)) = fuel
left_by None = 0

-- the free chain from its front
unfoldable pub front_test : List ℕ → List Bool → ℕ → Walk
front_test b m front = free_test pages b m front

-- the free chain and "each page is in one chain", after the walk over the directory
unfoldable pub rest_test : List ℕ → ℕ → Walk → Bool
rest_test b free w = both w.ok (both (front_test b w.marks free).ok (all (λ x. x) (front_test b w.marks free).marks))

unfoldable pub pages_test : ℕ → List ℕ → Directory → ℕ → Bool
pages_test highest b d free =
    both (eqb (length b) buffer_bytes) (both (leb d.n max_cells) (rest_test b free (slots_test highest b no_marks (take d.n d.slots))))
