-- A place for each radio (01, "How a record is carried out"): that of its entry that isn't stale, over it a waiting report's, each as far as it lies in the
-- rectangle, and the table by radio that holds them.
use Rattle.std.specs.Prelude.{Bool, cond, List, [], ◌∷◌, ℕ, ◌-◌, ◌≤◌, leb, get_or, Option, None, Some, option_map}
use Rattle.terms.specs.declared.Place.{Place as HeldPlace}
use Rattle.terms.specs.Values.{place_of}
use Rattle.terms.specs.Terms.{Place, Fix, max_radio}
use Rattle.lists.specs.Rows.{Row, Rows, Rising, UpTo}
use Rattle.lists.specs.Tests.{both, Each, either}
use Rattle.page.specs.Buffer.{entries_from}
use Rattle.rules.specs.Limits.{max_cells, full_memory, kept_minutes}
use Rattle.rules.specs.Grid.{Span, within, takes_in, Rect, covers}
use Rattle.rules.specs.Store.{Report, Line}
use Rattle.rules.specs.Sweep.{stale}
use Rattle.rules.specs.Plain.{put_at}
use Rattle.desk.specs.declared.Slot.{Slot}
use Rattle.desk.specs.Held.{Directory, Memo, Waiting}
use Rattle.desk.specs.Layout.{line_slots}
use Rattle.desk.specs.Views.{slots_in, edges_of, rect_of}
use Rattle.memo.specs.Memo.{lines_of}
use Rattle.waiting.specs.Waiting.{reports_of}
use Rattle.range_places.specs.declared.Search.{Search}

-- ---- what a range looks for

-- its rectangle, and the earliest minute that it lists: "exactly 720 stays in"
pub record Sought : Type 0 where
  pub rect : Rect
  pub since : ℕ

abbrev pub sought : Rect → ℕ → Sought
sought rect minute = record { rect = rect; since = minute - kept_minutes }

abbrev pub sought_of : Search → Sought
sought_of q = record { rect = rect_of q.area; since = q.since }

-- the place lies in the rectangle, and the minute is not too early
abbrev pub is_sought : Sought → Fix → Bool
is_sought q f = both (covers q.rect f.place) (leb q.since f.minute)

-- ---- a place for each radio

-- a place for each radio, or none
abbrev pub Places : Type 0
Places = ℕ → Option Place

unfoldable pub no_places : Places
no_places r = None

-- the places in a table by radio
unfoldable pub places_in : List (Option HeldPlace) → Places
places_in table r = option_map place_of (get_or table r None)

-- ---- one over the other

-- one after the other, each over those before it
unfoldable pub over : {A B : Type 0} → (A → B → B) → List A → B → B
over step [] f = f
over step (x ∷ l) f = over step l (step x f)

-- the place of what is looked for; what is not has none
abbrev pub seen : Sought → Option Fix → Option Place
seen q None = None
seen q (Some f) = cond (is_sought q f) (Some f.place) None

-- the radio of a row has the row's place, or none where that is not looked for, whatever it had
abbrev pub row_over : {Val : Type 0} → Sought → (Val → Fix) → Row Val → Places → Places
row_over q fix x f = put_at x.key (seen q (Some (fix x.val))) f

-- an entry's place; a stale entry is passed over
abbrev pub entry_over : (Row Fix → Bool) → Sought → Row Fix → Places → Places
entry_over old q e f = cond (old e) f (row_over q (λ v. v) e f)

unfoldable pub entries_over : (Row Fix → Bool) → Sought → Rows Fix → Places → Places
entries_over old q = over (entry_over old q)

unfoldable pub reports_over : Sought → Rows Report → Places → Places
reports_over q = over (row_over q (λ w. w.fix))

-- a range's edges, and a cell's: the cell begins in the range, or the range, which takes in its own low edge, in the cell
abbrev pub meets : Span → Span → Bool
meets s t = either (takes_in s t.low) (both (within t s.low) (takes_in s s.low))

-- "A cell is touched if some place in it lies in one of the rectangles."
unfoldable pub touches : Rect → Rect → Bool
touches a b = both (meets a.easts b.easts) (meets a.norths b.norths)

-- only the pages of cells that the rectangle touches
unfoldable pub slot_over : (Row Fix → Bool) → List ℕ → Sought → Slot → Places → Places
slot_over old b q s f = cond (touches q.rect (edges_of s)) (entries_over old q (entries_from b s.first) f) f

-- the place of the entry of a radio that isn't stale; over it a waiting report's: "a waiting report's before a stored one's"
unfoldable pub places_of : List ℕ → Sought → List Slot → Rows Line → Rows Report → Places
places_of b q slots memo waiting = reports_over q waiting (over (slot_over (stale memo) b q) slots no_places)

-- ---- what is asked of desk and pages

-- counts within their slots, no radio above the greatest, and the memo's lines by rising radio
pub record Readable (b : List ℕ) (cells : Directory) (waiting : Waiting) (memo : Memo) : Type 0 where
  pub few_cells : cells.n ≤ max_cells
  pub few_waiting : waiting.n ≤ full_memory
  pub few_lines : memo.n ≤ line_slots
  pub entry_radios : Each (λ s. UpTo max_radio (entries_from b s.first)) (slots_in cells)
  pub report_radios : UpTo max_radio (reports_of waiting)
  pub line_radios : UpTo max_radio (lines_of memo)
  pub lines_rise : Rising 0 (lines_of memo)
