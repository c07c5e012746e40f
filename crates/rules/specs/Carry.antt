-- How a record is carried out (01, the heading of that name), and what is answered (01, "Turned down, in checking order").
use Rattle.std.specs.Prelude.{Bool, true, false, not, cond, List, [], ◌∷◌, ◌++◌, ℕ, ◌+◌, ◌*◌, eqb, leb, ltb, length, Option, None, Some}
use Rattle.terms.specs.Terms.{Place, Fix, field_bytes}
use Rattle.lists.specs.Parts.{put}
use Rattle.lists.specs.Rows.{Rows, find, alter, insert, passed}
use Rattle.lists.specs.Sums.{sum_by, keep}
use Rattle.lists.specs.Tests.{one_if, both, is_some, or_else, best}
use Rattle.lists.specs.Words.{le}
use Rattle.rules.specs.Limits.{full_box, full_memory, kept_minutes}
use Rattle.rules.specs.Grid.{Rect, covers, Cuts, Box, box_of, boxes}
use Rattle.rules.specs.Store.{Report, Line, Cell, Store, with_waiting, with_memo, with_on, with_highest}
use Rattle.rules.specs.Sweep.{stale, tick}
use Rattle.rules.specs.Flush.{raised, in_box, flush}
use Rattle.rules.specs.Records.{Request, sign_on, report, sign_off, range, request_of, refusal}

-- ---- who is on

unfoldable pub is_on : Store → ℕ → Bool
is_on s r = is_some (find s.on r)

unfoldable pub on_count : Store → ℕ
on_count s = length s.on

-- ---- the record's own effect

abbrev pub was_new : Option Report → Bool
was_new None = false
was_new (Some w) = w.new

-- "Sign-on puts a report marked new among the waiting."
unfoldable pub signed_on : ℕ → Fix → Store → Store
signed_on r f s = with_waiting (insert r (record { fix = f; new = true }) s.waiting) (with_on (insert r tt s.on) s)

-- "Report replaces a waiting report of that radio, keeping its mark new; otherwise it waits unmarked."
unfoldable pub reported : ℕ → Fix → Store → Store
reported r f s = with_waiting (alter (λ w. Some (record { fix = f; new = was_new w })) r s.waiting) s

-- "Sign-off discards a waiting report. If the discarded one was not marked new, or none waited, the memo's missed count for the radio grows by 1 (made as
-- 1 if absent) and its place becomes none."
unfoldable pub signed_off : ℕ → Store → Store
signed_off r s =
    with_waiting (alter (λ _. None) r s.waiting)
    (with_memo (cond (was_new (find s.waiting r)) s.memo (alter (raised None) r s.memo))
    (with_on (alter (λ _. None) r s.on) s))

-- ---- "After sign-on or report"

-- "the memory cell with most waiting; ties go to the southern, then the western"
abbrev pub most_of : (Box → ℕ) → List Box → Option Box
most_of how_many [] = None
most_of how_many (m ∷ ms) = Some (best (λ y x. ltb (how_many x) (how_many y)) m ms)

abbrev box_if : Bool → Box → Option Box
box_if true m = Some m
box_if false m = None

-- "if the memory cell of that place has 8 waiting, flush it. If 128 still wait in all, flush the memory cell with most waiting": the memory cell to flush,
-- from how many wait in each and in all. It serves the desk and the plain rule.
unfoldable pub box_to_flush : Cuts → (Box → ℕ) → ℕ → Place → Option Box
box_to_flush cuts how_many in_all p =
    or_else (box_if (leb full_box (how_many (box_of cuts p))) (box_of cuts p))
    (cond (leb full_memory in_all) (most_of how_many (boxes cuts)) None)

-- how many wait in a memory cell
unfoldable pub waiting_in : Cuts → Rows Report → Box → ℕ
waiting_in cuts waiting m = sum_by (λ w. one_if (in_box cuts m w)) waiting

unfoldable pub flush_due : Store → Place → Option Box
flush_due s p = box_to_flush s.cuts (waiting_in s.cuts s.waiting) (length s.waiting) p

abbrev flush_if : Option Box → Store → Store
flush_if None s = s
flush_if (Some m) s = flush m s

unfoldable pub after_report : Place → Store → Store
after_report p s = flush_if (flush_due s p) s

-- ---- range

-- the entry of a radio in a cell that isn't stale
unfoldable pub live_in : Rows Line → ℕ → Cell → Option Fix
live_in memo r c = passed (λ e. not (stale memo e)) r (find c.entries r)

unfoldable pub stored_in : Rows Line → ℕ → List Cell → Option Fix
stored_in memo r [] = None
stored_in memo r (c ∷ cs) = or_else (live_in memo r c) (stored_in memo r cs)

abbrev pub fix_of : Option Report → Option Fix
fix_of None = None
fix_of (Some w) = Some w.fix

-- "latest place, a waiting report's before a stored one's"
unfoldable pub latest : Store → ℕ → Option Fix
latest s r = or_else (fix_of (find s.waiting r)) (stored_in s.memo r s.cells)

-- "A range leaves out a radio whose minute is more than 720 before the range's own; exactly 720 stays in."
abbrev pub too_old : ℕ → Fix → Bool
too_old minute f = ltb (f.minute + kept_minutes) minute

-- whether a range lists a radio by what its latest report told: by the edges of Job 1 and the age of Job 3
abbrev pub listed : Rect → ℕ → Fix → Bool
listed rect minute f = both (covers rect f.place) (not (too_old minute f))

abbrev pub list_if : Rect → ℕ → ℕ → Option Fix → Rows Place → Rows Place
list_if rect minute r None l = l
list_if rect minute r (Some f) l = keep (listed rect minute f) (record { key = r; val = f.place }) l

-- "the radios on whose latest place .. lies in the rectangle, by rising number"
unfoldable pub list_of : Rect → ℕ → (ℕ → Option Fix) → Rows (Unit {0}) → Rows Place
list_of rect minute latest_of [] = []
list_of rect minute latest_of (x ∷ xs) = list_if rect minute x.key (latest_of x.key) (list_of rect minute latest_of xs)

unfoldable pub found : Store → Rect → ℕ → Rows Place
found s rect minute = list_of rect minute (latest s) s.on

-- "6 × n bytes (radio, east, north)"
abbrev pub list_bytes : ℕ
list_bytes = 6

unfoldable pub bytes_of : Rows Place → List ℕ
bytes_of [] = []
bytes_of (x ∷ xs) = le field_bytes x.key ++ (le field_bytes x.val.east ++ (le field_bytes x.val.north ++ bytes_of xs))

-- ---- the whole

-- "The answer carries the number and 0; number 11 carries n. .. An accepted record carries number 0 and, for a range, n, else 0."
pub record Outcome : Type 0 where
  pub number : ℕ
  pub count : ℕ
  pub buffer : List ℕ
  pub store : Store

-- 11: "The answer buffer has fewer than 6 × n bytes for n radios found."; "An accepted range writes 6 × n bytes .. at the buffer's start and nothing else."
unfoldable pub answered : Rows Place → Store → List ℕ → Outcome
answered l s buffer =
    cond (ltb (length buffer) (list_bytes * length l))
    (record { number = 11; count = length l; buffer = buffer; store = s })
    (record { number = 0; count = length l; buffer = put buffer 0 (bytes_of l); store = s })

abbrev accepted : Store → List ℕ → Outcome
accepted s buffer = record { number = 0; count = 0; buffer = buffer; store = s }

-- "The store remembers the highest minute of an accepted sign-on, report or sign-off": the record's own, for none below the highest is accepted. A range is
-- tested by it and does not move it
unfoldable pub carried_out : Request → Store → List ℕ → Outcome
carried_out (sign_on r f) s buffer = accepted (tick (after_report f.place (signed_on r f (with_highest f.minute s)))) buffer
carried_out (report r f) s buffer = accepted (tick (after_report f.place (reported r f (with_highest f.minute s)))) buffer
carried_out (sign_off r minute) s buffer = accepted (tick (signed_off r (with_highest minute s))) buffer
carried_out (range rect minute) s buffer = answered (found s rect minute) s buffer

-- from a sound store, a record's bytes and an answer buffer
unfoldable pub carry : Store → List ℕ → List ℕ → Outcome
carry s bytes buffer =
    cond (eqb (refusal s.highest (is_on s) (on_count s) bytes) 0)
    (carried_out (request_of bytes) s buffer)
    (record { number = refusal s.highest (is_on s) (on_count s) bytes; count = 0; buffer = buffer; store = s })
