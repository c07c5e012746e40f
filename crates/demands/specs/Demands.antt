-- Demands 2 and 3, over desk and page bytes (01, "The plain rule": "Demand 3 is a single claim about the whole list").
use Rattle.std.specs.Prelude.{Bool, true, not, cond, List, [], ◌∷◌, ◌++◌, map, ◌≡◌, ℕ, suc, ◌+◌, ◌≤◌, eqb, ltb, take, Option, None, Some}
use Rattle.terms.specs.Terms.{Fix, fix_at, max_radio, pages, no_page}
use Rattle.lists.specs.Chains.{walk}
use Rattle.lists.specs.Rows.{Row}
use Rattle.lists.specs.Sums.{sum_by, sum_to, concat, count}
use Rattle.lists.specs.Tests.{one_if, both, either}
use Rattle.lists.specs.Words.{wide}
use Rattle.csv_grammar.specs.Csv.{file_of}
use Rattle.page.specs.Page.{next, entries}
use Rattle.page.specs.Buffer.{page_at}
use Rattle.rules.specs.Records.{kind_field, kind_sign_on, kind_report}
use Rattle.rules.specs.Sweep.{is_at}
use Rattle.rules.specs.Plain.{Plain, plain_refusal}
use Rattle.rules.specs.Told.{Told, told, told_file}
use Rattle.rules.specs.Everyone.{plain_everyone}
use Rattle.rules.specs.Watches.{Watch}
use Rattle.rules.specs.Calls.{Call, hands, sets, clears, writes, set_refusal, clear_refusal}
use Rattle.desk.specs.declared.Desk.{Desk}
use Rattle.desk.specs.declared.Line.{Line}
use Rattle.desk.specs.declared.Report.{Report}
use Rattle.desk.specs.Views.{every_report}
use Rattle.demands.specs.Trace.{Trace, EveryState, Step, EveryCall}

-- ---- Demand 2

-- what is answered: to a record what the plain rule says; to a watch that is set or cleared its number, which the watches that are set decide; the file of all
-- radios on, by the plain rule
abbrev pub told_call : Plain → List Watch → Call → List ℕ → Told
told_call x l (hands bytes) room = told x bytes room
told_call x l (sets w rect) room = record { number = set_refusal w rect; count = 0; buffer = room }
told_call x l (clears w) room = record { number = clear_refusal w l; count = 0; buffer = room }
told_call x l writes room = told_file (file_of (plain_everyone x)) room

-- each call is answered so: number, count and answer buffer
pub record AsTold (c : Step) : Type 0 where
  pub number : c.after.number ≡ (told_call c.plain c.watches c.call c.buffer).number
  pub count : c.after.count ≡ (told_call c.plain c.watches c.call c.buffer).count
  pub buffer : c.after.buffer ≡ (told_call c.plain c.watches c.call c.buffer).buffer

-- "After any run of calls from a fresh store, a rectangle's list is exactly the radios on whose latest accepted place lies in it, once each, by rising
-- number; sign-on, report and sign-off are accepted as the plain rule says."
abbrev pub Demand2 : Type 0
Demand2 = (d : Desk) (b : List ℕ) (x : Plain) (t : Trace d b x) → EveryCall AsTold t

-- ---- Demand 3

-- "A chain runs from a cell's first page in the directory, or from the front of the free chain, by next page to 65,535." One page more than there are
-- would show a chain that does not end.
unfoldable pub chain_at : List ℕ → ℕ → List ℕ
chain_at b p = walk no_page (λ q. next (page_at b q)) (suc pages) p

unfoldable pub all_chains : Desk → List ℕ → List ℕ
all_chains d b =
    concat (map (λ c. chain_at b c.first) (take d.parts.frame.cells d.cells)) ++ chain_at b d.parts.frame.free

-- "a stored entry is stale unless its place is the last place flushed for its radio, by the plain rule .., and the radio has not signed off since"
unfoldable pub stale_entry : Plain → ℕ → Row Fix → Bool
stale_entry x r e = both (eqb r e.key) (not (is_at (x.flushed r) e.val.place))

-- "Stale entries of each radio .. are counted over all 128 pages"
unfoldable pub stale_entries : Plain → List ℕ → ℕ → ℕ
stale_entries x b r = sum_to pages (λ p. sum_by (λ e. one_if (stale_entry x r e)) (entries (page_at b p)))

-- "without a memo line the missed count is 0"
unfoldable pub missed_in : List Line → ℕ → ℕ
missed_in [] r = 0
missed_in (l ∷ ls) r = cond (eqb r l.radio) l.missed (missed_in ls r)

unfoldable pub missed_count : Desk → ℕ → ℕ
missed_count d r = missed_in (take d.parts.lines d.memo) r

-- how many memo lines a radio has
unfoldable pub memo_lines : Desk → ℕ → ℕ
memo_lines d r = sum_by (λ l. one_if (eqb r l.radio)) (take d.parts.lines d.memo)

-- "A radio number is 1 to 4,095."
unfoldable pub is_radio : ℕ → Bool
is_radio r = both (ltb 0 r) (ltb r (suc max_radio))

-- what the report of a radio that waits in the desk told
unfoldable pub waiting_fix : List Report → ℕ → Option Fix
waiting_fix [] r = None
waiting_fix (w ∷ ws) r = cond (eqb r w.radio) (Some (fix_at w.east w.north (wide w.low w.high))) (waiting_fix ws r)

abbrev pub fix_if : Bool → Option Fix → Option Fix
fix_if b o = cond b o None

-- "16 × 63 + 15 + 127 = 1,150 bounds stale and waiting together"
abbrev pub stale_bound : ℕ
stale_bound = 1150

-- what holds of desk and pages
pub record Kept (d : Desk) (b : List ℕ) (x : Plain) : Type 0 where
  -- "each radio's stale entries on the pages are its missed count"
  pub missed : (r : ℕ) → 1 ≤ r → r ≤ max_radio → stale_entries x b r ≡ missed_count d r
  -- a radio has one memo line at most, and what is no radio has none: each line is the one that the missed count is read from
  pub one_line : (r : ℕ) → memo_lines d r ≤ one_if (is_radio r)
  -- "stale and waiting together are at most 1,150"
  pub bounded : sum_to (suc max_radio) (stale_entries x b) + d.parts.waiting ≤ stale_bound
  -- "each of the 128 pages stands once in one chain"
  pub once : (p : ℕ) → count p (all_chains d b) ≡ one_if (ltb p pages)
  -- "the reports waiting in the desk are exactly its waiting radios with their latest places"
  pub waiting : (r : ℕ) → waiting_fix (take d.parts.waiting (every_report d.waiting)) r ≡ fix_if (x.waits r) (x.latest r)
  -- "exactly": as many reports as there are radios that wait, so none of a radio twice
  pub exactly : d.parts.waiting ≡ sum_to (suc max_radio) (λ r. one_if (x.waits r))

-- "A sign-on or report is turned down for lack of space if the desk turns it down where the plain rule carries it out."
abbrev pub HadSpace : Plain → Call → ℕ → Type 0
HadSpace x (hands bytes) number = either (eqb (kind_field bytes) kind_sign_on) (eqb (kind_field bytes) kind_report) ≡ true → plain_refusal x bytes ≡ 0 → number ≡ 0
HadSpace x (sets w rect) number = Unit {0}
HadSpace x (clears w) number = Unit {0}
HadSpace x writes number = Unit {0}

-- what holds of each call
pub record NotRefused (c : Step) : Type 0 where
  -- "To find the store unsound is to answer number 2."
  pub found_sound : c.after.number ≡ 2 → ⊥
  pub had_space : HadSpace c.plain c.call c.after.number

pub record WholeList {d : Desk} {b : List ℕ} {x : Plain} (t : Trace d b x) : Type 0 where
  pub states : EveryState (λ d b x l. Kept d b x) t
  pub calls : EveryCall NotRefused t

abbrev pub Demand3 : Type 0
Demand3 = (d : Desk) (b : List ℕ) (x : Plain) (t : Trace d b x) → WholeList t
