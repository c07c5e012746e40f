-- Watched rectangles (02, Job 5), over desk and page bytes and every list of calls.
use Rattle.std.specs.Prelude.{Bool, false, not, List, ◌≢◌, ◌≡◌, ℕ, ◌≤◌, ◌<◌, get_or}
use Rattle.terms.specs.Terms.{max_radio}
use Rattle.lists.specs.Bits.{bit}
use Rattle.lists.specs.Tests.{both}
use Rattle.rules.specs.Plain.{Plain, place_of, plain_step}
use Rattle.rules.specs.Records.{radio_field}
use Rattle.rules.specs.Watches.{max_watches, Watch, watch_at, is_member}
use Rattle.rules.specs.Calls.{Call, hands, sets, clears, writes}
use Rattle.desk.specs.declared.Watch.{Watch as DeskWatch}
use Rattle.desk.specs.declared.Desk.{Desk}
use Rattle.desk.specs.Layout.{no_watch}
use Rattle.desk.specs.Views.{watch_in, member_in}
use Rattle.demands.specs.Trace.{Trace, desk_cuts, EveryState, Step, EveryCall}

-- a watch as the desk has it
abbrev pub watch_part : Desk → ℕ → DeskWatch
watch_part d w = get_or d.watches w no_watch

-- ---- the members

-- what the desk holds of each watch, beside the plain rule and the watches that the calls have set
pub record Watching (d : Desk) (b : List ℕ) (x : Plain) (l : List Watch) : Type 0 where
  -- its rectangle is the one that was set last, or none
  pub watch : (w : ℕ) → w < max_watches → watch_in (watch_part d w) ≡ watch_at l w
  -- its members are the radios on whose latest place lies in it, by the plain rule
  pub members : (w r : ℕ) → w < max_watches → r ≤ max_radio → member_in (watch_part d w) r ≡ is_member (watch_at l w) (place_of (x.latest r))

-- ---- gained and lost

-- whether the record's radio was a member of a watch, and whether it is one now, by the plain rule before the record and after it
abbrev pub was_member : Step → List ℕ → ℕ → Bool
was_member c bytes w = is_member (watch_at c.watches w) (place_of (c.plain.latest (radio_field bytes)))

abbrev pub now_member : Step → List ℕ → ℕ → Bool
now_member c bytes w = is_member (watch_at c.watches w) (place_of ((plain_step (desk_cuts c.desk) bytes c.plain).latest (radio_field bytes)))

-- a record
pub record Moves (c : Step) (bytes : List ℕ) : Type 0 where
  -- "bit w set exactly if watch w gained, or lost, that radio"
  pub gains : (w : ℕ) → w < max_watches → bit c.after.gained w ≡ both (not (was_member c bytes w)) (now_member c bytes w)
  pub losses : (w : ℕ) → w < max_watches → bit c.after.lost w ≡ both (not (now_member c bytes w)) (was_member c bytes w)
  -- "watches whose list didn't change keep every byte"
  pub others : (w : ℕ) → w < max_watches → bit c.after.gained w ≡ false → bit c.after.lost w ≡ false → watch_part c.after.desk w ≡ watch_part c.desk w

-- a watch that is set or cleared: "are 0 where nothing else is said", and every other watch keeps its bytes
pub record Changes (c : Step) (w : ℕ) : Type 0 where
  pub none_gained : c.after.gained ≡ 0
  pub none_lost : c.after.lost ≡ 0
  pub others : (v : ℕ) → v < max_watches → v ≢ w → watch_part c.after.desk v ≡ watch_part c.desk v

-- a file that is written
pub record Stays (c : Step) : Type 0 where
  pub none_gained : c.after.gained ≡ 0
  pub none_lost : c.after.lost ≡ 0
  pub all : c.after.desk ≡ c.desk

abbrev pub MovedBy : Step → Call → Type 0
MovedBy c (hands bytes) = Moves c bytes
MovedBy c (sets w rect) = Changes c w
MovedBy c (clears w) = Changes c w
MovedBy c writes = Stays c

-- ---- the claim about the whole list

pub record WatchedList {d : Desk} {b : List ℕ} {x : Plain} (t : Trace d b x) : Type 0 where
  pub states : EveryState Watching t
  pub calls : EveryCall (λ c. MovedBy c c.call) t

abbrev pub WatchedAlways : Type 0
WatchedAlways = (d : Desk) (b : List ℕ) (x : Plain) (t : Trace d b x) → WatchedList t
