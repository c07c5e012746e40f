-- Watched rectangles (02, Job 5): "Let up to 16 be watched under numbers 0 to 15".
use Rattle.std.specs.Prelude.{Bool, false, not, List, ◌≡◌, ℕ, length, get_or, replicate, Option, None, Some}
use Rattle.terms.specs.Terms.{Place}
use Rattle.lists.specs.Bits.{bits}
use Rattle.lists.specs.Tests.{both, Each}
use Rattle.rules.specs.Grid.{Rect, covers, is_reversed}
use Rattle.rules.specs.Store.{Store, fresh}
use Rattle.rules.specs.Carry.{latest}
use Rattle.rules.specs.Plain.{place_of}

-- "up to 16"
abbrev pub max_watches : ℕ
max_watches = 16

-- a watch: its rectangle where it is set
abbrev pub Watch : Type 0
Watch = Option Rect

-- the watch under a number
abbrev pub watch_at : List Watch → ℕ → Watch
watch_at watches w = get_or watches w None

-- a store, and the rectangles that are watched
pub record Watched : Type 0 where
  pub store : Store
  pub watches : List Watch

-- ---- members

-- "Each keeps its members, by place and whatever their age": a radio's latest place lies in the rectangle, by the edges of Job 1
abbrev pub is_in : Rect → Option Place → Bool
is_in rect None = false
is_in rect (Some p) = covers rect p

abbrev pub is_member : Watch → Option Place → Bool
is_member None p = false
is_member (Some rect) p = is_in rect p

-- the latest place of each radio
abbrev pub latest_place : Store → ℕ → Option Place
latest_place s r = place_of (latest s r)

-- "two 16-bit numbers, bit w set exactly if watch w gained, or lost, that radio": from the place that the radio had, and the one that it has
unfoldable pub gained : List Watch → Option Place → Option Place → ℕ
gained watches before after = bits max_watches (λ w. both (not (is_member (watch_at watches w) before)) (is_member (watch_at watches w) after))

abbrev pub lost : List Watch → Option Place → Option Place → ℕ
lost watches before after = gained watches after before

-- ---- "a store where .. a set watch is reversed, is unsound"

abbrev pub NotReversed : Watch → Type 0
NotReversed None = Unit {0}
NotReversed (Some rect) = is_reversed rect ≡ false

pub record RightWatches (watches : List Watch) : Type 0 where
  pub sixteen : length watches ≡ max_watches
  pub none_reversed : Each NotReversed watches

-- "none in a fresh store"
unfoldable pub fresh_watched : Watched
fresh_watched = record { store = fresh; watches = replicate max_watches None }
