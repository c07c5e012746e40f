-- Changes of watches (02, Job 5).
use Rattle.std.specs.Prelude.{Bool, List, [], ◌∷◌, ◌≡◌, ℕ, ◌+◌, ◌*◌, ◌/◌, ◌%◌, get_or, set, Option}
use Rattle.terms.specs.Terms.{Place}
use Rattle.lists.specs.Bits.{bits, bit}
use Rattle.rules.specs.Grid.{Rect}
use Rattle.rules.specs.Plain.{put_at}
use Rattle.rules.specs.Watches.{Watch, gained, lost}
use Rattle.desk.specs.declared.Watch.{Watch as DeskWatch}
use Rattle.desk.specs.Layout.{watches_of}
use Rattle.watches.specs.declared.Moved.{Moved}

-- a watch that is set, with this rectangle; its members stay
abbrev pub with_area : Rect → DeskWatch → DeskWatch
with_area r v = record v { set = 1; west = r.easts.low; east = r.easts.high; south = r.norths.low; north = r.norths.high }

-- the bit of a radio in a watch set or not, all others as they were
unfoldable pub with_member : ℕ → Bool → DeskWatch → DeskWatch
with_member r member v = record v { members = set v.members (r / 16) (bits 16 (put_at (r % 16) member (bit (get_or v.members (r / 16) 0)))) }

-- a radio's latest place has become `after`: its bits follow, and the two numbers tell which
pub record AfterUpdate (places : ℕ → Option Place) (l : List Watch) (r : ℕ) (after : Option Place) (vs : List DeskWatch) (m : Moved) : Type 0 where
  pub words : vs ≡ watches_of (put_at r after places) l
  pub gains : m.gained ≡ gained l (places r) after
  pub losses : m.lost ≡ lost l (places r) after
