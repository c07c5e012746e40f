-- Who is on, in the desk, as rows by rising radio (01, "What the desk holds").
use Rattle.std.specs.Prelude.{◌≡◌, ◌≤◌, ◌<◌}
use Rattle.terms.specs.Terms.{max_on}
use Rattle.lists.specs.Rows.{Rising}
use Rattle.desk.specs.Layout.{on_of}
use Rattle.desk.specs.Held.{On}
use Rattle.desk.specs.Views.{radios_of}

-- unused slots are zero
abbrev pub WholeOn : On → Type 0
WholeOn o = o ≡ on_of (radios_of o)

-- who is on as a step of a call finds it: laid out so, by rising radio, and no more than may be on
abbrev pub GoodOn : On → Type 0
GoodOn o = (o.n ≤ max_on) × WholeOn o × Rising 0 (radios_of o)

-- the same, with room for one more
abbrev pub RoomyOn : On → Type 0
RoomyOn o = (o.n < max_on) × WholeOn o × Rising 0 (radios_of o)
