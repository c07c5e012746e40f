-- The edges of the cells of a directory in any condition, as far as its count says.
use Rattle.std.specs.Prelude.{List, map}
use Rattle.rules.specs.Grid.{Rect}
use Rattle.desk.specs.declared.Slot.{Slot}
use Rattle.desk.specs.Held.{Directory}
use Rattle.desk.specs.Views.{slots_in, edges_of as rect_of}

abbrev pub rects_of : List Slot → List Rect
rects_of slots = map rect_of slots

abbrev pub rects_in : Directory → List Rect
rects_in d = rects_of (slots_in d)
