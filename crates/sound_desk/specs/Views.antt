-- The cells of a desk in any condition: what a store would have there.
use Rattle.std.specs.Prelude.{[], ◌∷◌}
use Rattle.rules.specs.Store.{Cell}
use Rattle.desk.specs.declared.Slot.{Slot}
use Rattle.desk.specs.Views.{edges_of as rect_of}

-- a cell of the directory, with its first page alone
abbrev pub cell_of : Slot → Cell
cell_of s = record { number = s.number; edges = rect_of s; chain = s.first ∷ []; entries = [] }
