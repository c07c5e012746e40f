-- The numbers of 01 and 02 that bound the store and time its work.
use Rattle.std.specs.Prelude.{ℕ}

-- "A place is east and north, each 0 to 65,535 metres."
abbrev pub last_metre : ℕ
last_metre = 65535

-- "at most 64 cells, at most 15 east cuts and 15 north cuts"
abbrev pub max_cells : ℕ
max_cells = 64

abbrev pub max_cuts : ℕ
max_cuts = 15

-- "if the memory cell of that place has 8 waiting, flush it"
abbrev pub full_box : ℕ
full_box = 8

-- "If 128 still wait in all"
abbrev pub full_memory : ℕ
full_memory = 128

-- "At 16, sweep the cell at the front of the round"
abbrev pub sweep_every : ℕ
sweep_every = 16

-- "more than 720 before the range's own"
abbrev pub kept_minutes : ℕ
kept_minutes = 720

-- "the two have at most 24 entries together"
abbrev pub join_entries : ℕ
join_entries = 24
