-- A file's lines gathered (02, Job 6): "Lines are taken by rising minute, then radio, then line.", and no more than 513 can be.
use Rattle.std.specs.Prelude.{List, [], ℕ, take}
use Rattle.csv_grammar.specs.Csv.{Listed, File, lines, bad, file_read}
use Rattle.csv_grammar.specs.Order.{sort_all}
use Rattle.csv_order.specs.Table.{table_lines}

-- the lines that may be taken, or the number of the first bad one
pub data Taken : Type 0 where
  least : List Listed → Taken
  wrong : ℕ → Taken

-- a file's lines among those that are there
abbrev pub gather_among : List Listed → File → Taken
gather_among there (lines ls) = least (take table_lines (sort_all ls there))
gather_among there (bad n) = wrong n

unfoldable pub gather : File → Taken
gather = gather_among []

unfoldable pub gather_file : List ℕ → Taken
gather_file file = gather (file_read file)
