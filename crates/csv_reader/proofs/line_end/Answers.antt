use native.Mathlib.Omega.{arith}
use Rattle.csv_reader.proofs.EndLaws.{line_file, line_there}
use Rattle.csv_reader.proofs.line_end.Goals as goal

pub returns-then-at-file : goal.returns-then-at-file
returns-then-at-file c = search line_file

pub returns : goal.returns
returns c = line_there _ _ (omega arith) c.bytes_end.ensures
