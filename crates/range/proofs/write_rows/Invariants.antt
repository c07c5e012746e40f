use mathlib.Core.Path.{◌≡◌}
use lib.ListN.{length}
use Rattle.range.proofs.ListLaws.{Writing}
use Rattle.range.proofs.write_rows.Given as goal

-- The rows of the radios passed stand at the buffer's start.
abbrev pub invariant-loop-i : goal.invariant-loop-i
invariant-loop-i l = (length l.buffer ≡ length l.initial.buffer) × Writing l.table l.found l.n l.initial.buffer l.i l.buffer
