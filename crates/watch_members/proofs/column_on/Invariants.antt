use Rattle.std.proofs.Common.{◌≡◌, length, get_or}
use Rattle.terms.specs.Terms.{max_on}
use Rattle.watch_members.specs.Members.{Numbers}
use Rattle.watch_members.proofs.column_on.Given as goal

-- The first i radios have their number of the column.
abbrev pub invariant-loop-i : goal.invariant-loop-i
invariant-loop-i l = (length l.dense ≡ max_on) × Numbers (λ j. get_or l.column (get_or l.radios j 0) 0) l.i l.dense
