use Rattle.std.proofs.Common.{◌≤◌}
use Rattle.show_sound_pages.proofs.flips.flips_of.Given as goal

abbrev pub invariant-loop-i : goal.invariant-loop-i
invariant-loop-i l = l.taken ≤ l.i
