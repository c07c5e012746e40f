use mathlib.Core.Path.{◌≡◌}
use lib.ListN.{length}
use Rattle.page.specs.Buffer.{buffer_bytes}
use Rattle.fresh.proofs.BeginLaws.{freed}
use Rattle.fresh.proofs.free_pages.Given as goal

abbrev pub invariant-loop-p : goal.invariant-loop-p
invariant-loop-p l = (length l.pages ≡ buffer_bytes) × (l.pages ≡ freed l.initial.pages l.p)
