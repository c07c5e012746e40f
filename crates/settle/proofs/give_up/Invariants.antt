use mathlib.Core.Path.{◌≡◌}
use lib.ListN.{length}
use Rattle.page.specs.Buffer.{buffer_bytes}
use Rattle.settle.proofs.LoopLaws.{Giving}
use Rattle.settle.proofs.give_up.Given as goal

-- From page i on the pages are free, and `front` is the first of them.
abbrev pub invariant-loop-i : goal.invariant-loop-i
invariant-loop-i l = (length l.buffer ≡ buffer_bytes) × Giving l.initial.buffer l.chain.pages l.chain.n l.free l.need l.buffer l.front l.i
