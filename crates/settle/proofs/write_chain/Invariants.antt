use mathlib.Core.Path.{◌≡◌}
use lib.ListN.{length}
use Rattle.entries.specs.Entries.{rows_of}
use Rattle.page.specs.Buffer.{buffer_bytes}
use Rattle.settle.proofs.LoopLaws.{Writing}
use Rattle.settle.proofs.write_chain.Given as goal

-- From page k on the pages hold their rows, and `next` is the first of them.
abbrev pub invariant-loop-k : goal.invariant-loop-k
invariant-loop-k l = (length l.buffer ≡ buffer_bytes) × Writing l.initial.buffer l.onto l.need l.cell (rows_of l.entries) l.buffer l.next l.k
