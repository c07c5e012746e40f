use mathlib.Core.Path.{◌≡◌}
use Prim.Native.Nat.{max}
use lib.ListN.{drop}
use Rattle.page_layout.specs.Layout.{top}
use Rattle.page_layout.proofs.top_from.Given as goal

-- The greatest so far and of what is left is the greatest of all.
abbrev pub invariant-loop-byte : goal.invariant-loop-byte
invariant-loop-byte l = max l.most (top (drop l.byte-index l.byte-items)) ≡ top l.byte-items
