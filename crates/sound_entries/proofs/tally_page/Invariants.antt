use Prim.Native.Nat.{◌≤◌}
use Rattle.page.specs.Page.{entries}
use Rattle.memo_index.specs.Index.{judged}
use Rattle.sound_entries.proofs.WalkLaws.{Tallying}
use Rattle.sound_entries.proofs.tally_page.Given as goal

-- The entries so far are added, and counted where they are stale (`Tallying`).
abbrev pub invariant-loop-i : goal.invariant-loop-i
invariant-loop-i l = (l.sum ≤ l.i) × Tallying (judged l.memo l.lines) l.initial.balance (entries l.page) l.i l.balance l.sum
