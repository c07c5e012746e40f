use Prim.Native.Nat.{◌+◌, ◌-◌, ◌*◌, ◌≤◌}
use Rattle.terms.specs.Terms.{pages as sheets, page_entries}
use Rattle.memo_index.specs.Index.{judged}
use Rattle.sound_entries.proofs.WalkLaws.{Chaining}
use Rattle.sound_entries.proofs.tally_chain.Given as goal

-- The entries read, with those of the rest of the chain, are the whole (`Chaining`).
abbrev pub invariant-loop-met : goal.invariant-loop-met
invariant-loop-met l = (l.sum + page_entries * (sheets - l._met) ≤ page_entries * sheets) × Chaining (judged l.memo l.lines) l.pages l.first l.initial.balance l.balance l.sum l.p l._met
