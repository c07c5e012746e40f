use Rattle.fresh.proofs.BeginLaws.{freed_start, freed_turn, freed_end}
use native.Mathlib.Omega.{arith}
use borrow.Author.Rules.{rules}
use Rattle.fresh.proofs.free_pages.Goals as goal

pub loop-p-init : goal.loop-p-init
loop-p-init c = (search rules, search freed_start)

pub loop-p-preserved : goal.loop-p-preserved
loop-p-preserved c = (search rules, search freed_turn)

pub returns : goal.returns
returns c = freed_end _ c.loop-p.invariant.1 (omega arith) (c.loop-p.auto.p-end (omega arith))
