use Rattle.terms.specs.Terms.{pages}
use Rattle.page.specs.Buffer.{chain_from}
use Rattle.settle.proofs.LoopLaws.{Growing}
use Rattle.settle.proofs.grow.Given as goal

-- The pages so far, followed by what is left of the free chain, are chain and free chain together.
abbrev pub invariant-loop-n : goal.invariant-loop-n
invariant-loop-n l = Growing l.buffer l.initial.pages (chain_from pages l.buffer l.free) l.fn.chain.n l.need l.pages l.front l.n
