use Rattle.page_chain.proofs.WalkLaws.{Walking}
use Rattle.page_chain.proofs.read_chain.Given as goal

-- The pages read, followed by what the chain still says from p on, are the whole chain, and its end is the rest's.
abbrev pub invariant-loop-n : goal.invariant-loop-n
invariant-loop-n l = Walking l.buffer l.first l.pages l.p l.n
