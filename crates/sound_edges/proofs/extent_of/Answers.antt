use borrow.Author.Rules.{rules}
use Rattle.sound_edges.proofs.EdgeLaws.{span-low, span-high, span_back, span_whole}
use Rattle.sound_edges.proofs.extent_of.Goals as goal

pub returns-in_err-first : goal.returns-in_err-first
returns-in_err-first c = search (span-low, rules)

pub returns-in_err-last : goal.returns-in_err-last
returns-in_err-last c = search (span-high, rules)

pub returns-then-high-low : goal.returns-then-high-low
returns-then-high-low c = search span_back

pub returns : goal.returns
returns c = search (span_whole, rules)
