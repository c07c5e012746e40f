use mathlib.Core.Path.{refl}
use Rattle.sound_entries.proofs.WalkLaws.{Chaining_start, page_asks, Chaining_gone, Chaining_radios, Chaining_turn, Chaining_out}
use borrow.Author.Rules.{rules}
use Rattle.lists.proofs.SlotsLaws.{passed_true}
use Rattle.sound_entries.proofs.tally_chain.Goals as goal

pub loop-met-init : goal.loop-met-init
loop-met-init c = (search rules, search Chaining_start)

pub returns-then-not-is_there : goal.returns-then-not-is_there
returns-then-not-is_there c = Chaining_gone c.loop-met.invariant.1 c.is_there.ensures c.if-not-is_there.true

pub page_at-page-requires : goal.page_at-page-requires
page_at-page-requires c = page_asks _ _ refl c.is_there.ensures c.if-not-is_there.false

pub tally_page-sum-requires : goal.tally_page-sum-requires
tally_page-sum-requires c = (search rules, search rules, search Chaining_radios)

pub next_page-p-requires : goal.next_page-p-requires
next_page-p-requires c = passed_true c.is_there.ensures c.if-not-is_there.false

pub loop-met-preserved : goal.loop-met-preserved
loop-met-preserved c = (search rules, search Chaining_turn)

pub returns : goal.returns
returns c = Chaining_out c.loop-met.invariant.1 c.loop-met-test.false
