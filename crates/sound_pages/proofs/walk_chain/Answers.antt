use mathlib.Core.Path.{refl}
use Rattle.sound_pages.specs.Walks.{slot_test}
use borrow.Author.Rules.{rules}
use Rattle.sound_pages.proofs.WalkLaws.{unmarked_below, unmarked_room, chain_tired, chain_met, chain_wrong, chain_ends, chain_goes_on}
use Rattle.sound_pages.proofs.walk_chain.Goals as goal

pub loop-met-init : goal.loop-met-init
unfolding slot_test
loop-met-init c = refl

pub returns-then-not-is_unmarked : goal.returns-then-not-is_unmarked
returns-then-not-is_unmarked c = search chain_met

pub page_at-page-requires : goal.page_at-page-requires
page_at-page-requires c = (search unmarked_below, search unmarked_room)

pub returns-then-not-page_ok : goal.returns-then-not-page_ok
returns-then-not-page_ok c = search chain_wrong

pub bounds-marks-p : goal.bounds-marks-p
bounds-marks-p c = search (unmarked_below, rules)

pub returns-then-p : goal.returns-then-p
returns-then-p c = search chain_ends

pub loop-met-preserved : goal.loop-met-preserved
loop-met-preserved c = search chain_goes_on

pub returns : goal.returns
returns c = search chain_tired
