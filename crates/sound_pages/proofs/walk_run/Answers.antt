use borrow.Author.Rules.{rules}
use Rattle.sound_pages.proofs.WalkLaws.{unmarked_below, unmarked_room, unmarked_following, free_met, free_wrong, free_goes_on, free_runs_on}
use Rattle.sound_pages.proofs.walk_run.Goals as goal

pub returns-then-not-is_unmarked : goal.returns-then-not-is_unmarked
returns-then-not-is_unmarked c = (search free_met, search rules)

pub page_at-page-requires : goal.page_at-page-requires
page_at-page-requires c = (search unmarked_below, search unmarked_room)

pub returns-then-not-is_free : goal.returns-then-not-is_free
returns-then-not-is_free c = (search free_wrong, search rules)

pub bounds-marks-p : goal.bounds-marks-p
bounds-marks-p c = search (unmarked_below, rules)

pub overflow_add-p : goal.overflow_add-p
overflow_add-p c =
    let below = unmarked_below _ _ c.is_unmarked.ensures c.if-not-is_unmarked.false in
    search rules

pub returns-then-next-p : goal.returns-then-next-p
returns-then-next-p c = (search free_goes_on, search rules)

pub loop-left-preserved : goal.loop-left-preserved
loop-left-preserved c = (search unmarked_following, search free_runs_on)
