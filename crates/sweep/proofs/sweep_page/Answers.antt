use mathlib.Core.Path.{◌∙◌}
use borrow.Author.Rules.{rules}
use Rattle.page.proofs.ChainLaws.{there_bounds}
use Rattle.sweep.proofs.SweepLaws.{page_start, page_ahead, stay_room, page_stays, page_goes, page_end}
use Rattle.sweep.proofs.sweep_page.Goals.{then-not-stale, else-not-stale}
use Rattle.sweep.proofs.sweep_page.Goals as goal

pub page_at-page-requires : goal.page_at-page-requires
page_at-page-requires c = search there_bounds

pub loop-i-init : goal.loop-i-init
loop-i-init c = page_start _ _ _

pub rank_from-at-requires : goal.rank_from-at-requires
rank_from-at-requires c = (search rules, page_ahead _ _ _ c.requires.2 c.page_at-page.ensures.0 c.entry_count-i-end.ensures.0 c.loop-i.invariant c.loop-i-test.true c.read_entry-entry.ensures)

pub push-requires : goal.push-requires
push-requires c = stay_room _ _ _ c.requires.2 c.page_at-page.ensures.0 c.entry_count-i-end.ensures.0 c.loop-i.invariant c.loop-i-test.true c.read_entry-entry.ensures c.is_stale-stale.ensures (search rules)

pub loop-i-preserved : goal.loop-i-preserved
loop-i-preserved c = elim c.if-not-stale.branch [
  | then-not-stale w ↦ page_stays _ _ _ c.requires.2 c.page_at-page.ensures.0 c.entry_count-i-end.ensures.0 c.loop-i.invariant c.loop-i-test.true c.read_entry-entry.ensures c.is_stale-stale.ensures
      w.if-not-stale.true c.rank_from-at.ensures.0 (w.table-is ∙ w.push.ensures)
  | else-not-stale w ↦ rw w.table-is (page_goes _ _ _ c.requires.2 c.page_at-page.ensures.0 c.entry_count-i-end.ensures.0 c.loop-i.invariant c.loop-i-test.true c.read_entry-entry.ensures c.is_stale-stale.ensures
      c.rank_from-at.ensures.0 w.if-not-stale.false)
]

pub returns : goal.returns
returns c = page_end _ _ _ c.requires.2 c.page_at-page.ensures.0 c.entry_count-i-end.ensures.0 c.loop-i.invariant c.loop-i.auto.i-end c.loop-i-test.false
