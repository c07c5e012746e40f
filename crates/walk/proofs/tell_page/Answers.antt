use mathlib.Core.List.{List, [], ◌∷◌}
use mathlib.Core.Path.{subst}
use Prim.Native.Nat.{ℕ}
use Rattle.entries.specs.Entries.{row_of}
use borrow.Author.Rules.{rules}
use Rattle.lists.specs.Parts.{tab}
use Rattle.page.specs.Page.{entry_at}
use Rattle.page.proofs.ChainLaws.{there_bounds}
use Rattle.walk.proofs.WalkLaws.{page_radio, page_all, entries_none, entries_next}
use Rattle.walk.proofs.tell_page.Goals as goal

pub page_at-page-requires : goal.page_at-page-requires
page_at-page-requires g c = search there_bounds

pub loop-i-init : goal.loop-i-init
loop-i-init g c = subst (λ l. g.K.Keeper.tells c.args.keeper.now c.args.table.now l c.args.table.now) (entries_none c.page_at-page.result.now) (g.met.K.Keeper.none c.args.keeper.now c.args.table.now)

pub tell-requires : goal.tell-requires
tell-requires g c = search page_radio

pub loop-i-preserved : goal.loop-i-preserved
loop-i-preserved g c =
    let v : List ℕ = c.page_at-page.result.now in
    subst (λ l. g.K.Keeper.tells c.args.keeper.now c.args.table.now l c.tell.new.table) (entries_next v c.loop-i.i c.read_entry.ensures)
    (g.met.K.Keeper.more c.args.keeper.now c.args.table.now c.loop-i.table c.tell.new.table (tab c.loop-i.i (entry_at v)) (row_of c.read_entry.result ∷ []) c.loop-i.invariant c.tell.ensures)

pub returns : goal.returns
returns g c = subst (λ l. g.K.Keeper.tells c.args.keeper.now c.args.table.now l c.loop-i.table) (search (page_all, rules)) c.loop-i.invariant
