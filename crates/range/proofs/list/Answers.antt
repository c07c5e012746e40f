use mathlib.Core.Path.{refl}
use borrow.Author.Rules.{rules}
use Rattle.range.proofs.ListLaws.{empty_table, found_radios, short_answer, listed_answer}
use Rattle.desk.specs.Held.{desk_ledger, ledger_grid, ledger_waiting, ledger_memo}
use Rattle.memo_index.specs.Index.{table_size}
use Rattle.range.proofs.list.Goals as goal

pub hold_all-requires : goal.hold_all-requires
hold_all-requires c = (empty_table table_size, c.requires.0)

pub returns-then-buffer-n-clause-told : goal.returns-then-buffer-n-clause-told
returns-then-buffer-n-clause-told c =
    short_answer c.args.pages.now _ (ledger_grid (desk_ledger c.args.desk.now)).cells (ledger_waiting (desk_ledger c.args.desk.now)) (ledger_memo (desk_ledger c.args.desk.now)) c.args.desk.now.on c.found_on-n.new.found c.args.desk.now.parts.on _ c.hold_all.new.table c.of-search.ensures c.hold_all.ensures c.found_on-n.ensures.0 c.args.buffer.now c.found_on-n.ensures.1 c.found_on-n.ensures.2 c.counted.ensures c.number.ensures (search rules)

pub write_rows-requires : goal.write_rows-requires
write_rows-requires c = (search rules, c.found_on-n.ensures.2, found_radios _ _ _ _ _ c.found_on-n.ensures.0 c.requires.2, search rules)

pub returns-clause-told : goal.returns-clause-told
returns-clause-told c =
    listed_answer c.args.pages.now _ (ledger_grid (desk_ledger c.args.desk.now)).cells (ledger_waiting (desk_ledger c.args.desk.now)) (ledger_memo (desk_ledger c.args.desk.now)) c.args.desk.now.on c.found_on-n.new.found c.args.desk.now.parts.on _ c.hold_all.new.table c.of-search.ensures c.hold_all.ensures c.found_on-n.ensures.0 c.args.buffer.now c.found_on-n.ensures.1 c.found_on-n.ensures.2 c.counted-2.ensures refl (search rules) c.write_rows.ensures
