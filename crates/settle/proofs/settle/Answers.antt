use mathlib.Core.Path.{◌≡◌, sym, ap, ◌∙◌}
use lib.ListN.{length, length-map}
use borrow.Author.Rules.{rules}
use Rattle.entries.specs.Entries.{row_of, rows_of}
use Rattle.rules.specs.Store.{pages_for}
use Rattle.settle.proofs.PartsLaws.{settle_few, settled_Below, settle_bytes, settle_ends}
use Rattle.settle.proofs.settle.Goals as goal

pub grow-grown-requires : goal.grow-grown-requires
grow-grown-requires c =
    let asked : c.pages_for-need.result ≡ pages_for (length (rows_of c.args.entries.now)) = c.pages_for-need.ensures ∙ ap pages_for (sym (length-map c.args.entries.now row_of)) in
    let f = settle_few (rows_of c.args.entries.now) _ c.requires.1 asked c.requires.5 in
    (search rules, f.0, search rules, f.1)

pub write_chain-requires : goal.write_chain-requires
write_chain-requires c = (
  search rules,
  settled_Below _ _ _ _ c.requires.3 c.requires.4 c.grow-grown.ensures.0,
  search rules,
  c.pages_for-need.ensures ∙ ap pages_for (sym (length-map c.args.entries.now row_of)),
)

pub returns : goal.returns
returns c =
    let asked : c.pages_for-need.result ≡ pages_for (length (rows_of c.args.entries.now)) = c.pages_for-need.ensures ∙ ap pages_for (sym (length-map c.args.entries.now row_of)) in
    (search settle_bytes, search (settle_ends, rules))
