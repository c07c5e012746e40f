use borrow.Author.Rules.{rules}
use Rattle.std.proofs.lemmas.List.Sorted.{answers_always}
use Rattle.lists.proofs.KeyedLaws.{searched}
use Rattle.desk.specs.declared.Line.{Line}
use Rattle.desk.specs.Layout.{no_line}
use Rattle.memo.specs.Memo.{row_of}
use Rattle.memo.proofs.lookup.Goals as goal

pub returns : goal.returns
returns c =
    let facts = c.binary_search_by_key.ensures in
    let by_radio = facts.position (λ (x : Line). x.radio) (answers_always _ _ _ (λ f a r g called. search rules)) in
    let s = searched row_of no_line c.args.lines.now c.requires c.args.radio _ facts.bound by_radio in
    record { held = s.found; missing = s.absent }
