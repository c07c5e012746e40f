use Rattle.std.proofs.Common.{ap, ◌∙◌, ℕ, Option, length, unwrap_or}
use borrow.Author.Rules.{rules}
use Rattle.std.proofs.lemmas.Iterator.Search.{position_from_yields_List}
use Rattle.std.proofs.lemmas.Iterator.{YieldsList-from_slice}
use Rattle.memo_sweep.proofs.LowerLaws.{first_mark}
use Rattle.memo_sweep.proofs.first_marked.Goals as goal

pub returns : goal.returns
returns c =
    let at = position_from_yields_List (λ b. b) _ _ c.position.result c.position.ensures.ran (YieldsList-from_slice _ c.iter.ensures.rest) (λ x b q k. search rules) in
    first_mark c.args.marks.now (c.unwrap_or.ensures ∙ ap (λ (o : Option ℕ). unwrap_or o (length c.args.marks.now)) at)
