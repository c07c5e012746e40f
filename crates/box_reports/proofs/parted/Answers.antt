use borrow.Author.Rules.{rules}
use Rattle.box_reports.proofs.PartingLaws.{gone_laid, left_laid}
use mathlib.Core.Path.{refl}
use Rattle.box_reports.proofs.parted.Goals as goal

pub returns : goal.returns
returns c = let p = c.requires in
    let a = c.moved_apart-gone.ensures in
    (gone_laid p.1 p.0 _ _ a.0 refl (search rules), left_laid p.1 p.0 _ _ a.0 c.blanked.ensures (search rules) (search rules), search rules, search rules)
