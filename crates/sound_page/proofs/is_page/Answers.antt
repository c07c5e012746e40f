use Rattle.sound_page.proofs.CodeLaws.{page_not_laid, page_other_kind, page_cell}
use Rattle.sound_page.proofs.is_page.Goals as goal

pub returns-then-not-laid_out : goal.returns-then-not-laid_out
returns-then-not-laid_out c = search page_not_laid

pub returns-then-h-kind : goal.returns-then-h-kind
returns-then-h-kind c = search page_other_kind

pub returns : goal.returns
returns c = search page_cell
