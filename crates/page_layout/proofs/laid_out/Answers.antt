use Rattle.page_layout.proofs.TestLaws.{laid_size, laid_used, laid_kind, laid_unused, laid_rest}
use Rattle.page_layout.proofs.laid_out.Goals as goal

pub returns-then-page-ne-PAGE_BYTES : goal.returns-then-page-ne-PAGE_BYTES
returns-then-page-ne-PAGE_BYTES c = search laid_size

pub returns-then-h-end : goal.returns-then-h-end
returns-then-h-end c = search laid_used

pub returns-then-not-kind_fits : goal.returns-then-not-kind_fits
returns-then-not-kind_fits c = search laid_kind

pub returns-then-top_from-ne0 : goal.returns-then-top_from-ne0
returns-then-top_from-ne0 c = search laid_unused

pub returns : goal.returns
returns c = search laid_rest
