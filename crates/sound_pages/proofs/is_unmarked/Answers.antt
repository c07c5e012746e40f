use Rattle.sound_pages.proofs.MarksLaws.{past_pages, in_pages}
use Rattle.sound_pages.proofs.is_unmarked.Goals as goal

pub returns-then-p-lt-PAGES : goal.returns-then-p-lt-PAGES
returns-then-p-lt-PAGES c = search in_pages

pub returns-else-p-lt-PAGES : goal.returns-else-p-lt-PAGES
returns-else-p-lt-PAGES c = past_pages _ _ c.if-p-lt-PAGES.false
