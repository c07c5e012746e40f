use Rattle.sound_page.proofs.CodeLaws.{ok_not_page, ok_not_full, ok_not_above, ok_belong}
use Rattle.sound_page.proofs.page_ok.Goals as goal

pub returns-then-not-is_page : goal.returns-then-not-is_page
returns-then-not-is_page c = search ok_not_page

pub returns-then-not-full_or_last : goal.returns-then-not-full_or_last
returns-then-not-full_or_last c = search ok_not_full

pub returns-then-not-starts_above : goal.returns-then-not-starts_above
returns-then-not-starts_above c = search ok_not_above

pub returns : goal.returns
returns c = search ok_belong
