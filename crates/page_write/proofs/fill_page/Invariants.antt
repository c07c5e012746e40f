use Rattle.page_write.proofs.WriteLaws.{Writing}
use Rattle.page_write.proofs.fill_page.Given as goal

-- Behind the header stand the bytes of the entries passed; header, entries and zeros side by side are the whole page.
abbrev pub invariant-loop-i : goal.invariant-loop-i
invariant-loop-i l = Writing l.entries l.initial.page l.i l.page
