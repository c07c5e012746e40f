use Rattle.std.proofs.Common.{add-one}
use Rattle.journal_printer.proofs.PrinterLaws.{appends_then}
use Rattle.journal_printer.proofs.print_entries.Goals as goal

pub loop-i-preserved : goal.loop-i-preserved
loop-i-preserved g c = rw add-one (appends_then _ _ _ _ _ c.loop-i.invariant c.in_ok-print_entry.ensures)
