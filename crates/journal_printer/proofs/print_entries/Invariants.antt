use Rattle.std.specs.Io.KnownBytes.{Appends}
use Rattle.journal_printer.specs.Printer.{entries_text}
use Rattle.journal_printer.proofs.print_entries.Given as goal

abbrev pub invariant-loop-i : goal.invariant-loop-i
invariant-loop-i g l = Appends (g.W.Write.contents l.fn.out) (g.W.Write.contents l.out) (entries_text l.fn.list l.i)
