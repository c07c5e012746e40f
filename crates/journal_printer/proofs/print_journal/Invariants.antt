use Rattle.journal_input.specs.Input.{at_hand, InWindow}
use Rattle.journal_printer.specs.Printer.{Going}
use Rattle.journal_printer.proofs.print_journal.Given as goal

abbrev pub invariant-loop-i : goal.invariant-loop-i
invariant-loop-i g l = record {
  inside : InWindow l.hand l.window;
  going : Going l.i (g.R.Read.remaining l.fn.reader) (g.R.Read.remaining l.reader) (g.W.Write.contents l.fn.out) (g.W.Write.contents l.out)
      l.desk l.pages (at_hand l.window l.hand);
}
