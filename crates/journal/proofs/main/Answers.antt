use Rattle.std.proofs.Common.{rules}
use Rattle.journal_printer.proofs.PrinterLaws.{begun_fresh}
use Rattle.journal.proofs.main.Goals as goal

pub print_journal-ran-requires : goal.print_journal-ran-requires
print_journal-ran-requires c =
    let f = begun_fresh c.begin.ensures (search rules) in
    (f.0, f.1, search rules, search rules)
