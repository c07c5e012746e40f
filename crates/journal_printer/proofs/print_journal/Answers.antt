use Rattle.std.proofs.Common.{rules, arith}
use Rattle.journal_printer.proofs.PrinterLaws.{going_first, ran_out}
use Rattle.journal_printer.proofs.print_journal.Goals as goal

pub loop-i-init : goal.loop-i-init
loop-i-init g c = record { inside = search rules; going = going_first _ _ c.requires.0 c.requires.1 }

pub returns-in-Some : goal.returns-in-Some
returns-in-Some g c = rw c.in-Some.is at (c.in_ok-ending.ensures.turned _ _ c.loop-i.invariant.going)

pub loop-i-preserved : goal.loop-i-preserved
loop-i-preserved g c = record {
  inside = c.turn.ensures.inside;
  going = rw c.in_default.is at (c.in_ok-ending.ensures.turned _ _ c.loop-i.invariant.going);
}

pub returns : goal.returns
returns g c = ran_out c.loop-i.invariant.going (omega (arith, c.loop-i-test.false, c.loop-i.auto.i-end))
