use Rattle.terms.specs.Values.{place_of}
use Rattle.flush.proofs.AfterLaws.{due_asks, after_nothing, flush_asks, after_flush}
use Rattle.flush.proofs.after_report.Goals as goal

pub box_due-requires : goal.box_due-requires
box_due-requires c = search due_asks

pub returns-in_default-clause-laid : goal.returns-in_default-clause-laid
returns-in_default-clause-laid c = λ x. search (after_nothing x)

pub flush-requires : goal.flush-requires
flush-requires c = flush_asks c.requires (place_of c.args.place) c.box_due.ensures _ c.in-Some.is

pub returns-clause-laid : goal.returns-clause-laid
returns-clause-laid c = λ x. after_flush x (place_of c.args.place) c.box_due.ensures _ c.in-Some.is c.flush.ensures.laid
