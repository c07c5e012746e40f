use Rattle.box_due.proofs.DueLaws.{due_here, due-none, due_most}
use Rattle.box_due.proofs.box_due.Goals as goal

pub returns-then-waits-ge-FULL_BOX : goal.returns-then-waits-ge-FULL_BOX
returns-then-waits-ge-FULL_BOX c = search due_here

pub returns-then-n-lt-FULL_MEMORY : goal.returns-then-n-lt-FULL_MEMORY
returns-then-n-lt-FULL_MEMORY c = search due-none

pub returns : goal.returns
returns c = search due_most
