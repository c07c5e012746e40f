use Rattle.page_chain.proofs.WalkLaws.{bound_ended, bound_past}
use Rattle.page_chain.proofs.bound_end.Goals as goal

pub returns-then-p-eq-NO_PAGE : goal.returns-then-p-eq-NO_PAGE
returns-then-p-eq-NO_PAGE c = search bound_ended

pub returns-else-p-eq-NO_PAGE : goal.returns-else-p-eq-NO_PAGE
returns-else-p-eq-NO_PAGE c = search bound_past
