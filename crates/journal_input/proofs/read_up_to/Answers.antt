use Rattle.std.proofs.Common.{rules}
use Rattle.journal_input.proofs.Bringing.{brings_then}
use Rattle.journal_input.proofs.read_up_to.Goals as goal

pub returns-in_err-n-clause-brings : goal.returns-in_err-n-clause-brings
returns-in_err-n-clause-brings g c = search (rules, brings_then)
