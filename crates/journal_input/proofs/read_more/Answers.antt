use Rattle.std.proofs.Common.{arith}
use Rattle.journal_input.proofs.Bringing.{brings_read}
use Rattle.journal_input.proofs.read_more.Goals as goal

pub returns-clause-ok : goal.returns-clause-ok
returns-clause-ok g c =
    brings_read _ _ c.args.end c.args.window.now c.read.new.buf c.read.result (omega arith) c.read.ensures.bound c.read.ensures.bytes
