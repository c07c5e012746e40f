use Rattle.directory.proofs.NumberLaws.{Used_start, Used_turn, Used_found, Used_end}
use Rattle.directory.proofs.unused_number.Goals as goal

pub loop-k-init : goal.loop-k-init
loop-k-init c = search Used_start

pub returns-then-not-taken : goal.returns-then-not-taken
returns-then-not-taken c = search Used_found

pub loop-k-preserved : goal.loop-k-preserved
loop-k-preserved c = search Used_turn

pub returns : goal.returns
returns c = search Used_end
