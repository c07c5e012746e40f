use Rattle.sound_edges.proofs.EdgeLaws.{high_last, high_cut}
use Rattle.sound_edges.proofs.high_edge.Goals as goal

pub returns-then-x-eq-LAST_METRE : goal.returns-then-x-eq-LAST_METRE
returns-then-x-eq-LAST_METRE c = search high_last

pub returns : goal.returns
returns c = search high_cut
