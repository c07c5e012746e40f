use Rattle.sound_pages.proofs.WalkLaws.{slots_end, slots_fail, slots_turn}
use Rattle.sound_pages.proofs.walk_slots.Goals as goal

pub returns-then-not-walk_chain : goal.returns-then-not-walk_chain
returns-then-not-walk_chain c = search slots_fail

pub loop-slot-preserved : goal.loop-slot-preserved
loop-slot-preserved c = search slots_turn

pub returns : goal.returns
returns c = search slots_end
