use Rattle.sound_directory.proofs.DirectoryLaws.{mark_start, mark_beyond, mark_twice, mark_turn, mark_end}
use Rattle.sound_directory.proofs.names_sound.Goals as goal

pub loop-cell-init : goal.loop-cell-init
loop-cell-init c = search mark_start

pub returns-then-k-ge-MAX_CELLS : goal.returns-then-k-ge-MAX_CELLS
returns-then-k-ge-MAX_CELLS c = search mark_beyond

pub returns-then-marks-k : goal.returns-then-marks-k
returns-then-marks-k c = search mark_twice

pub loop-cell-preserved : goal.loop-cell-preserved
loop-cell-preserved c = search mark_turn

pub returns : goal.returns
returns c = search mark_end
