use Rattle.page_layout.proofs.TestLaws.{on_start, climb_empty, climb_turn, climb_low, climb_high, climb_end}
use Rattle.page_layout.proofs.radios_rise.Goals as goal

pub returns-then-n-eq0 : goal.returns-then-n-eq0
returns-then-n-eq0 c = search climb_empty

pub loop-i-init : goal.loop-i-init
loop-i-init c = on_start _ _

pub returns-then-radio-last : goal.returns-then-radio-last
returns-then-radio-last c = search climb_low

pub loop-i-preserved : goal.loop-i-preserved
loop-i-preserved c = search climb_turn

pub returns-then-last-gt-MAX_RADIO : goal.returns-then-last-gt-MAX_RADIO
returns-then-last-gt-MAX_RADIO c = search climb_high

pub returns-else-last-gt-MAX_RADIO : goal.returns-else-last-gt-MAX_RADIO
returns-else-last-gt-MAX_RADIO c = search climb_end
