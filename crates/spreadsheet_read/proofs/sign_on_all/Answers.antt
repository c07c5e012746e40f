use native.Mathlib.Omega.{arith}
use Rattle.spreadsheet_read.proofs.SigningLaws.{Signing_start, Signing_turn, Signing_end}
use Rattle.spreadsheet_read.proofs.sign_on_all.Goals as goal

pub loop-i-init : goal.loop-i-init
loop-i-init c = Signing_start _ _ _ c.requires

pub sign_on-requires : goal.sign_on-requires
sign_on-requires c = c.loop-i.invariant.sound

pub loop-i-preserved : goal.loop-i-preserved
loop-i-preserved c = Signing_turn c.loop-i.invariant (omega (arith, c.len-i-end.ensures.count)) _ _ c.at.ensures.line c.at.ensures.range c.sign_on.ensures

pub returns : goal.returns
returns c = Signing_end c.loop-i.invariant (omega (arith, c.len-i-end.ensures.count))
