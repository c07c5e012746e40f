use Rattle.csv_reader.proofs.EndLaws.{got_none, got_inside, got_byte, byte_past, byte_other, byte_there}
use Rattle.csv_reader.proofs.byte_end.Goals as goal

pub returns-in_err-get : goal.returns-in_err-get
returns-in_err-get c = rw c.from_residual.ensures (byte_past _ _ _ (got_none _ _ c.in_err-get.ensures.lookup.0))

pub returns-then-branch-byte : goal.returns-then-branch-byte
returns-then-branch-byte c = let l = c.in_ok-get.ensures.lookup in byte_other _ _ _ (got_inside _ _ l.0) (rw (got_byte _ _ l.0 l.1) at c.if-branch-byte.true)

pub returns : goal.returns
returns c = let l = c.in_ok-get.ensures.lookup in byte_there _ _ _ (got_inside _ _ l.0) (rw (got_byte _ _ l.0 l.1) at c.if-branch-byte.false)
