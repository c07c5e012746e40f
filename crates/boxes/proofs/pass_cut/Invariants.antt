use Rattle.boxes.specs.Boxes.{Passing}
use Rattle.boxes.proofs.pass_cut.Given as goal

-- The first i stripes are those by one cut more (`Passing`).
abbrev pub invariant-loop-i : goal.invariant-loop-i
invariant-loop-i l = Passing l.cut l.waiting l.column l.initial.stripes l.i l.stripes
