use native.Mathlib.Omega.{arith}
use Rattle.desk.specs.Held.{desk_ledger}
use Rattle.latest_fixes.proofs.OnLaws.{few_on}
use Rattle.spreadsheet_write.proofs.WriteLaws.{everyone-Wrote}
use Rattle.spreadsheet_write.proofs.write_sound.Goals as goal

pub shared_ref_as_front-write_rows : goal.shared_ref_as_front-write_rows
shared_ref_as_front-write_rows c = omega (arith, few_on (desk_ledger c.args.desk.now) c.args.pages.now c.requires)

pub returns : goal.returns
returns c = λ s.
    everyone-Wrote s.store c.args.desk.now.parts.on c.args.desk.now.on _ c.args.buffer.now (omega (arith, few_on (desk_ledger c.args.desk.now) c.args.pages.now c.requires))
    (c.fixes_on.ensures s) c.write_rows.ensures
