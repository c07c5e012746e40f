use Rattle.csv_gather.proofs.GatherLaws.{no_header, start_within, start_late, header_lines}
use Rattle.csv_gather.proofs.gather.Goals as goal

pub gather_lines-requires : goal.gather_lines-requires
gather_lines-requires c = (start_late _ c.in-Some.ensures, start_within _ c.in-Some.ensures)

pub returns-in_default-clause-err : goal.returns-in_default-clause-err
returns-in_default-clause-err c = no_header _ c.in_default.ensures

pub returns-clause-ok : goal.returns-clause-ok
returns-clause-ok c = rw (header_lines _ c.in-Some.ensures) c.gather_lines.ensures.ok

pub returns-clause-err : goal.returns-clause-err
returns-clause-err c = rw (header_lines _ c.in-Some.ensures) c.gather_lines.ensures.err
