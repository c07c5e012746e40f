use Rattle.page_layout.proofs.TestLaws.{no_kind_fits, that_kind_fits}
use Rattle.page_layout.proofs.kind_fits.Goals as goal

pub returns-in-Some-Free : goal.returns-in-Some-Free
returns-in-Some-Free c = that_kind_fits _ _ c.numbered.ensures c.in-Some-Free.is c.in-Some-Free.field-0-is

pub returns-in-Some-First : goal.returns-in-Some-First
returns-in-Some-First c = that_kind_fits _ _ c.numbered.ensures c.in-Some-First.is c.in-Some-First.field-0-is

pub returns-in-Some-Further : goal.returns-in-Some-Further
returns-in-Some-Further c = that_kind_fits _ _ c.numbered.ensures c.in-Some-Further.is c.in-Some-Further.field-0-is

pub returns-in-None : goal.returns-in-None
returns-in-None c = no_kind_fits _ _ c.numbered.ensures c.in-None.is
