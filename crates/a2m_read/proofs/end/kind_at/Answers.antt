-- `a2m_read::end::kind_at` meets its contract. Assumes nothing.
use Rattle.a2m.proofs.ReadLaws.{kind-none, kind-some}
use Rattle.a2m_read.proofs.end.kind_at.Goals as goal

pub returns-in-None : goal.returns-in-None
returns-in-None c = kind-none c.args.last c.in-None.is

pub returns-in-Some : goal.returns-in-Some
returns-in-Some c = kind-some c.args.last c.in-Some.is c.requires
