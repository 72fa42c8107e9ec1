-- `a2m_enter::entering::last_after` meets its contract. Assumes nothing.
use Rattle.a2m.proofs.EnterLaws.{none_left, some_left}
use Rattle.a2m_enter.proofs.entering.last_after.Goals as goal

pub returns-then-n-eq0 : goal.returns-then-n-eq0
returns-then-n-eq0 c = none_left c.args.n c.args.last c.if-n-eq0.true

pub returns-else-n-eq0 : goal.returns-else-n-eq0
returns-else-n-eq0 c = some_left c.args.n c.args.last c.if-n-eq0.false
