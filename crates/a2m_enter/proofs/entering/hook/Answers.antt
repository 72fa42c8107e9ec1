-- `a2m_enter::entering::hook` meets its contract. Assumes nothing.
use Rattle.a2m.proofs.EnterLaws.{hooks, no_hook}
use mathlib.Core.Path.{refl}
use Rattle.a2m_enter.proofs.entering.hook.Goals as goal

pub returns-then-last-ne0 : goal.returns-then-last-ne0
returns-then-last-ne0 c = let e = c.put_next.ensures in record { same = e.same; counts = e.counts; bytes = hooks c.args.lent.now.table.now c.put_next.new.lent.table.now c.args.last c.args.t c.if-last-ne0.true e.bytes }

pub returns-else-last-ne0 : goal.returns-else-last-ne0
returns-else-last-ne0 c = record { same = refl; counts = refl; bytes = no_hook c.args.lent.now.table.now c.args.last c.args.t c.if-last-ne0.false }
