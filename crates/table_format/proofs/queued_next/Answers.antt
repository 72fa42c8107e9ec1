-- `table_format::queued_next` meets its contract.
use native.Mathlib.Omega.{arith}
use Rattle.table.proofs.FillLaws.{next_queued, none_queued}
use Rattle.table_format.proofs.queued_next.Goals as goal

pub returns-then-s-slots : goal.returns-then-s-slots
returns-then-s-slots c = (next_queued c.args.slots c.args.s c.if-s-slots.true, omega arith)

pub returns-else-s-slots : goal.returns-else-s-slots
returns-else-s-slots c = (none_queued c.args.slots c.args.s c.if-s-slots.false, omega arith)
