-- `table_format::fill_slots` meets its contract.
use Rattle.table.proofs.FillLaws.{slots-begin, slots-on, slots-end}
use Rattle.table_format.proofs.fill_slots.Goals as goal

pub loop-i-init : goal.loop-i-init
loop-i-init c = slots-begin c.args.slots c.args.part.now c.requires.part_len

pub loop-i-preserved : goal.loop-i-preserved
loop-i-preserved c = slots-on c.loop-i.invariant c.write_free.new.part c.queued_next-next.result c.loop-i-test.true c.queued_next-next.ensures.0 c.write_free.ensures

pub returns : goal.returns
returns c = slots-end c.loop-i.invariant c.loop-i-test.false
