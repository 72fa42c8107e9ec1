-- `layout_slots::value_at` meets its contract.
use Rattle.std.proofs.Common.{◌∙◌}
use Rattle.layout.proofs.CodeLaws.{value_there}
use Rattle.layout_slots.proofs.value_at.Goals as goal

pub returns : goal.returns
returns c = let t = c.args.lent in c.array_at.ensures ∙ value_there t.table.now t.counts.logs t.counts.slots t.counted c.slot_offset.result c.args.s c.slot_offset.ensures c.requires.0 c.requires.1
