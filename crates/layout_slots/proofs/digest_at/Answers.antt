-- `layout_slots::digest_at` meets its contract.
use Rattle.std.proofs.Common.{◌∙◌}
use Rattle.layout.proofs.CodeLaws.{digest-there}
use Rattle.layout_slots.proofs.digest_at.Goals as goal

pub returns : goal.returns
returns c = let t = c.args.lent in c.array_at.ensures ∙ digest-there t.table.now t.counts.logs t.counts.slots t.counted c.slot_offset.result c.args.s c.slot_offset.ensures c.requires.0 c.requires.1
