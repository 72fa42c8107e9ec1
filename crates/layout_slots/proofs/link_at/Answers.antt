-- `layout_slots::link_at` meets its contract.
use Rattle.std.proofs.Common.{ℕ, List, ap, ◌∙◌}
use Rattle.layout.specs.Layout.{read_slot}
use Rattle.layout.specs.Image.{Slot}
use Rattle.layout.specs.Changes.{link_of}
use Rattle.layout.proofs.CodeLaws.{slot-there}
use Rattle.layout_slots.proofs.link_at.Goals as goal

pub returns : goal.returns
returns c = let t = c.args.lent in c.read_link.ensures.fields ∙ ap (λ (s : List ℕ). link_of (read_slot s)) c.array_at.ensures ∙ ap (λ (s : Slot). link_of s) (slot-there t.table.now t.counts.logs t.counts.slots t.counted c.slot_offset.result c.args.s c.slot_offset.ensures c.requires.0 c.requires.1)
