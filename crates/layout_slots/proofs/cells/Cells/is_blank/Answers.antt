-- `layout_slots::cells::Cells::is_blank` meets its contract.
use Rattle.std.proofs.Common.{◌+◌, ◌-◌, ◌*◌, refl, ◌∙◌}
use Rattle.layout.specs.Layout.{slot_size}
use Rattle.layout.proofs.BlankLaws.{blank-there}
use Rattle.layout_slots.proofs.cells.Cells.is_blank.Goals as goal

pub returns : goal.returns
returns c = let t = c.args.self in c.is_zero.ensures ∙ blank-there t.table.now t.start t.slots c.args.s t.slotted c.requires.0 c.requires.1 (t.start + slot_size * (c.args.s - 1)) refl
