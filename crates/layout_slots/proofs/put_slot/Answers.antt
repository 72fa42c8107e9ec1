-- `layout_slots::put_slot` meets its contract.
use Rattle.std.proofs.Common.{ℕ, ◌+◌, ◌-◌, ◌≡◌, List, length, refl, sym, ap, subst, ◌∙◌, rules}
use borrow.Rule.Slice.PartMut.{put_mid}
use Rattle.layout.specs.Layout.{slot_size, put_slot}
use Rattle.layout.specs.Changes.{slot_said}
use Rattle.layout.specs.Fits.{Counted}
use Rattle.layout.proofs.CodeLaws.{slot-put}
use Rattle.layout.proofs.CountedLaws.{counted-slot}
use Rattle.layout_slots.proofs.put_slot.Goals as goal
use Rattle.layout_slots.proofs.put_slot.Goals.{After-write_slot}

-- the part comes back with the length of a slot
long : (c : goal.After-write_slot) → length c.write_slot.new.part ≡ slot_size
long c = search rules

put : (c : goal.After-write_slot) → put_mid c.slot_offset-at.result (c.slot_offset-at.result + slot_size - c.slot_offset-at.result) c.args.lent.now.table.now c.write_slot.new.part ≡ put_slot c.args.lent.now.table.now c.args.s (slot_said c.args.slot)
put c = let t = c.args.lent.now in slot-put t.table.now t.counts.logs t.counts.slots t.counted c.slot_offset-at.result c.args.s c.write_slot.new.part (slot_said c.args.slot) c.slot_offset-at.ensures (long c) c.write_slot.ensures

pub invariant_of-lent : goal.invariant_of-lent
invariant_of-lent c =
    let t = c.args.lent.now in
    let k = (goal.at.invariant_of-lent c).After-write_slot in
    record { counted = subst (λ (b : List ℕ). Counted b t.counts.logs t.counts.slots) (sym (put k)) (counted-slot t.table.now t.counts.logs t.counts.slots t.counted c.args.s (slot_said c.args.slot) (sym (ap length c.write_slot.ensures) ∙ long k) c.requires.le_s.0 c.requires.le_s.1) }

pub returns : goal.returns
returns c = record { same = refl; counts = refl; bytes = put (goal.at.returns c).After-write_slot }
