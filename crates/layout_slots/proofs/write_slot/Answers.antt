-- `layout_slots::write_slot` meets its contract.
use Rattle.layout.proofs.CodeLaws.{slot-fields}
use Rattle.layout_slots.proofs.write_slot.Goals as goal

pub returns : goal.returns
returns c = let x = c.args.slot in
    slot-fields c.args.part.now x.owner x.next x.position x.value.now x.digest.now c.put_array.ensures.array c.put_array-2.ensures.array c.requires.part_len
    c.put_number.ensures c.put_number-2.ensures c.put_number-3.ensures c.put_number-4.ensures c.put_array.ensures.put c.put_array-2.ensures.put
