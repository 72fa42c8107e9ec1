use Rattle.table.proofs.FillLaws.{SlotsFilled}
use Rattle.table_format.proofs.fill_slots.Given as goal

abbrev pub invariant-loop-i : goal.invariant-loop-i
invariant-loop-i l = SlotsFilled l.slots l.initial.part l.part l.i
