-- `layout_slots::read_link` meets its contract.
use Rattle.layout.specs.Layout.{read_slot}
use Rattle.layout_slots.proofs.read_link.Goals as goal

pub returns : goal.returns
unfolding read_slot
returns c = record { fields = λ i. record { owner = c.number_at.ensures.0 i; next = c.number_at-2.ensures.0 i; position = c.number_at-3.ensures.0 i }; byte = c.number_at.ensures.1 }
