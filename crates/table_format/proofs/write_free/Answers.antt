-- `table_format::write_free` meets its contract.
use Rattle.octets.specs.Octets.{zeros}
use Rattle.table_format.proofs.write_free.Goals as goal

pub returns : goal.returns
unfolding zeros
returns c = c.write_slot.ensures
