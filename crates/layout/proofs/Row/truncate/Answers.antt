-- `layout::Row::truncate` meets its contract.
use Rattle.std.proofs.Common.{refl}
use Rattle.layout.specs.Changes.{truncated_row}
use Rattle.layout.proofs.Row.truncate.Goals as goal

pub returns : goal.returns
unfolding truncated_row
returns c = refl
