-- `layout::Row::append` meets its contract.
use Rattle.layout.specs.Changes.{appended_row}
use Rattle.layout.proofs.Row.append.Goals as goal

pub returns : goal.returns
unfolding appended_row
returns c = c.advance.ensures
