-- `layout_header::keeper_of` meets its contract.
use Rattle.layout.specs.Layout.{keeper_of}
use Rattle.layout_header.proofs.keeper_of.Goals as goal

pub returns : goal.returns
unfolding keeper_of
returns c = c.number_at.ensures.0
