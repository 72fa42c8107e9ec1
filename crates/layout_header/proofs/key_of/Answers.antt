-- `layout_header::key_of` meets its contract.
use Rattle.layout.specs.Layout.{key_of}
use Rattle.layout_header.proofs.key_of.Goals as goal

pub returns : goal.returns
unfolding key_of
returns c = c.array_at.ensures
