-- `layout_header::counts_of` meets its contract.
use Rattle.layout.specs.Layout.{logs_of, slots_of}
use Rattle.layout_header.proofs.counts_of.Goals as goal

pub returns-clause-are : goal.returns-clause-are
unfolding logs_of slots_of
returns-clause-are c = (c.number_at.ensures.0, c.number_at-2.ensures.0)
