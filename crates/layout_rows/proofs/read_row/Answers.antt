-- `layout_rows::read_row` meets its contract.
use Rattle.layout.specs.Layout.{read_row}
use Rattle.layout.specs.Layout01.{read_row01}
use Rattle.layout_rows.proofs.read_row.Goals as goal

pub returns : goal.returns
unfolding read_row read_row01
returns c = λ i. record { low = (c.read_row01.ensures i).low; high = (c.read_row01.ensures i).high; first = (c.read_row01.ensures i).first; last = (c.read_row01.ensures i).last; reserve = c.number_at.ensures.0 i }
