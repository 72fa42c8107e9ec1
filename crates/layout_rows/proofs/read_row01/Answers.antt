-- `layout_rows::read_row01` meets its contract.
use Rattle.layout.specs.Layout01.{read_row01}
use Rattle.layout_rows.proofs.read_row01.Goals as goal

pub returns : goal.returns
unfolding read_row01
returns c = λ i. record { low = c.number_at.ensures.0 i; high = c.number_at-2.ensures.0 i; first = c.number_at-3.ensures.0 i; last = c.number_at-4.ensures.0 i; reserve = 0 }
