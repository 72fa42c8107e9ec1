-- `layout_header::constants_fit` meets its contract.
use Rattle.std.proofs.Common.{arith, sym, ◌∙◌}
use Rattle.layout.proofs.HeaderLaws.{no-mark, by_zero}
use Rattle.layout_header.proofs.constants_fit.Goals as goal

pub returns-then-has_mark : goal.returns-then-has_mark
returns-then-has_mark c = by_zero c.args.table.now (λ i. omega (arith, c.type_inv.table i)) c.requires (sym c.has_mark.ensures ∙ c.if-has_mark.true) c.number_at.ensures.0

pub returns-else-has_mark : goal.returns-else-has_mark
returns-else-has_mark c = no-mark c.args.table.now (c.has_mark.ensures) c.if-has_mark.false
