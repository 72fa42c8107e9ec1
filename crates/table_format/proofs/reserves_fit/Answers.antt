-- `table_format::reserves_fit` meets its contract.
use Rattle.std.proofs.Common.{sym, ◌∙◌}
use Rattle.table.proofs.SumLaws.{take-away, too_much, none_left}
use Rattle.table_format.proofs.reserves_fit.Goals as goal

pub returns-then-left-reserve : goal.returns-then-left-reserve
returns-then-left-reserve c = too_much c.args.reserves.now c.loop-reserve.reserve-index c.loop-reserve.left c.loop-reserve-test.true c.if-left-reserve.true ∙ sym c.loop-reserve.invariant

pub loop-reserve-preserved : goal.loop-reserve-preserved
loop-reserve-preserved c = c.loop-reserve.invariant ∙ take-away c.args.reserves.now c.loop-reserve.reserve-index c.loop-reserve.left c.loop-reserve-test.true c.if-left-reserve.false

pub returns : goal.returns
returns c = none_left c.args.reserves.now c.loop-reserve.reserve-index c.loop-reserve.left c.loop-reserve-test.false ∙ sym c.loop-reserve.invariant
