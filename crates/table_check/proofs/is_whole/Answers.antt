-- `table_check::is_whole` meets its contract.
use Rattle.std.proofs.Common.{ap, ◌∙◌}
use Rattle.table.proofs.CheckLaws.{check_number, map_number, check-number}
use Rattle.table_check.proofs.is_whole.Goals as goal

pub returns : goal.returns
returns c = map_number _ c.check.result c.map.result c.map.ensures.cases ∙ ap check_number c.check.ensures ∙ check-number c.args.table.now 0
