-- `table_walks::is_fresh` meets its contract.
use Rattle.std.proofs.Common.{◌∙◌}
use Rattle.table.proofs.FreshLaws.{fresh-same}
use Rattle.table_walks.proofs.is_fresh.Goals as goal

pub returns : goal.returns
returns c = c.eq.ensures ∙ fresh-same c.args.row c.fresh.ensures
