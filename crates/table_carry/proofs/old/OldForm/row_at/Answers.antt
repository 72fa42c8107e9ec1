-- `table_carry::old::OldForm::row_at` meets its contract.
use Rattle.std.proofs.Common.{ap, ◌∙◌}
use Rattle.layout.specs.Layout01.{read_row01}
use Rattle.layout.proofs.Layout01Laws.{row_there01}
use Rattle.table_carry.proofs.old.OldForm.row_at.Goals as goal

pub returns : goal.returns
returns c = c.read_row01.ensures ∙ ap read_row01 c.array_at.ensures ∙ row_there01 c.args.table.now c.args.counts.logs c.args.counts.slots c.args.g c.requires.counted c.requires.g_lt_logs
