-- `layout_rows::row_at` meets its contract.
use mathlib.Core.Path.{ap, ◌∙◌}
use Rattle.layout.specs.Layout.{read_row}
use Rattle.layout.proofs.CodeLaws.{row-there}
use Rattle.layout_rows.proofs.row_at.Goals as goal

pub returns : goal.returns
returns c = let t = c.args.lent in c.read_row.ensures ∙ ap read_row c.array_at.ensures ∙ row-there t.table.now t.counts.logs t.counts.slots t.counted c.row_offset.result c.args.g c.row_offset.ensures c.requires
