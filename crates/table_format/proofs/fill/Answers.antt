-- `table_format::fill` meets its contract.
use Rattle.std.proofs.Common.{◌∙◌}
use Rattle.table.proofs.FillLaws.{three}
use Rattle.table.proofs.FormattedLaws.{formatted-bytes}
use Rattle.table_format.proofs.fill.Goals as goal

pub returns : goal.returns
returns c =
    three c.args.table.now c.write_header.new.part c.fill_rows.new.part c.fill_slots.new.part c.args.slots c.args.keeper c.args.key.now c.args.reserves.now c.requires.table_len c.told-key c.write_header.ensures c.fill_rows.ensures c.fill_slots.ensures
    ∙ formatted-bytes c.args.slots c.args.keeper c.args.key.now c.args.reserves.now
