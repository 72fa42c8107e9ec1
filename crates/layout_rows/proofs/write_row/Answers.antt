-- `layout_rows::write_row` meets its contract.
use Rattle.layout.proofs.CodeLaws.{row-fields}
use Rattle.layout_rows.proofs.write_row.Goals as goal

pub returns : goal.returns
returns c = row-fields c.args.part.now c.args.row c.requires.part_len c.put_number.ensures c.put_number-2.ensures c.put_number-3.ensures c.put_number-4.ensures c.put_number-5.ensures
