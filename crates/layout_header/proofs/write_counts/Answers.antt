-- `layout_header::write_counts` meets its contract.
use Rattle.layout.proofs.CodeLaws.{count-fields}
use Rattle.layout_header.proofs.write_counts.Goals as goal

pub returns : goal.returns
returns c = count-fields c.args.part.now c.args.counts.logs c.args.counts.slots c.requires.part_len c.put_number.ensures c.put_number-2.ensures c.put_number-3.ensures c.put_number-4.ensures
