use Rattle.std.proofs.Common.{map}
use Rattle.layout.specs.Image.{fresh_row}
use Rattle.layout.proofs.FillLaws.{RowsFilled}
use Rattle.table_format.proofs.fill_rows.Given as goal

abbrev pub invariant-loop-g : goal.invariant-loop-g
invariant-loop-g l = RowsFilled (map fresh_row l.reserves) l.initial.part l.part l.g
