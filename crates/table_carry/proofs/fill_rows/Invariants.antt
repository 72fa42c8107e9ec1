use Rattle.layout.specs.Layout01.{read01}
use Rattle.layout.proofs.FillLaws.{RowsFilled}
use Rattle.table_carry.proofs.fill_rows.Given as goal

abbrev pub invariant-loop-g : goal.invariant-loop-g
invariant-loop-g l = RowsFilled (read01 l.old).rows l.initial.part l.part l.g
