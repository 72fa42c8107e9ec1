use Rattle.std.proofs.Common.{◌-◌}
use Rattle.layout.specs.Strict.{strict_from}
use Rattle.table.proofs.TurnLaws.{LogTurn}
use Rattle.table_walks.proofs.log_walk.Given as goal

abbrev pub invariant-loop-s : goal.invariant-loop-s
invariant-loop-s l = LogTurn (strict_from l.cells.table.now l.cells.start l.cells.slots) l.cells.slots l.g l.row l.count l.floor l.last l.s

abbrev pub decreases-loop-s : goal.decreases-loop-s
decreases-loop-s l = l.cells.slots - l.count
