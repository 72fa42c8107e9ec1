use Rattle.std.proofs.Common.{◌-◌}
use Rattle.layout.specs.Strict.{strict_from}
use Rattle.table.proofs.TurnLaws.{FreeTurn}
use Rattle.table_walks.proofs.free_walk.Given as goal

abbrev pub invariant-loop-s : goal.invariant-loop-s
invariant-loop-s l = FreeTurn (strict_from l.cells.table.now l.cells.start l.cells.slots) l.cells.slots l.first l.count l.last l.s

abbrev pub decreases-loop-s : goal.decreases-loop-s
decreases-loop-s l = l.cells.slots - l.count
