use Rattle.table.proofs.HeldLaws.{HeldTurn}
use Rattle.table_walks.proofs.held_walk.Given as goal

abbrev pub invariant-loop-g : goal.invariant-loop-g
invariant-loop-g g l = HeldTurn (g.F.Form.image l.table) l.counts.logs l.log l.g l.held l.lack l.others
