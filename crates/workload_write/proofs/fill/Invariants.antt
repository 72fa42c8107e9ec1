use Rattle.workload_write.proofs.FillLaws.{Filling}
use Rattle.workload_write.proofs.fill.Given as goal

abbrev pub invariant-loop-out : goal.invariant-loop-out
invariant-loop-out l = Filling l.initial.out l.initial.script l.out l.script l.to

abbrev pub decreases-loop-out : goal.decreases-loop-out
decreases-loop-out l = l.script.count
