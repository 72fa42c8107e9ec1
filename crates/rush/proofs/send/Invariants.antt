use Rattle.std.proofs.Common.{length, ◌≡◌}
use Rattle.rush.proofs.send.Given as goal

abbrev pub invariant-loop-script : goal.invariant-loop-script
invariant-loop-script g l = length l.out ≡ 65536

abbrev pub decreases-loop-script : goal.decreases-loop-script
decreases-loop-script g l = l.script.count
