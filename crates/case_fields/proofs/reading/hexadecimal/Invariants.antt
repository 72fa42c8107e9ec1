use Rattle.std.proofs.Common.{length}
use Rattle.case_fields.proofs.reading.hexadecimal.Given as goal

abbrev pub decreases-loop-rest : goal.decreases-loop-rest
decreases-loop-rest l = length l.rest
