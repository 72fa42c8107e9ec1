-- `survey::pack` meets its contract. Assumes nothing.
use native.Mathlib.Omega.{arith}
use Rattle.std.proofs.lemmas.Grind.{common_steps}
use Rattle.survey.specs.Packing.{packed, too_wide}
use Rattle.survey.proofs.PackingLaws.{packing-away, packing-at}
use Rattle.survey.proofs.pack.Goals as goal

pub returns-then-survey-ge-SURVEYS : goal.returns-then-survey-ge-SURVEYS
unfolding too_wide
returns-then-survey-ge-SURVEYS c = packing-away c.args.survey.0 c.args.reading.0 (grind (arith, common_steps))

pub returns : goal.returns
unfolding packed too_wide
returns c = packing-at c.args.survey.0 c.args.reading.0 (grind (arith, common_steps))
