-- `survey_calls::close::close` meets its contract. Assumes nothing.
use mathlib.Core.Path.{◌≡◌, refl}
use Rattle.octets.specs.Octets.{zeros}
use Rattle.survey.proofs.CallLaws.{closed-change}
use mathlib.Core.Bool.{true}
use Rattle.refusal.specs.Unwritten.{unwritten, counts}
use Rattle.survey_calls.proofs.close.close.Code.Mir.{function}
use Rattle.survey_calls.proofs.close.close.Goals as goal

-- no literal of the body becomes the count
pub counted : unwritten counts function.body ≡ true
counted = refl

pub returns : goal.returns
unfolding zeros
returns c = closed-change c.args.table.now c.args.log c.args.survey.0 _ _ c.args.value.now c.last_reading.ensures refl c.advance.ensures
