use mathlib.Core.Path.{◌≡◌, refl}
use mathlib.Core.Bool.{true}
use Rattle.refusal.specs.Unwritten.{unwritten, counts}
use Rattle.capi.proofs.surveys.keeper_survey_close.Code.Mir.{function}

-- no literal of the body becomes the count
pub counted : unwritten counts function.body ≡ true
counted = refl
