use mathlib.Core.Path.{◌≡◌, refl}
use mathlib.Core.Bool.{true}
use Rattle.refusal.specs.Unwritten.{unwritten, counts}
use Rattle.capi.proofs.verdicts.keeper_verify_lookup.Code.Mir.{function}

-- no literal of the body becomes the count
pub counted : unwritten counts function.body ≡ true
counted = refl
