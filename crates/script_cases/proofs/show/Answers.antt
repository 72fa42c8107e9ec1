-- `script_cases::show` meets its contract.
use mathlib.Core.List.{[], ◌∷◌}
use mathlib.Core.Path.{refl}
use Rattle.octets.specs.Undivided.{Undivided}
use Rattle.script_cases.proofs.show.Code.Mir.{function}

pub undivided : Undivided ("core::convert::AnyFrom::from" ∷ "core::result::ResultFromResidualErrResidual::from_residual" ∷ "core::result::ResultTry::branch" ∷ "script_cases::answers" ∷ []) function
undivided = refl
