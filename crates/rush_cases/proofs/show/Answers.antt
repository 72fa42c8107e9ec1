use Rattle.std.proofs.Common.{refl, [], ◌∷◌}
use Rattle.octets.specs.Undivided.{Undivided}
use Rattle.rush_cases.proofs.show.Code.Mir.{function}

pub undivided : Undivided ("core::convert::AnyFrom::from" ∷ "core::result::ResultFromResidualErrResidual::from_residual" ∷ "core::result::ResultTry::branch" ∷ "rush_cases::answer" ∷ []) function
undivided = refl
