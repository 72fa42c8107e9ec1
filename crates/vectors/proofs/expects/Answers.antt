-- `vectors::expects` meets its contract.
use Rattle.std.proofs.Common.{[], ◌∷◌, refl}
use Rattle.octets.specs.Undivided.{Undivided}
use Rattle.vectors.proofs.expects.Code.Mir.{function}

pub undivided : Undivided ("core::convert::AnyFrom::from" ∷ "core::result::ResultFromResidualErrResidual::from_residual" ∷ "core::result::ResultTry::branch" ∷ "printing::text" ∷ []) function
undivided = refl
