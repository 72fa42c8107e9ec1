use mathlib.Core.Path.{refl}
use mathlib.Core.List.{[], ◌∷◌}
use Rattle.octets.specs.Undivided.{Undivided}
use Rattle.printing.proofs.hex.Code.Mir.{function}

pub undivided : Undivided ("core::convert::AnyFrom::from" ∷ "core::result::ResultFromResidualErrResidual::from_residual" ∷ "core::result::ResultTry::branch" ∷ "printing::pair" ∷ "printing::text" ∷ []) function
undivided = refl
