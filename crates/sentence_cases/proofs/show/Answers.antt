-- `sentence_cases::show` meets its contract.
use mathlib.Core.List.{[], ◌∷◌}
use mathlib.Core.Path.{refl}
use Rattle.octets.specs.Undivided.{Undivided}
use Rattle.sentence_cases.proofs.show.Code.Mir.{function}

pub undivided : Undivided ("core::convert::AnyFrom::from" ∷ "core::result::ResultFromResidualErrResidual::from_residual" ∷ "core::result::ResultTry::branch" ∷ "printing::hex" ∷ "printing::number" ∷ "printing::text" ∷ "refusal::outcome_number" ∷ "sentence_cases::size" ∷ []) function
undivided = refl
