use Rattle.std.proofs.Common.{refl, [], ◌∷◌}
use Rattle.octets.specs.Undivided.{Undivided}
use Rattle.case_report.proofs.show.Code.Mir.{function}

pub undivided : Undivided ("case_report::value" ∷ "core::convert::AnyFrom::from" ∷ "core::result::ResultFromResidualErrResidual::from_residual" ∷ "core::result::ResultTry::branch" ∷ "line_fields::find" ∷ "printing::text" ∷ []) function
undivided = refl
