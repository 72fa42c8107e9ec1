use Rattle.std.proofs.Common.{refl, [], ◌∷◌}
use Rattle.octets.specs.Undivided.{Undivided}
use Rattle.case_report.proofs.refused.Code.Mir.{function}

pub undivided : Undivided ("case_report::show" ∷ "refusal::U8FromRefusal::from" ∷ []) function
undivided = refl
