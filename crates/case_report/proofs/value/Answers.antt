use Rattle.std.proofs.Common.{refl, [], ◌∷◌}
use Rattle.octets.specs.Undivided.{Undivided}
use Rattle.case_report.proofs.value.Code.Mir.{function}

pub undivided : Undivided ("bigendian::put_number" ∷ "printing::hex" ∷ "printing::number" ∷ []) function
undivided = refl
