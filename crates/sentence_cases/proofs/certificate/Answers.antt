-- `sentence_cases::certificate` meets its contract.
use mathlib.Core.List.{[], ◌∷◌}
use mathlib.Core.Path.{refl}
use Rattle.octets.specs.Undivided.{Undivided}
use Rattle.sentence_cases.proofs.certificate.Code.Mir.{function}

pub undivided : Undivided ("sentence::Said::of_certificate" ∷ "sentence_cases::said" ∷ []) function
undivided = refl
