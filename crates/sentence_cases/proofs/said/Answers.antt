-- `sentence_cases::said` meets its contract.
use mathlib.Core.List.{[], ◌∷◌}
use mathlib.Core.Path.{refl}
use Rattle.octets.specs.Undivided.{Undivided}
use Rattle.sentence_cases.proofs.said.Code.Mir.{function}

pub undivided : Undivided ("sentence_cases::show" ∷ "sentence_write::write" ∷ []) function
undivided = refl
