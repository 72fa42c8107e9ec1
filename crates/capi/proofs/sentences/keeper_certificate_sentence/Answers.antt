use mathlib.Core.List.{[], ◌∷◌}
use mathlib.Core.Path.{refl}
use Rattle.octets.specs.Undivided.{Undivided}
use Rattle.capi.proofs.sentences.keeper_certificate_sentence.Code.Mir.{function}

pub undivided : Undivided ("refusal::outcome_number" ∷ "sentence::Said::of_certificate" ∷ "sentence_write::write" ∷ []) function
undivided = refl
