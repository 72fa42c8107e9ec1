use mathlib.Core.List.{[], ◌∷◌}
use mathlib.Core.Path.{refl}
use Rattle.octets.specs.Undivided.{Undivided}
use Rattle.capi.proofs.sentences.keeper_receipt_sentence.Code.Mir.{function}

pub undivided : Undivided ("refusal::outcome_number" ∷ "sentence::Said::of_receipt" ∷ "sentence_write::write" ∷ []) function
undivided = refl
