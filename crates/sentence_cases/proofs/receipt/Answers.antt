-- `sentence_cases::receipt` meets its contract.
use mathlib.Core.List.{[], ◌∷◌}
use mathlib.Core.Path.{refl}
use Rattle.octets.specs.Undivided.{Undivided}
use Rattle.sentence_cases.proofs.receipt.Code.Mir.{function}

pub undivided : Undivided ("sentence::Said::of_receipt" ∷ "sentence_cases::said" ∷ []) function
undivided = refl
