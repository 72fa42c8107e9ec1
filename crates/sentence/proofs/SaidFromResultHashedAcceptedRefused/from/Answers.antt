-- `sentence::SaidFromResultHashedAcceptedRefused::from` meets its contract.
use mathlib.Core.List.{[], ◌∷◌}
use mathlib.Core.Path.{refl}
use Rattle.octets.specs.Undivided.{Undivided}
use Rattle.sentence.proofs.SaidFromResultHashedAcceptedRefused.from.Code.Mir.{function}

pub undivided : Undivided ("refusal::U8FromRefusal::from" ∷ []) function
undivided = refl
