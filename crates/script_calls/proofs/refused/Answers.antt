-- `script_calls::refused` meets its contract.
use Rattle.std.proofs.Common.{[], ◌∷◌, refl}
use Rattle.octets.specs.Undivided.{Undivided}
use Rattle.script_calls.proofs.refused.Code.Mir.{function}

pub undivided : Undivided ("refusal::U8FromRefusal::from" ∷ "script::AnswerFromRefusal::from" ∷ "script_calls::row_of" ∷ []) function
undivided = refl
