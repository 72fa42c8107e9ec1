-- `script::AnswerFromRefusal::from` meets its contract.
use Rattle.std.proofs.Common.{[], ◌∷◌, refl}
use Rattle.octets.specs.Undivided.{Undivided}
use Rattle.script.proofs.AnswerFromRefusal.from.Code.Mir.{function}

pub undivided : Undivided ("refusal::U8FromRefusal::from" ∷ []) function
undivided = refl
