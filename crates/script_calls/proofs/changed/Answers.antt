-- `script_calls::changed` meets its contract.
use Rattle.std.proofs.Common.{[], ◌∷◌, refl}
use Rattle.octets.specs.Undivided.{Undivided}
use Rattle.script_calls.proofs.changed.Code.Mir.{function}

pub undivided : Undivided ("script_calls::refused" ∷ []) function
undivided = refl
