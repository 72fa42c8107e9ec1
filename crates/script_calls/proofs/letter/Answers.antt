-- `script_calls::letter` meets its contract.
use Rattle.std.proofs.Common.{[], refl}
use Rattle.octets.specs.Undivided.{Undivided}
use Rattle.script_calls.proofs.letter.Code.Mir.{function}

pub undivided : Undivided [] function
undivided = refl
