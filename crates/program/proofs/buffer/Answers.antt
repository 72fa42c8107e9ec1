use mathlib.Core.Path.{refl}
use mathlib.Core.List.{[]}
use Rattle.octets.specs.Undivided.{Undivided}
use Rattle.program.proofs.buffer.Code.Mir.{function}

pub undivided : Undivided [] function
undivided = refl
