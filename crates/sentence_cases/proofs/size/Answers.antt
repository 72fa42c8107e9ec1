-- `sentence_cases::size` meets its contract.
use mathlib.Core.List.{[]}
use mathlib.Core.Path.{refl}
use Rattle.octets.specs.Undivided.{Undivided}
use Rattle.sentence_cases.proofs.size.Code.Mir.{function}

pub undivided : Undivided [] function
undivided = refl
