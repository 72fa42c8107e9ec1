-- `sentence::Said::of_certificate` meets its contract.
use mathlib.Core.List.{[]}
use mathlib.Core.Path.{refl}
use Rattle.octets.specs.Undivided.{Undivided}
use Rattle.sentence.proofs.Said.of_certificate.Code.Mir.{function}

pub undivided : Undivided [] function
undivided = refl
