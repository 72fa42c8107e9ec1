-- `sentence::Said::of_receipt` meets its contract.
use mathlib.Core.List.{[]}
use mathlib.Core.Path.{refl}
use Rattle.octets.specs.Undivided.{Undivided}
use Rattle.sentence.proofs.Said.of_receipt.Code.Mir.{function}

pub undivided : Undivided [] function
undivided = refl
